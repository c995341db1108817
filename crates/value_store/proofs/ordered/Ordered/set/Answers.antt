use Rattle.std.proofs.Common.{◌∙◌, nat_eq, ap, sym}
use Rattle.std.specs.Map.{values_of, lookup}
use Rattle.indexmap.specs.IndexMap.{insert_entry}
use Rattle.napi_types.proofs.plain.Options.{at-err}
use Rattle.value_store.proofs.OrderedMaps.{never-both, found, missing, changed-is, kept-changed}
use Rattle.value_store.proofs.ordered.Ordered.set.Goals as goal

pub returns-in_err-insert-in-Some-clause-absent : goal.returns-in_err-insert-in-Some-clause-absent
returns-in_err-insert-in-Some-clause-absent c =
    let there = found c.self.inside.by_number c.self.inside.by_name c.args.name c.self.invariant c.in-Some.number.now (sym c.in-Some.ensures.value) in
    absurd (never-both (c.args.name, there.0) (sym c.in_err-insert-in-Some.ensures.absent ∙ there.1))

pub invariant_of-self-in-Some : goal.invariant_of-self-in-Some
invariant_of-self-in-Some c =
    kept-changed c.self.inside.by_number c.insert.new.self c.self.inside.by_name c.self.inside.by_name c.args.name c.in-Some.number.now c.self.invariant c.insert.ensures.ordered
    c.args.to (sym c.in-Some.ensures.value) c.in_ok-insert-in-Some.ensures.entries

pub add-requires : goal.add-requires
add-requires c =
    ap (lookup (nat_eq c.args.name)) (sym c.self.view_is) ∙ missing c.self.inside.by_number c.self.inside.by_name c.args.name c.self.invariant (sym c.in-None.ensures.value)

pub returns-in_ok-insert-in-Some-clause-set : goal.returns-in_ok-insert-in-Some-clause-set
returns-in_ok-insert-in-Some-clause-set c =
    ap values_of c.in_ok-insert-in-Some.ensures.entries
    ∙ changed-is c.self.inside.by_number c.self.inside.by_name c.args.name c.self.invariant c.in-Some.number.now c.args.to (sym c.in-Some.ensures.value)
    ∙ ap (λ es. insert_entry nat_eq es c.args.name c.args.to) c.self.view_is

pub returns-in-None-clause-absent : goal.returns-in-None-clause-absent
returns-in-None-clause-absent c =
    at-err c.add.result (ap (lookup (nat_eq c.args.name)) (sym c.self.view_is) ∙ missing c.self.inside.by_number c.self.inside.by_name c.args.name c.self.invariant (sym c.in-None.ensures.value))
