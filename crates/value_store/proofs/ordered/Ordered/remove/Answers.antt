use Rattle.std.proofs.Common.{◌∙◌, nat_eq, is_some, ap, sym}
use Rattle.std.specs.Map.{values_of, lookup, remove_entry}
use Rattle.value_store.proofs.FewProperties.{without-absent}
use Rattle.value_store.proofs.OrderedMaps.{found, missing, removed-is, kept-removed}
use Rattle.value_store.proofs.ordered.Ordered.remove.Goals as goal

pub invariant_of-self : goal.invariant_of-self
invariant_of-self c =
    kept-removed c.self.inside.by_number c.remove-in-Some.new.self c.self.inside.by_name c.remove.new.self c.args.name c.in-Some.number c.self.invariant c.remove-in-Some.ensures.ordered
    (sym c.in-Some.ensures.value) c.remove-in-Some.ensures.entries c.remove.ensures.updates.0

pub returns-in-Some-clause-removed : goal.returns-in-Some-clause-removed
returns-in-Some-clause-removed c =
    ap values_of c.remove-in-Some.ensures.entries
    ∙ removed-is c.self.inside.by_number c.self.inside.by_name c.args.name c.self.invariant c.in-Some.number (sym c.in-Some.ensures.value)
    ∙ ap (remove_entry (nat_eq c.args.name)) c.self.view_is

pub returns-in-Some-clause-was : goal.returns-in-Some-clause-was
returns-in-Some-clause-was c =
    let there = found c.self.inside.by_number c.self.inside.by_name c.args.name c.self.invariant c.in-Some.number (sym c.in-Some.ensures.value) in
    ap is_some (sym there.2 ∙ ap (lookup (nat_eq c.args.name)) c.self.view_is)

pub returns-in-None-clause-removed : goal.returns-in-None-clause-removed
returns-in-None-clause-removed c =
    let none = missing c.self.inside.by_number c.self.inside.by_name c.args.name c.self.invariant (sym c.in-None.ensures.value) in
    without-absent c.args.name (values_of c.self.inside.by_number.entries) (sym none) ∙ ap (remove_entry (nat_eq c.args.name)) c.self.view_is

pub returns-in-None-clause-was : goal.returns-in-None-clause-was
returns-in-None-clause-was c =
    let none = missing c.self.inside.by_number c.self.inside.by_name c.args.name c.self.invariant (sym c.in-None.ensures.value) in
    ap is_some (sym none ∙ ap (lookup (nat_eq c.args.name)) c.self.view_is)
