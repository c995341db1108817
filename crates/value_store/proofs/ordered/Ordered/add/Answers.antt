use Rattle.std.proofs.Common.{◌∙◌, nat_eq, ap}
use Rattle.std.specs.Map.{values_of, lookup}
use Rattle.indexmap.specs.IndexMap.{insert_entry}
use Rattle.value_store.proofs.OrderedMaps.{values-added, kept-added, kept-restored}
use Rattle.value_store.proofs.ordered.Ordered.add.Goals as goal

pub invariant_of-self-in-Ok : goal.invariant_of-self-in-Ok
invariant_of-self-in-Ok c =
    kept-added c.self.inside.by_number c.insert-2.new.self c.self.inside.by_name c.insert.new.self c.args.name c.in-Some.number c.self.invariant c.insert-2.ensures.ordered
    c.args.to c.in-Some.ensures (ap (lookup (nat_eq c.args.name)) c.self.view_is ∙ c.requires) c.in-Ok.ensures.entries c.in_ok-insert.ensures.updates.0

pub invariant_of-self-in-Err : goal.invariant_of-self-in-Err
invariant_of-self-in-Err c =
    kept-restored c.self.inside.by_number c.insert-2.new.self c.self.inside.by_name c.remove.new.self c.args.name c.in-Some.number c.self.invariant c.insert-2.ensures.ordered
    c.insert.new.self (ap (lookup (nat_eq c.args.name)) c.self.view_is ∙ c.requires) c.in-Err.ensures.err c.in_ok-insert.ensures.updates.0 c.remove.ensures.updates.0

pub returns-in-Ok-clause-set : goal.returns-in-Ok-clause-set
returns-in-Ok-clause-set c =
    ap values_of c.in-Ok.ensures.entries
    ∙ values-added c.args.name c.in-Some.number c.args.to c.self.inside.by_number.entries c.in-Some.ensures (ap (lookup (nat_eq c.args.name)) c.self.view_is ∙ c.requires)
    ∙ ap (λ es. insert_entry nat_eq es c.args.name c.args.to) c.self.view_is
