use Rattle.std.proofs.Common.{◌≡◌, ◌+◌, ◌∙◌, max, option_map, ap, arith}
use Rattle.napi_types.specs.declared.ids.ValueId.{ValueId}
use Rattle.napi_types.proofs.plain.Options.{at-err}
use Rattle.value_store.proofs.ElementMaps.{listed_elements-set, within-set, element_at-listed}
use Rattle.value_store.proofs.elements.Elements.set.Goals as goal

pub invariant_of-self-2 : goal.invariant_of-self-2
invariant_of-self-2 c = let count : c.max-self-inside.result ≡ max c.self.inside.count (c.args.at + 1) = omega (arith, c.max-self-inside.ensures) in rw count (record {
  indices = c.insert.ensures.unique;
  within = within-set c.self.inside.values.entries c.insert.new.self.entries c.self.inside.count c.args.at c.args.to c.self.invariant.within c.in_ok-insert.ensures.updates.0;
  short = omega (arith, c.self.invariant.short, c.requires);
})

pub returns-clause-set : goal.returns-clause-set
returns-clause-set c =
    let count : c.max-self-inside.result ≡ max c.self.inside.count (c.args.at + 1) = omega (arith, c.max-self-inside.ensures) in
    rw (← c.self.view_is, count) (listed_elements-set c.self.inside.values.entries c.insert.new.self.entries c.self.inside.count c.args.at c.args.to c.self.invariant.within c.in_ok-insert.ensures.updates.0)

pub returns-in_err-insert-clause-absent : goal.returns-in_err-insert-clause-absent
returns-in_err-insert-clause-absent c =
    at-err c.from_residual.result
    (rw (← c.self.view_is) (element_at-listed c.self.inside.values.entries c.self.inside.count c.args.at c.self.invariant.within ∙ ap (option_map (λ (v : ValueId). v.0)) c.in_err-insert.ensures.absent))
