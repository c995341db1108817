use Rattle.std.proofs.Common.{◌∙◌, sym, ap, option_map}
use Rattle.napi_types.specs.declared.ids.ValueId.{ValueId}
use Rattle.value_store.proofs.ElementMaps.{element_at-listed}
use Rattle.value_store.proofs.elements.Elements.get.Goals as goal

pub returns : goal.returns
returns c =
    rw (← c.self.view_is) (ap (option_map (λ (v : ValueId). v.0)) (c.copied.ensures ∙ c.get.ensures.value) ∙ sym (element_at-listed c.self.inside.values.entries c.self.inside.count c.args.at c.self.invariant.within))
