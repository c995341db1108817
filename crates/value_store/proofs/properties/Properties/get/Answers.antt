use Rattle.std.proofs.Common.{◌∙◌, sym, ap, option_map}
use Rattle.napi_types.specs.declared.ids.ValueId.{ValueId}
use Rattle.value_store.proofs.PropertyMaps.{property_at-listed_properties}
use Rattle.value_store.proofs.properties.Properties.get.Goals as goal

pub returns-in-Few : goal.returns-in-Few
returns-in-Few c = rw (← c.self.view_is, c.in-Few.is) (ap (option_map (λ (v : ValueId). v.0)) (rw c.deref.ensures.value at c.get_few.ensures) ∙ sym (property_at-listed_properties c.args.name.0 c.in-Few.entries.items))

pub returns-in-Many : goal.returns-in-Many
returns-in-Many c =
    rw (← c.self.view_is, c.in-Many.is)
    (ap (option_map (λ (v : ValueId). v.0)) (c.copied.ensures ∙ (rw c.deref-in-Many.ensures at c.get.ensures.value)) ∙ sym (property_at-listed_properties c.args.name.0 c.in-Many.map.value.entries))

pub returns-in-Ordered : goal.returns-in-Ordered
returns-in-Ordered c =
    rw (← c.self.view_is, c.in-Ordered.is)
    (ap (option_map (λ (v : ValueId). v.0)) (rw c.deref-in-Ordered.ensures at c.get-in-Ordered.ensures) ∙ sym (property_at-listed_properties c.args.name.0 c.in-Ordered.ordered.value))
