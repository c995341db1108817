use Rattle.std.proofs.Common.{◌≡◌, ◌∙◌, ap, is_some}
use Rattle.value_store.specs.Listings.{entries_of}
use Rattle.value_store.specs.PropertyMaps.{listed_properties}
use Rattle.value_store.proofs.FewProperties.{distinct-remove_entry}
use Rattle.value_store.proofs.PropertyMaps.{property_at-listed_properties, listed_properties-remove_entry, is_some-option_map}
use Rattle.value_store.proofs.properties.Properties.remove.Goals.{in-Few, in-Many, in-Ordered}
use Rattle.value_store.proofs.properties.Properties.remove.Goals as goal

pub invariant_of-self : goal.invariant_of-self
invariant_of-self c =
    elim c.match-self.branch [
      | in-Few w ↦ rw (w.self-inside-is, w.remove_few.ensures.removed) (distinct-remove_entry c.args.name.0 w.in-Few.entries.items (rw w.in-Few.is at c.self.invariant))
      | in-Many w ↦ rw w.self-inside-is w.shift_remove.ensures.unique
      | in-Ordered w ↦
          rw (w.self-inside-is, w.remove.ensures.removed, w.deref_mut-in-Ordered.ensures.value)
          (distinct-remove_entry c.args.name.0 w.in-Ordered.ordered.value (rw w.in-Ordered.is at c.self.invariant))
    ]

pub returns-clause-removed : goal.returns-clause-removed
returns-clause-removed c =
    let before : listed_properties (entries_of c.self.inside.listing) ≡ c.args.self.now = c.self.view_is ∙ c.prepare_removal.ensures in
    elim c.match-self.branch [
      | in-Few w ↦ rw (w.self-inside-is, ← before, w.in-Few.is, w.remove_few.ensures.removed) (listed_properties-remove_entry c.args.name.0 w.in-Few.entries.items (rw w.in-Few.is at c.self.invariant))
      | in-Many w ↦ rw (w.self-inside-is, ← before, w.in-Many.is, w.shift_remove.ensures.entries, w.deref_mut.ensures.value) (listed_properties-remove_entry c.args.name.0 w.in-Many.map.value.entries (rw w.in-Many.is at c.self.invariant))
      | in-Ordered w ↦
          rw (w.self-inside-is, ← before, w.in-Ordered.is, w.remove.ensures.removed, w.deref_mut-in-Ordered.ensures.value)
          (listed_properties-remove_entry c.args.name.0 w.in-Ordered.ordered.value (rw w.in-Ordered.is at c.self.invariant))
    ]

pub returns-clause-was : goal.returns-clause-was
returns-clause-was c =
    let before : listed_properties (entries_of c.self.inside.listing) ≡ c.args.self.now = c.self.view_is ∙ c.prepare_removal.ensures in
    elim c.match-self.branch [
      | in-Few w ↦ rw (w.result-is, ← before, w.in-Few.is, property_at-listed_properties c.args.name.0 w.in-Few.entries.items, is_some-option_map) w.remove_few.ensures.was
      | in-Many w ↦
          rw (w.result-is, ← before, w.in-Many.is, property_at-listed_properties c.args.name.0 w.in-Many.map.value.entries, is_some-option_map)
          (w.is_some.ensures ∙ ap is_some (rw w.deref_mut.ensures.value at w.shift_remove.ensures.value))
      | in-Ordered w ↦
          rw (w.result-is, ← before, w.in-Ordered.is, property_at-listed_properties c.args.name.0 w.in-Ordered.ordered.value, is_some-option_map)
          (rw w.deref_mut-in-Ordered.ensures.value at w.remove.ensures.was)
    ]
