-- The entries of a value's properties.
use Rattle.std.specs.Prelude.{ℕ, List}
use Rattle.napi_types.specs.declared.ids.ValueId.{ValueId}
use Rattle.value_store.specs.declared.properties.Listing.{Listing}
use Rattle.value_store.specs.declared.properties.Listing.TheVariants.{Few, Many, Ordered}

-- each name's number and its value, in the order in which the names were first set
abbrev pub entries_of : Listing → List (ℕ × ValueId)
entries_of (Few entries) = entries.items
entries_of (Many map) = map.value.entries
entries_of (Ordered properties) = properties.value
