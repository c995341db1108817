-- How the maps of a value stand for its properties and elements.
use Rattle.std.specs.Prelude.{ℕ, ◌+◌, ◌<◌, ◌≤◌, nat_eq, List, [], ◌∷◌, map, Option, option_map, IsSome}
use Rattle.std.specs.List.{IsDistinct, range_with_len}
use Rattle.std.specs.Map.{keys_of, lookup}
use Rattle.napi_types.specs.declared.ids.TextNo.{TextNo}
use Rattle.napi_types.specs.declared.ids.ValueId.{ValueId}
use Rattle.napi_types.specs.parts.Properties.{Property, most_index}

-- the properties and the elements of a value
pub record ListedParts : Type 0 where
  pub properties : List Property
  pub elements : List (Option ℕ)

-- an entry of the map from names to values is a property
abbrev pub property_of : ℕ × ValueId → Property
property_of e = record { name = e.0; value = e.1.0 }

-- the properties that the map's entries are, in their order
abbrev pub listed_properties : List (ℕ × ValueId) → List Property
listed_properties es = map property_of es

-- the properties of a value that has one
abbrev pub one_property : TextNo → ValueId → List Property
one_property name to = record { name = name.0; value = to.0 } ∷ []

-- what the map from indices to values has at an index, by the number of the value
abbrev pub element_of : List (ℕ × ValueId) → ℕ → Option ℕ
element_of es at = option_map (λ v. v.0) (lookup (nat_eq at) es)

-- so many elements: at each index what the map has there, and a hole where it has nothing
abbrev pub listed_elements : List (ℕ × ValueId) → ℕ → List (Option ℕ)
listed_elements es count = map (element_of es) (range_with_len 0 count)

-- the numbers of the values in a map, in the order of its entries
abbrev pub numbers_in : List (ℕ × ValueId) → List ℕ
numbers_in es = map (λ e. e.1.0) es

-- no index stands twice, each is below the count of the elements, and none is above 65,535
pub record AreElements (entries : List (ℕ × ValueId)) (count : ℕ) : Type 0 where
  pub indices : IsDistinct nat_eq (keys_of entries)
  pub within : (at : ℕ) → IsSome (lookup (nat_eq at) entries) → at < count
  pub short : count ≤ most_index + 1
