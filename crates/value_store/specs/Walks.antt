-- What walks over a value's properties and children have left.
use Rattle.std.specs.Prelude.{ℕ, List, Option, [], ◌∷◌, ◌++◌, map, option_map, option_to_list}
use Rattle.napi_types.specs.declared.ids.ValueId.{ValueId}
use Rattle.napi_types.specs.parts.Properties.{Property}
use Rattle.value_store.specs.declared.walk.EntriesLeft.{EntriesLeft}
use Rattle.value_store.specs.declared.walk.EntriesLeft.TheVariants as left
use Rattle.value_store.specs.PropertyMaps.{numbers_in}

-- each name's number and its value
abbrev pub entries_left : EntriesLeft → List (ℕ × ValueId)
entries_left left.Nothing = []
entries_left (left.One name to) = (name.0, to) ∷ []
entries_left (left.Many entries) = entries
entries_left (left.Ordered entries) = entries

-- the number of each child: of a first one, of the values of properties, and of elements
abbrev pub children_left : Option ValueId → List Property → List (ℕ × ValueId) → List ℕ
children_left first properties elements = option_to_list (option_map (λ v. v.0) first) ++ (map (λ p. p.value) properties ++ numbers_in elements)
