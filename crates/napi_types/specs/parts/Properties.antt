-- The properties and the elements of a value.
use Rattle.std.specs.Prelude.{ℕ, ◌+◌, ◌-◌, ◌==◌, nat_eq, cond, not, List, [], ◌∷◌, ◌++◌, length, map, filter, replicate, slice_index_or, slice_set, Option, Some, None, option_map}
use Rattle.std.specs.List.{IsDistinct}
use Rattle.napi_types.specs.plain.Lists.{found}

-- a property: the number of its name's text, and the number of its value
pub record Property : Type 0 where
  pub name : ℕ
  pub value : ℕ

-- how many names of an object are listed at most, and the greatest index of an element
abbrev pub most_names : ℕ
most_names = 65536

abbrev pub most_index : ℕ
most_index = 65535

-- the value of the property with the name, where there is one
abbrev pub property_at : ℕ → List Property → Option ℕ
property_at name ps = option_map (λ p. p.value) (found (λ p. p.name) name ps)

-- a name that is there keeps its place and takes the value; a new name goes last
abbrev pub property_set : ℕ → ℕ → List Property → List Property
property_set name to [] = record { name = name; value = to } ∷ []
property_set name to (p ∷ ps) = cond (p.name == name) (record p { value = to } ∷ ps) (p ∷ property_set name to ps)

-- the properties with other names, in their order
abbrev pub property_removed : ℕ → List Property → List Property
property_removed name ps = filter (λ p. not (p.name == name)) ps

-- no name stands twice
abbrev pub HasDistinctNames : List Property → Type 0
HasDistinctNames ps = IsDistinct nat_eq (map (λ p. p.name) ps)

-- the element of an index; none at a hole and past the end
abbrev pub element_at : ℕ → List (Option ℕ) → Option ℕ
element_at at es = slice_index_or es at None

-- the element of an index is set; holes fill what lies between the end and a later index
abbrev pub element_set : ℕ → ℕ → List (Option ℕ) → List (Option ℕ)
element_set at to es = slice_set (es ++ replicate (at + 1 - length es) None) at (Some to)
