-- The value graph: a finite map from creation numbers to values.
use Rattle.std.specs.Prelude.{ℕ, ◌==◌, true, false, cond, List, [], ◌∷◌, ◌++◌, map, filter_map, Option, Some, None, option_map, not, filter}
use Rattle.std.specs.Option.{unwrap_or, option_and_then, option_to_list}
use Rattle.napi_types.specs.declared.body.Body.{Body}
use Rattle.napi_types.specs.declared.body.Body.TheVariants as body
use Rattle.napi_types.specs.plain.Lists.{found, has_number}
use Rattle.napi_types.specs.parts.Properties.{Property, property_set, property_removed, element_set}

-- a value: its creation number, what it is, its properties in the order in which their names were first set, and its elements, each a value's number or a hole.
-- Its link is one child more, by its number: a hidden one, which no property and no element names. No call of an addon sets a link
pub record Value : Type 0 where
  pub number : ℕ
  pub body : Body
  pub properties : List Property
  pub elements : List (Option ℕ)
  pub link : Option ℕ

-- a value as it is made: its number and what it is, with no properties, no elements and no link
abbrev pub fresh_value : ℕ → Body → Value
fresh_value n b = record { number = n; body = b; properties = []; elements = []; link = None }

-- a linked value as it is made: its child stands beside the body, which names none
abbrev pub linked_value : ℕ → ℕ → Option ℕ → Value
linked_value n tag to = record (fresh_value n (body.Linked tag None)) { link = to }

-- undefined, null, true, false and the global object have the numbers 1 to 5
abbrev pub undefined_value : ℕ
undefined_value = 1

abbrev pub null_value : ℕ
null_value = 2

abbrev pub true_value : ℕ
true_value = 3

abbrev pub false_value : ℕ
false_value = 4

abbrev pub global_value : ℕ
global_value = 5

abbrev pub starting_values : List Value
starting_values =
    fresh_value undefined_value body.Undefined ∷ fresh_value null_value body.Null ∷ fresh_value true_value (body.Boolean true) ∷ fresh_value false_value (body.Boolean false)
    ∷ fresh_value global_value (body.Object false false) ∷ []

-- the value of a number
abbrev pub value_at : List Value → ℕ → Option Value
value_at vs n = found (λ v. v.number) n vs

-- what the value of a number is; a number that no value has reads as undefined
abbrev pub body_of : List Value → ℕ → Body
body_of vs n = unwrap_or (option_map (λ v. v.body) (value_at vs n)) body.Undefined

-- its properties and its elements; a number that no value has has none
abbrev pub properties_of : List Value → ℕ → List Property
properties_of vs n = unwrap_or (option_map (λ v. v.properties) (value_at vs n)) []

abbrev pub elements_of : List Value → ℕ → List (Option ℕ)
elements_of vs n = unwrap_or (option_map (λ v. v.elements) (value_at vs n)) []

-- its link, where it has one
abbrev pub link_of : List Value → ℕ → Option ℕ
link_of vs n = option_and_then (λ v. v.link) (value_at vs n)

-- the values that a value's properties and elements name, and its link: what it reaches in one step
abbrev pub children : Value → List ℕ
children v = map (λ p. p.value) v.properties ++ filter_map (λ e. e) v.elements ++ option_to_list v.link

-- the value with a property set
abbrev pub with_property : ℕ → ℕ → Value → Value
with_property name to v = record v { properties = property_set name to v.properties }

-- the value without a property
abbrev pub without_property : ℕ → Value → Value
without_property name v = record v { properties = property_removed name v.properties }

-- the value with an element set
abbrev pub with_element : ℕ → ℕ → Value → Value
with_element at to v = record v { elements = element_set at to v.elements }

-- the value with another link
abbrev pub with_link : ℕ → Value → Value
with_link to v = record v { link = Some to }

-- the values with the one of a number changed so
abbrev pub value_changed : ℕ → (Value → Value) → List Value → List Value
value_changed n change vs = map (λ v. cond (v.number == n) (change v) v) vs

-- the values of these numbers, and the others
abbrev pub those_of : List ℕ → List Value → List Value
those_of ns vs = filter (λ v. has_number v.number ns) vs

abbrev pub all_but : List ℕ → List Value → List Value
all_but ns vs = filter (λ v. not (has_number v.number ns)) vs
