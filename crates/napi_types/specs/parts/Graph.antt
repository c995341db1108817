-- The state of a store of values: a finite map from the numbers that name values to values, and the value graph that it stands for.
use Rattle.std.specs.Prelude.{◌≡◌, ℕ, ◌<◌, ◌≤◌, false, true, IsSome, List, map, filter_map, Option, Some, option_map}
use Rattle.std.specs.List.{All, range_with_len}
use Rattle.std.specs.Option.{unwrap_or}
use Rattle.napi_types.specs.plain.Lists.{found, has_number}
use Rattle.napi_types.specs.parts.Properties.{Property, HasDistinctNames}
use Rattle.napi_types.specs.parts.Values.{Value, children, value_at}

-- a value that stands in a store: the number that names it, and the value. Its properties, elements and link name other values by such numbers
pub record Stored : Type 0 where
  pub id : ℕ
  pub value : Value

-- a store's state: its places, each with the value that stands there or none, the numbers that it has issued, and how many values it has made
pub record StoreState : Type 0 where
  pub places : List (Option Stored)
  pub issued : List ℕ
  pub made : ℕ

-- the values that stand in the store
abbrev pub live : StoreState → List Stored
live s = filter_map (λ place. place) s.places

-- the value that a number names; none where no live value has the number
abbrev pub value_of : StoreState → ℕ → Option Value
value_of s id = option_map (λ x. x.value) (found (λ x. x.id) id (live s))

-- the number names a live value
abbrev pub IsLive : StoreState → ℕ → Type 0
IsLive s id = IsSome (value_of s id)

-- the creation number of the value that a number names
abbrev pub creation_number : StoreState → ℕ → Option ℕ
creation_number s id = option_map (λ v. v.number) (value_of s id)

-- the same, 0 where no live value has the number; creation numbers count from 1
abbrev pub number_in : StoreState → ℕ → ℕ
number_in s id = unwrap_or (creation_number s id) 0

-- a value, named by creation numbers instead of the store's
abbrev pub renamed : StoreState → Value → Value
renamed s v = record v {
  properties = map (λ (p : Property). record p { value = number_in s p.value }) v.properties;
  elements = map (option_map (number_in s)) v.elements;
  link = option_map (number_in s) v.link;
}

-- the value graph that a store's state stands for: its live values in the order in which they were made, each under its creation number
abbrev pub graph_of : StoreState → List Value
graph_of s = filter_map (λ number. option_map (renamed s) (value_at (map (λ x. x.value) (live s)) number)) (range_with_len 1 s.made)

-- what holds of a store's map from numbers to values, whatever was called
pub record IsSoundMap (values : ℕ → Option Value) (issued : List ℕ) (made : ℕ) : Type 0 where
  -- a live value's number was issued, and 0 never is
  pub given : (id : ℕ) → IsSome (values id) → has_number id issued ≡ true
  pub positive : has_number 0 issued ≡ false
  -- creation numbers count from 1, and no two live values have the same
  pub counted : (id : ℕ) (v : Value) → values id ≡ Some v → (0 < v.number) × (v.number ≤ made)
  pub apart : (m n : ℕ) (v w : Value) → values m ≡ Some v → values n ≡ Some w → v.number ≡ w.number → m ≡ n
  -- no name stands twice among a value's properties
  pub names : (id : ℕ) (v : Value) → values id ≡ Some v → HasDistinctNames v.properties
  -- what a live value names is live
  pub closed : (id : ℕ) (v : Value) → values id ≡ Some v → All (λ m. IsSome (values m)) (children v)

-- the same of a state
abbrev pub IsSoundStore : StoreState → Type 0
IsSoundStore s = IsSoundMap (value_of s) s.issued s.made
