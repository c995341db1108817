-- What the calls of a store change of its map from numbers to values.
use Rattle.std.specs.Prelude.{◌≡◌, ◌≢◌, ℕ, ◌+◌, ◌<◌, ◌==◌, ◌||◌, nat_eq, true, false, List, [], ◌∷◌, length, map, Option, Some, None, option_map, IfSome, IsSomeAnd, IsTrue, slice_index_or}
use Rattle.std.specs.List.{All, IsDistinct}
use Rattle.napi_types.specs.declared.body.Body.{Body}
use Rattle.napi_types.specs.declared.ids.ValueId.{ValueId}
use Rattle.napi_types.specs.plain.Lists.{has_number}
use Rattle.napi_types.specs.parts.Bodies.{is_object_like, is_linked}
use Rattle.napi_types.specs.parts.Graph.{StoreState, value_of, IsLive, creation_number, graph_of}
use Rattle.napi_types.specs.parts.Properties.{Property}
use Rattle.napi_types.specs.parts.Values.{Value, fresh_value, starting_values, value_at, children}
use Rattle.std.specs.Option.{unwrap_or}

-- the properties of the value that a number names, none where no live value has the number
abbrev pub properties_in : StoreState → ℕ → List Property
properties_in s id = unwrap_or (option_map (λ v. v.properties) (value_of s id)) []

-- the elements of the value that a number names, none where no live value has the number
abbrev pub elements_in : StoreState → ℕ → List (Option ℕ)
elements_in s id = unwrap_or (option_map (λ v. v.elements) (value_of s id)) []

-- the children of the value that a number names, none where no live value has the number
abbrev pub children_in : StoreState → ℕ → List ℕ
children_in s id = unwrap_or (option_map children (value_of s id)) []

-- the number names a live object or function
abbrev pub IsObject : StoreState → ℕ → Type 0
IsObject s id = IsSomeAnd (value_of s id) (λ v. IsTrue (is_object_like v.body))

-- the number names a live linked value
abbrev pub IsLinked : StoreState → ℕ → Type 0
IsLinked s id = IsSomeAnd (value_of s id) (λ v. IsTrue (is_linked v.body))

-- the number of a new value was never issued, and is not 0
abbrev pub IsFresh : ℕ → StoreState → Type 0
IsFresh id s = has_number id (0 ∷ s.issued) ≡ false

-- no number is issued, and no value made
pub record IssuesNothing (old new : StoreState) : Type 0 where
  pub issued : new.issued ≡ old.issued
  pub made : new.made ≡ old.made

-- the value of one number is changed so, and every other value is as before
pub record ChangesOnly (old new : StoreState) (id : ℕ) (change : Value → Value) : Type 0 where
  pub named : value_of new id ≡ option_map change (value_of old id)
  pub others : (n : ℕ) → n ≢ id → value_of new n ≡ value_of old n
  pub nothing_issued : IssuesNothing old new

-- one value more is live, and it is this one, under a number never issued before; every other value is as before
pub record MakesValue (old new : StoreState) (id : ℕ) (v : Value) : Type 0 where
  pub fresh : IsFresh id old
  pub named : value_of new id ≡ Some v
  pub others : (n : ℕ) → n ≢ id → value_of new n ≡ value_of old n
  pub issued : (n : ℕ) → has_number n new.issued ≡ ((n == id) || has_number n old.issued)
  pub made : new.made ≡ old.made + 1

-- the value that is made has the next creation number, no properties, no elements and no link
abbrev pub MakesFresh : StoreState → StoreState → ℕ → Body → Type 0
MakesFresh old new id b = MakesValue old new id (fresh_value (old.made + 1) b)

-- so many values and one more are made, the last under a number never issued before; what was issued before is live or not as before, with the same value
pub record MakesList (old new : StoreState) (id count : ℕ) : Type 0 where
  pub fresh : IsFresh id old
  pub number : creation_number new id ≡ Some (old.made + count + 1)
  pub others : (n : ℕ) → has_number n old.issued ≡ true → value_of new n ≡ value_of old n
  pub issued : (n : ℕ) → has_number n old.issued ≡ true → has_number n new.issued ≡ true
  pub made : new.made ≡ old.made + count + 1

-- the values of these numbers are live no more, and every other value is as before
pub record Frees (old new : StoreState) (ids : List ℕ) : Type 0 where
  pub gone : (n : ℕ) → has_number n ids ≡ true → value_of new n ≡ None
  pub others : (n : ℕ) → has_number n ids ≡ false → value_of new n ≡ value_of old n
  pub nothing_issued : IssuesNothing old new

-- the numbers in a list
abbrev pub numbers_of : List ValueId → List ℕ
numbers_of list = map (λ v. v.0) list

-- the values of these numbers may be freed: all are live and distinct, none is a starting value, and no other value names one of them
pub record CanFree (s : StoreState) (ids : List ℕ) : Type 0 where
  pub live : All (IsLive s) ids
  pub distinct : IsDistinct nat_eq ids
  pub not_starting : All (λ id. IfSome (creation_number s id) (λ number. 5 < number)) ids
  pub unnamed : (n : ℕ) (v : Value) → value_of s n ≡ Some v → has_number n ids ≡ false → All (λ m. has_number m ids ≡ false) (children v)

-- the number of the value that stands at a place
abbrev pub id_at : StoreState → ℕ → Option ℕ
id_at s place = option_map (λ x. x.id) (slice_index_or s.places place None)

-- no number stands at two places
abbrev pub EachStandsOnce : StoreState → Type 0
EachStandsOnce s = (id first second : ℕ) → id_at s first ≡ Some id → id_at s second ≡ Some id → first ≡ second

-- a new store has the five starting values and nothing else
pub record IsNew (s : StoreState) : Type 0 where
  pub graph : graph_of s ≡ starting_values
  pub made : s.made ≡ 5

-- the number names the starting value of that place in their order
pub record IsStarting (s : StoreState) (which id : ℕ) : Type 0 where
  pub number : creation_number s id ≡ Some (which + 1)
  pub body : option_map (λ v. v.body) (value_of s id) ≡ option_map (λ v. v.body) (value_at starting_values (which + 1))

-- the value stands at that place and at no other
pub record StandsAt (s : StoreState) (id place : ℕ) : Type 0 where
  pub within : place < length s.places
  pub there : id_at s place ≡ Some id
  pub only : (other : ℕ) → id_at s other ≡ Some id → other ≡ place
