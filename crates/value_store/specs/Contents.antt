-- How the records of a store stand for the store's state.
use Rattle.std.specs.Prelude.{◌≡◌, ℕ, ◌+◌, ◌-◌, ◌<◌, ◌≤◌, false, true, take, List, [], ◌∷◌, ◌++◌, length, map, Option, option_map, slice_index_or}
use Rattle.generation_slab.specs.HeldPlaces.{HeldValue, HeldPlaces, held, with_held}
use Rattle.generation_slab.specs.HeldPlaces as slab
use Rattle.napi_types.specs.declared.body.Body.{Body}
use Rattle.napi_types.specs.declared.ids.ValueId.{ValueId}
use Rattle.napi_types.specs.plain.Lists.{has_number, with_number}
use Rattle.napi_types.specs.parts.Bodies.{child_of, without_child}
use Rattle.napi_types.specs.parts.Graph.{Stored, StoreState, IsSoundStore, IsLive, value_of, number_in, graph_of}
use Rattle.napi_types.specs.parts.NewValues.{made_after, array_of}
use Rattle.napi_types.specs.parts.Properties.{Property}
use Rattle.napi_types.specs.parts.Values.{Value, fresh_value}
use Rattle.std.specs.List.{All, range_with_len}
use Rattle.value_store.specs.declared.contents.Contents.{Contents}
use Rattle.value_store.specs.declared.contents.Contents.TheVariants.{Plain, One, Full}
use Rattle.value_store.specs.PropertyMaps.{one_property}
use Rattle.value_store.specs.declared.record.ValueRecord.{ValueRecord}
use Rattle.value_store.specs.StoreChanges.{EachStandsOnce, IsStarting, IsFresh}

-- the value with this creation number that is and has this. The body that is kept names the child; in the value the child stands beside the body
abbrev pub value_here : ℕ → Contents → Value
value_here n (Plain b) = record (fresh_value n (without_child b)) { link = child_of b }
value_here n (One name to b) = record (fresh_value n (without_child b)) { properties = one_property name to; link = child_of b }
value_here n (Full b parts) = record (fresh_value n (without_child b)) { properties = parts.value.properties; elements = parts.value.elements; link = child_of b }

-- the body that is kept
abbrev pub body_here : Contents → Body
body_here (Plain b) = b
body_here (One name to b) = b
body_here (Full b parts) = b

-- its properties and its elements
abbrev pub properties_here : Contents → List Property
properties_here (Plain b) = []
properties_here (One name to b) = one_property name to
properties_here (Full b parts) = parts.value.properties

abbrev pub elements_here : Contents → List (Option ℕ)
elements_here (Plain b) = []
elements_here (One name to b) = []
elements_here (Full b parts) = parts.value.elements

-- it is and has what this value does, whatever its creation number
abbrev pub HasValue : Contents → (ℕ → Value) → Type 0
HasValue p value = (n : ℕ) → value_here n p ≡ value n

-- it is changed so
abbrev pub ChangesPlace : Contents → Contents → (Value → Value) → Type 0
ChangesPlace old new change = (n : ℕ) → value_here n new ≡ change (value_here n old)

-- the value of a record
abbrev pub value_of_record : ValueRecord → Value
value_of_record r = value_here r.number r.value

-- a value is named by the number under which its record is held
abbrev pub stored_as : HeldValue ValueRecord → Stored
stored_as h = record { id = h.number; value = value_of_record h.value }

-- each place has the value whose record stands there, and so many values were made
abbrev pub state_of : HeldPlaces ValueRecord → ℕ → StoreState
state_of s made = record { places = map (option_map stored_as) s.places; issued = s.issued; made = made }

-- one record more is held, under a number that is new
pub record AddsRecord (old new : HeldPlaces ValueRecord) (id : ℕ) (r : ValueRecord) : Type 0 where
  pub fresh : has_number id (0 ∷ old.issued) ≡ false
  pub holds : held new ≡ with_held id r (held old)
  pub issued : new.issued ≡ with_number id old.issued
  pub once : slab.EachStandsOnce new

-- what holds of each state: no number stands at two places, and the map from numbers to values is sound
pub record IsGood (s : StoreState) : Type 0 where
  pub once : EachStandsOnce s
  pub sound : IsSoundStore s

-- values were made, under these numbers, and go last in the graph in their order; what was there stays
pub record Grows (s t : StoreState) (vs : List Value) (ids : List ℕ) : Type 0 where
  pub good : IsGood t
  pub made : t.made ≡ s.made + length vs
  pub graph : graph_of t ≡ graph_of s ++ vs
  pub kept : (n : ℕ) → has_number n s.issued ≡ true → value_of t n ≡ value_of s n
  pub issued : (n : ℕ) → has_number n s.issued ≡ true → has_number n t.issued ≡ true
  pub many : length ids ≡ length vs
  pub live : All (IsLive t) ids
  pub numbers : map (number_in t) ids ≡ range_with_len (s.made + 1) (length ids)

-- values were made, the last of them under this number
pub record GrowsTo (s t : StoreState) (vs : List Value) (id : ℕ) : Type 0 where
  pub good : IsGood t
  pub made : t.made ≡ s.made + length vs
  pub graph : graph_of t ≡ graph_of s ++ vs
  pub kept : (n : ℕ) → has_number n s.issued ≡ true → value_of t n ≡ value_of s n
  pub issued : (n : ℕ) → has_number n s.issued ≡ true → has_number n t.issued ≡ true
  pub fresh : IsFresh id s
  pub live : IsLive t id
  pub number : number_in t id ≡ t.made

-- of an array of these bodies so many values are made, and are its elements; the other elements are still to be set
pub record ListsSoFar (old new : HeldPlaces ValueRecord) (made : ℕ) (bodies : List Body) (array : Contents) (at : ℕ) : Type 0 where
  pub ids : List ℕ
  pub grows : Grows (state_of old made) (state_of new (made + at)) (made_after made (take at bodies)) ids
  pub once : slab.EachStandsOnce new
  pub elements : HasValue array (λ n. array_of n (ids ++ range_with_len at (length bodies - at)))
  pub room : length bodies + 1 ≤ new.room + at

-- these numbers name the starting values, in their order
abbrev pub NameStarting : StoreState → List ValueId → Type 0
NameStarting s ids = (which : ℕ) (d : ValueId) → which < 5 → IsStarting s which (slice_index_or ids which d).0

-- what holds of the records of a store, of how many values were made, and of the numbers of the starting values
pub record IsKeptStore (s : HeldPlaces ValueRecord) (made : ℕ) (starting : List ValueId) : Type 0 where
  pub once : slab.EachStandsOnce s
  pub good : IsGood (state_of s made)
  pub starts : NameStarting (state_of s made) starting
