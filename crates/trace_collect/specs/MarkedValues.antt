-- Which places of a store are marked, and which values are left to follow.
use Rattle.std.specs.Prelude.{◌≡◌, ◌⊎◌, ℕ, ◌+◌, Bool, true, if◌then◌else◌, List, [], ◌++◌, length, filter_map, Some, None}
use Rattle.std.specs.List.{All, range_with_len}
use Rattle.napi_types.specs.plain.Lists.{has_number}
use Rattle.napi_types.specs.parts.Graph.{StoreState, IsLive, number_in}
use Rattle.value_store.specs.StoreChanges.{id_at, children_in}
use Rattle.mark_bits.specs.PlaceMarks.{is_marked}
use Rattle.trace_collect.specs.Collects.{reached}

-- the place of the value of this number is marked
abbrev pub IsMarked : StoreState → List Bool → ℕ → Type 0
IsMarked s marks id = (place : ℕ) → id_at s place ≡ Some id → is_marked marks place ≡ true

-- no value is marked: a mark stands only where no value does
abbrev pub NoneIsMarked : StoreState → List Bool → Type 0
NoneIsMarked s marks = (place : ℕ) → is_marked marks place ≡ true → id_at s place ≡ None

-- the values that the roots reach are marked, and no others
abbrev pub AreMarked : StoreState → List ℕ → List Bool → Type 0
AreMarked s roots marks = (place id : ℕ) → id_at s place ≡ Some id → is_marked marks place ≡ has_number (number_in s id) (reached s roots)

-- the numbers of the values at the first so many places, without those that are marked
abbrev pub unmarked_ids : StoreState → List Bool → ℕ → List ℕ
unmarked_ids s marks many = filter_map (λ place. if is_marked marks place then None else id_at s place) (range_with_len 0 many)

-- how many values stand at places that are not marked
abbrev pub unmarked_count : StoreState → List Bool → ℕ
unmarked_count s marks = length (unmarked_ids s marks (length marks))

-- the values of these numbers are marked, and beside them only what was; each that was not is added to those that are left to follow
pub record Marks (s : StoreState) (ids : List ℕ) (old : List Bool) (old_left : List ℕ) (new : List Bool) (new_left : List ℕ) : Type 0 where
  pub marked : All (IsMarked s new) ids
  pub kept : (place : ℕ) → is_marked old place ≡ true → is_marked new place ≡ true
  pub added : (place id : ℕ) → id_at s place ≡ Some id → is_marked new place ≡ true → (is_marked old place ≡ true) ⊎ ((has_number id ids ≡ true) × (has_number id new_left ≡ true))
  pub waits : (id : ℕ) → has_number id old_left ≡ true → has_number id new_left ≡ true
  pub left : (id : ℕ) → has_number id new_left ≡ true → (has_number id old_left ≡ true) ⊎ (has_number id ids ≡ true)
  pub room : length new_left + unmarked_count s new ≡ length old_left + unmarked_count s old
  pub size : length new ≡ length old

-- of a list of numbers those before the rest are marked
pub record MarksUpTo (s : StoreState) (ids rest : List ℕ) (old : List Bool) (old_left : List ℕ) (new : List Bool) (new_left : List ℕ) : Type 0 where
  pub before : List ℕ
  pub whole : ids ≡ before ++ rest
  pub marks : Marks s before old old_left new new_left

-- the roots are marked, what is marked is reached, what is marked and not left to follow has its children marked, and what is left is live and marked
pub record IsMarking (s : StoreState) (roots : List ℕ) (marks : List Bool) (left : List ℕ) : Type 0 where
  pub rooted : All (IsMarked s marks) roots
  pub sound : (place id : ℕ) → id_at s place ≡ Some id → is_marked marks place ≡ true → has_number (number_in s id) (reached s roots) ≡ true
  pub followed : (place id : ℕ) → id_at s place ≡ Some id → is_marked marks place ≡ true → (has_number id left ≡ true) ⊎ All (IsMarked s marks) (children_in s id)
  pub waiting : (id : ℕ) → has_number id left ≡ true → IsLive s id × IsMarked s marks id

-- all that was left is followed, from whatever roots it came
abbrev pub Follows : StoreState → List Bool → List ℕ → List Bool → Type 0
Follows s old left new = (roots : List ℕ) → IsMarking s roots old left → IsMarking s roots new []
