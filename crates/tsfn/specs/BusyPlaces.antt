-- Which places of a list are busy, and the heap that has those that are.
use Rattle.std.specs.Prelude.{◌≡◌, ℕ, ◌+◌, ◌<◌, ◌≤◌, ◌==◌, Bool, true, false, not, cond, List, length, count_by, slice_index_or}
use Rattle.std.specs.BinaryHeap.{IsHeap}
use Rattle.std.specs.Ordering.{nat_cmp}
use Rattle.std.specs.declared.cmp.Reverse.{Reverse}

-- whether a place is busy; one past the end is not
abbrev pub is_busy_at : List Bool → ℕ → Bool
is_busy_at busy place = slice_index_or busy place false

-- a place is the lowest that is busy
pub record IsLowestBusy (busy : List Bool) (place : ℕ) : Type 0 where
  pub within : place < length busy
  pub is : is_busy_at busy place ≡ true
  pub lowest : (n : ℕ) → is_busy_at busy n ≡ true → place ≤ n

abbrev pub NoneIsBusy : List Bool → Type 0
NoneIsBusy busy = (n : ℕ) → is_busy_at busy n ≡ false

-- the heap has each place that is busy once, and nothing else. It has room for all places, and those in it and those that are not busy are no more than all
pub record IsInHeap (busy : List Bool) (heap : List (Reverse ℕ)) (count room : ℕ) : Type 0 where
  pub order : IsHeap (λ x y. nat_cmp y.0 x.0) heap
  pub once : (n : ℕ) → count_by (λ t. t.0 == n) heap ≡ cond (is_busy_at busy n) 1 0
  pub fits : count + count_by not busy ≤ length busy
  pub enough : length busy ≤ room
