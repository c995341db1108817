-- How slots and their generations stand for what is held: a number is a generation and a slot. No public clause cites this module.
use Rattle.std.specs.Prelude.{◌≡◌, ℕ, zero, suc, ◌+◌, ◌*◌, ◌<◌, ◌≤◌, ◌/◌, ◌%◌, ◌==◌, nat_lt, Bool, true, false, not, is_some, cond, List, [], ◌∷◌, ◌++◌, length, Option, Some, None, slice_index_or}
use Rattle.slab.specs.Slab.{Slab, get, slab_len}
use Rattle.napi_types.specs.plain.Lists.{as_map}
use Rattle.generation_slab.specs.HeldPlaces.{HeldValue, HeldPlaces, standing}

-- how many slots a generation has
abbrev pub slots_in_all : ℕ
slots_in_all = 281474976710656

-- the number of a slot in a generation
abbrev pub number_of_slot : ℕ → ℕ → ℕ
number_of_slot generation k = generation * 281474976710656 + k + 1

-- the generation of a slot: that of what is there, or else of what comes next
abbrev pub generation_in : List ℕ → ℕ → ℕ
generation_in generations k = slice_index_or generations k 0

-- the numbers of a slot in the generations before this one
abbrev pub numbers_before : ℕ → ℕ → List ℕ
numbers_before zero k = []
numbers_before (suc generation) k = number_of_slot generation k ∷ numbers_before generation k

module _ {T : Type 0} where
  -- what is held in a slot: what is there, and nothing where its generation is above the last
  abbrev pub live_in : ℕ → ℕ → Option T → Option T
  live_in last generation o = cond (nat_lt last generation) None o

  abbrev pub live_at : Slab T → List ℕ → ℕ → ℕ → Option T
  live_at slots generations last k = live_in last (generation_in generations k) (get slots k)

  -- what stands in a slot of this generation that holds this
  abbrev pub standing_in : ℕ → ℕ → Option T → Option (HeldValue T)
  standing_in generation k (Some v) = Some (record { number = number_of_slot generation k; value = v })
  standing_in generation k None = None

  -- the numbers that it has issued
  abbrev pub issued_in : ℕ → ℕ → Option T → List ℕ
  issued_in generation k None = numbers_before generation k
  issued_in generation k (Some v) = numbers_before (suc generation) k

  -- those of the slots from this one on, of which each holds what it holds
  abbrev pub places_from : (ℕ → Option T) → ℕ → List ℕ → List (Option (HeldValue T))
  places_from live k [] = []
  places_from live k (g ∷ gs) = standing_in g k (live k) ∷ places_from live (suc k) gs

  abbrev pub issued_from : (ℕ → Option T) → ℕ → List ℕ → List ℕ
  issued_from live k [] = []
  issued_from live k (g ∷ gs) = issued_in g k (live k) ++ issued_from live (suc k) gs

  abbrev pub places_of : (ℕ → Option T) → List ℕ → ℕ → HeldPlaces T
  places_of live generations room = record { places = places_from live 0 generations; issued = as_map (λ n. n) (issued_from live 0 generations); room = room }

  -- each slot that holds something has a generation, and each number fits
  pub record HaveGenerations (live : ℕ → Option T) (generations : List ℕ) : Type 0 where
    pub few : length generations < 281474976710656
    pub empty : (k : ℕ) → length generations ≤ k → live k ≡ None

  -- so many values more take no memory: the slots have room for them, and for each slot that there may be then the generations have room
  pub record HasRoom (slots : Slab T) (width room : ℕ) : Type 0 where
    pub fits : slab_len slots + room ≤ slots.capacity
    pub wide : 0 < room → slots.capacity ≤ width
    pub few : 0 < room → slots.capacity < 281474976710656

  -- a slot above the last generation is never vacant, and so never used again
  pub record IsInOrder (slots : Slab T) (generations : List ℕ) (last count width room : ℕ) : Type 0 where
    pub few : length generations < 281474976710656
    pub low : last < 65536
    pub empty : (k : ℕ) → length generations ≤ k → get slots k ≡ None
    pub retired : (k : ℕ) → get slots k ≡ None → generation_in generations k ≤ last
    pub counted : count ≡ length (standing (places_from (live_at slots generations last) 0 generations))
    pub reserved : HasRoom slots width room

  -- the mark of each slot is set exactly where nothing is held; one that has no mark counts as set
  abbrev pub MarksVacant : (ℕ → Option T) → List Bool → Type 0
  MarksVacant live marks = (k : ℕ) → slice_index_or marks k true ≡ not (is_some (live k))

  -- the slots and their generations are in order; each slot that has a generation has a mark, and so has each that there may be where memory is reserved;
  -- marks come 64 at a time
  pub record IsKept (slots : Slab T) (generations : List ℕ) (last count width room : ℕ) (marks : List Bool) : Type 0 where
    pub order : IsInOrder slots generations last count width room
    pub vacant : MarksVacant (live_at slots generations last) marks
    pub long : length generations ≤ length marks
    pub marked : 0 < room → slots.capacity ≤ length marks
    pub whole : length marks % 64 ≡ 0

  -- what a slot of this generation holds, at a number of that one, and whether that number was issued
  abbrev pub value_in : Option T → ℕ → ℕ → Option T
  value_in (Some v) here asked = cond (here == asked) (Some v) None
  value_in None here asked = None

  abbrev pub given_in : Option T → ℕ → ℕ → Bool
  given_in None here asked = nat_lt asked here
  given_in (Some v) here asked = not (nat_lt here asked)

  -- the value of a number, and whether it was issued
  abbrev pub value_at : (ℕ → Option T) → List ℕ → ℕ → Option T
  value_at live generations zero = None
  value_at live generations (suc at) =
      value_in (live (at % slots_in_all)) (generation_in generations (at % slots_in_all)) (at / slots_in_all)

  abbrev pub is_issued : (ℕ → Option T) → List ℕ → ℕ → Bool
  is_issued live generations zero = false
  is_issued live generations (suc at) =
      given_in (live (at % slots_in_all)) (generation_in generations (at % slots_in_all)) (at / slots_in_all)
