-- What a slab with generations holds, as its callers see it.
use Rattle.std.specs.Prelude.{ℕ, ◌==◌, nat_eq, not, cond, List, [], map, filter, filter_map, Option, option_map}
use Rattle.std.specs.List.{IsDistinct}
use Rattle.napi_types.specs.plain.Lists.{found, as_map, with_record}

-- a value, and the number under which it is held
pub record HeldValue (T : Type 0) : Type 0 where
  pub number : ℕ
  pub value : T

-- each place, with what stands there, if something does; all numbers that were ever issued, as a finite map; and for how many values more the memory is reserved
pub record HeldPlaces (T : Type 0) : Type 0 where
  pub places : List (Option (HeldValue T))
  pub issued : List ℕ
  pub room : ℕ

module _ {T : Type 0} where
  -- what stands at places
  abbrev pub standing : List (Option (HeldValue T)) → List (HeldValue T)
  standing places = filter_map (λ place. place) places

  -- under no number do two values stand
  abbrev pub EachStandsOnce : HeldPlaces T → Type 0
  EachStandsOnce s = IsDistinct nat_eq (map (λ h. h.number) (standing s.places))

  -- all that is held, as a finite map by its number
  abbrev pub held : HeldPlaces T → List (HeldValue T)
  held s = as_map (λ h. h.number) (standing s.places)

  -- the value of a number
  abbrev pub value_of : HeldPlaces T → ℕ → Option T
  value_of s n = option_map (λ h. h.value) (found (λ h. h.number) n (held s))

  -- one value more of this number, the one of this number less, and another one under this number
  abbrev pub with_held : ℕ → T → List (HeldValue T) → List (HeldValue T)
  with_held n value hs = with_record (λ h. h.number) (record { number = n; value = value }) hs

  abbrev pub without_held : ℕ → List (HeldValue T) → List (HeldValue T)
  without_held n hs = filter (λ h. not (h.number == n)) hs

  abbrev pub with_value : T → HeldValue T → HeldValue T
  with_value value h = record h { value = value }

  abbrev pub with_held_value : ℕ → T → List (HeldValue T) → List (HeldValue T)
  with_held_value n value hs = map (λ h. cond (h.number == n) (with_value value h) h) hs

  -- the places, with another value where one stands under this number
  abbrev pub with_value_at : ℕ → HeldPlaces T → T → HeldPlaces T
  with_value_at n s value = record s { places = map (option_map (λ h. cond (h.number == n) (with_value value h) h)) s.places }

  -- nothing is held, no number was issued, and no memory is reserved
  abbrev pub nothing_held : HeldPlaces T
  nothing_held = record { places = []; issued = []; room = 0 }
