-- Laws of finite maps: in what order records were added, and at what places references stand, shows nowhere in them.
use Rattle.std.specs.Prelude.{◌≡◌, ◌≢◌, ℕ, ◌<◌, ◌==◌, false, List, [], ◌∷◌, length, Some, None, slice_index_or, slice_set}
use Rattle.napi_types.specs.plain.Lists.{found, has, as_map, with_number}
use Rattle.napi_types.specs.parts.References.{Reference, ReferenceMap, reference_at, with_reference}
use Rattle.machine_laws.specs.Consistency.{RisesBy}
use Rattle.napi_reference.specs.ReferencePlaces.{ReferencePlaces, standing, map_of}

-- one reference more of a map
pub record AddsOne (m : ReferenceMap) (n value count : ℕ) : Type 0 where
  -- it is found by its number, and under any other number what was found before
  pub there : reference_at (with_reference n value count m) n ≡ Some (record { number = n; value = Some value; count = count })
  pub others : (k : ℕ) → (n == k) ≡ false → reference_at (with_reference n value count m) k ≡ reference_at m k
  -- two of different numbers come to the same map, whichever was first
  pub order : (k w c : ℕ) → (n == k) ≡ false → with_reference n value count (with_reference k w c m) ≡ with_reference k w c (with_reference n value count m)

-- whatever list the map is
abbrev pub ReferencesHaveNoOrder : Type 0
ReferencesHaveNoOrder = (m : ReferenceMap) (n value count : ℕ) → AddsOne m n value count

-- the same of numbers that were issued
abbrev pub NumbersHaveNoOrder : Type 0
NumbersHaveNoOrder = (n k : ℕ) (ns : List ℕ) → with_number n (with_number k ns) ≡ with_number k (with_number n ns)

-- two lists of references by rising number are equal where each number finds the same in both
abbrev pub MapsAreTheirRecords : Type 0
MapsAreTheirRecords = (xs ys : List Reference) → RisesBy (λ r. r.number) xs → RisesBy (λ r. r.number) ys
    → ((n : ℕ) → found (λ r. r.number) n xs ≡ found (λ r. r.number) n ys) → xs ≡ ys

-- two references
abbrev pub first_reference : Reference
first_reference = record { number = 1; value = Some 6; count = 0 }

abbrev pub second_reference : Reference
second_reference = record { number = 2; value = Some 7; count = 0 }

-- the map of both, whichever was first, has them by rising number, and by no other order
pub record MapsRise : Type 0 where
  pub later_first : as_map (λ r. r.number) (second_reference ∷ first_reference ∷ []) ≡ first_reference ∷ second_reference ∷ []
  pub earlier_first : as_map (λ r. r.number) (first_reference ∷ second_reference ∷ []) ≡ first_reference ∷ second_reference ∷ []
  pub falling : as_map (λ r. r.number) (second_reference ∷ first_reference ∷ []) ≢ second_reference ∷ first_reference ∷ []

-- a reference is put into a place, and its number is issued
abbrev pub with_reference_at : ℕ → Reference → ReferencePlaces → ReferencePlaces
with_reference_at at r p = record { places = slice_set p.places at (Some r); issued = with_number r.number p.issued }

-- one of a new number that is put into an empty place, whichever that is, makes one reference more
abbrev pub PlacesHaveNoOrder : Type 0
PlacesHaveNoOrder = (p : ReferencePlaces) (at n value count : ℕ) → at < length p.places → slice_index_or p.places at None ≡ None
    → has (λ r. r.number) n (standing p.places) ≡ false
    → map_of (with_reference_at at (record { number = n; value = Some value; count = count }) p) ≡ with_reference n value count (map_of p)
