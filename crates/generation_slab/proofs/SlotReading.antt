-- The value of a number is read in its slot.
use Rattle.napi_types.proofs.plain.Found.{same-tells}
use Rattle.std.proofs.Common.{[], ◌∷◌, map, ◌≡◌, ◌≢◌, ◌∙◌, ℕ, zero, suc, ◌+◌, ◌-◌, ◌<◌, ◌≤◌, ◌/◌, ◌%◌, ◌==◌, nat_lt, Bool, true, false, cond, List, length, set, Option, Some, None, IsSome, is_some, option_map, slice_index_or, refl, ap, sym, arith}
use Rattle.std.proofs.lemmas.Bool.Decides.{nat_tests}
use Rattle.std.proofs.lemmas.List.{get_or_default, get_or_past}
use Rattle.generation_slab.specs.HeldPlaces.{HeldValue, HeldPlaces, value_of, with_value}
use Rattle.generation_slab.specs.SlotNumbers.{number_of_slot, generation_in, standing_in, places_from, places_of, value_in, value_at, HaveGenerations}
use Rattle.generation_slab.proofs.SlotNumbers.{tests-apart, test-same, other-generation, apart-slots}
use Rattle.generation_slab.proofs.Changing.{Changes, Stands}
use Rattle.generation_slab.proofs.HeldPlaces.{value-held, places-at, places-set, length-places}

-- a generation that is read
pub read-at : (gs xs : List ℕ) (at g : ℕ) → xs ≡ gs → true ≡ nat_lt (at % 281474976710656) (length xs) → g ≡ slice_index_or xs (at % 281474976710656) g
    → g ≡ generation_in gs (at % 281474976710656)
read-at gs xs at g same within is =
    is ∙ get_or_default xs (at % 281474976710656) g 0 (below (at % 281474976710656) (length xs) within) ∙ ap (λ ys. slice_index_or ys (at % 281474976710656) 0) same
  where
    below : (k m : ℕ) → true ≡ nat_lt k m → k < m
    below k m is = grind (arith, nat_tests)

module _ {T : Type 0} (live : ℕ → Option T) (gs : List ℕ) (r : ℕ) (sound : HaveGenerations live gs) (s : HeldPlaces T) (view : places_of live gs r ≡ s) where
  pub value-seen : (n : ℕ) → value_of s n ≡ value_at live gs n
  value-seen n = ap (λ t. value_of t n) (sym view) ∙ value-held live gs r sound n

  pub none-of-zero : (n : ℕ) → (1 ≤ n → ⊥) → value_of s n ≡ None
  none-of-zero n no_number = value-seen n ∙ ap (value_at live gs) (is n no_number)
    where
      is : (n : ℕ) → (1 ≤ n → ⊥) → n ≡ 0
      is zero never = refl
      is (suc m) never = absurd (never (omega arith))

  pub value-in-slot : (n at : ℕ) → 1 ≤ n → at ≡ n - 1
      → value_of s n ≡ value_in (live (at % 281474976710656)) (generation_in gs (at % 281474976710656)) (at / 281474976710656)
  value-in-slot n at above is = value-seen n ∙ ap (value_at live gs) (whole n at above is)
    where
      whole : (n at : ℕ) → 1 ≤ n → at ≡ n - 1 → n ≡ suc at
      whole n at above is = omega (arith, above, is)

  -- no slot has the number's generation, or nothing
  pub none-past : (n at : ℕ) → 1 ≤ n → at ≡ n - 1 → false ≡ nat_lt (at % 281474976710656) (length gs) → value_of s n ≡ None
  none-past n at above is past =
      value-in-slot n at above is
      ∙ ap (λ o. value_in o (generation_in gs (at % 281474976710656)) (at / 281474976710656)) (sound.empty (at % 281474976710656) (over (at % 281474976710656) (length gs) past))
    where
      over : (k m : ℕ) → false ≡ nat_lt k m → m ≤ k
      over k m is = grind (arith, nat_tests)

  pub none-other : (n at g : ℕ) → 1 ≤ n → at ≡ n - 1 → g ≡ generation_in gs (at % 281474976710656) → g ≢ at / 281474976710656 → value_of s n ≡ None
  none-other n at g above is generation apart =
      value-in-slot n at above is
      ∙ other-generation (live (at % 281474976710656)) (at / 281474976710656) (generation_in gs (at % 281474976710656))
      ((tests-apart (generation_in gs (at % 281474976710656)) (at / 281474976710656)).1 (λ same. apart (generation ∙ same)))

  pub none-there : (n at : ℕ) → 1 ≤ n → at ≡ n - 1 → live (at % 281474976710656) ≡ None → value_of s n ≡ None
  none-there n at above is vacant =
      value-in-slot n at above is ∙ ap (λ o. value_in o (generation_in gs (at % 281474976710656)) (at / 281474976710656)) vacant

  pub value-live : (n at g : ℕ) → 1 ≤ n → at ≡ n - 1 → g ≡ generation_in gs (at % 281474976710656) → g ≡ at / 281474976710656 → value_of s n ≡ live (at % 281474976710656)
  value-live n at g above is generation same =
      value-in-slot n at above is ∙ by (live (at % 281474976710656)) (test-same (generation_in gs (at % 281474976710656)) (at / 281474976710656) (sym generation ∙ same))
    where
      by : (o : Option T) → (generation_in gs (at % 281474976710656) == at / 281474976710656) ≡ true
          → value_in o (generation_in gs (at % 281474976710656)) (at / 281474976710656) ≡ o
      by None is = refl
      by (Some v) is = ap (λ b. cond b (Some v) None) is

  -- PLACES
  pub long : length s.places ≡ length gs
  long = ap (λ (t : HeldPlaces T). length t.places) (sym view) ∙ length-places live 0 gs

  pub place-seen : (at : ℕ) → at < length s.places → slice_index_or s.places at None ≡ standing_in (generation_in gs at) at (live at)
  place-seen at within =
      ap (λ (t : HeldPlaces T). slice_index_or t.places at None) (sym view) ∙ places-at live 0 gs at (omega (arith, within, long))
      ∙ ap (λ k. standing_in (generation_in gs at) k (live k)) (first at)
    where
      first : (m : ℕ) → 0 + m ≡ m
      first m = omega arith

  pub place-value : (at : ℕ) → at < length s.places → live at ≡ option_map (λ h. h.value) (slice_index_or s.places at None)
  place-value at within = sym (ap (option_map (λ (h : HeldValue T). h.value)) (place-seen at within) ∙ by (live at))
    where
      by : (o : Option T) → option_map (λ (h : HeldValue T). h.value) (standing_in (generation_in gs at) at o) ≡ o
      by None = refl
      by (Some v) = refl

  -- the number that stands there
  pub place-number : (at : ℕ) → at < length s.places → (o : Option T) → live at ≡ o → option_map (λ h. h.number) (slice_index_or s.places at None) ≡ option_map (λ v. number_of_slot (generation_in gs at) at) o
  place-number at within o is = ap (option_map (λ (h : HeldValue T). h.number)) (place-seen at within ∙ ap (standing_in (generation_in gs at) at) is) ∙ by o
    where
      by : (o : Option T) → option_map (λ (h : HeldValue T). h.number) (standing_in (generation_in gs at) at o) ≡ option_map (λ v. number_of_slot (generation_in gs at) at) o
      by None = refl
      by (Some v) = refl

  -- something stands at a place
  pub within-places : (at : ℕ) → IsSome (slice_index_or s.places at None) → at < length s.places
  within-places at there = less (nat_lt at (length s.places)) refl
    where
      past : (k m : ℕ) → nat_lt k m ≡ false → m ≤ k
      past k m is = grind (arith, nat_tests)

      below : (k m : ℕ) → nat_lt k m ≡ true → k < m
      below k m is = grind (arith, nat_tests)

      less : (b : Bool) → nat_lt at (length s.places) ≡ b → at < length s.places
      less true is = below at (length s.places) is
      less false is =
          let none : slice_index_or s.places at None ≡ None = get_or_past s.places at None (past at (length s.places) is) in
          let no : ⊥ = let told = ap is_some none in cc in absurd no

  pub place-taken : (at : ℕ) → IsSome (slice_index_or s.places at None) → (v : T) × (live at ≡ Some v)
  place-taken at there = by (live at) refl
    where
      within : at < length s.places
      within = within-places at there

      by : (o : Option T) → live at ≡ o → (v : T) × (live at ≡ Some v)
      by None is =
          let none : slice_index_or s.places at None ≡ None = place-seen at within ∙ ap (standing_in (generation_in gs at) at) is in
          let no : ⊥ = let told = ap is_some none in cc in absurd no
      by (Some x) is = (x, is)

  pub place-put : (new : ℕ → Option T) (at : ℕ) (v : T) → IsSome (slice_index_or s.places at None) → Changes live new at (Some v)
      → places_from new 0 gs ≡ set s.places at (option_map (with_value v) (slice_index_or s.places at None))
  place-put new at v there changes =
      places-set live new 0 gs at (omega (arith, within, long)) (λ j apart. changes.others j (λ same. apart (same ∙ sym (first at))))
      ∙ ap (set (places_from live 0 gs) at)
      (ap (λ k. standing_in (generation_in gs at) k (new k)) (first at) ∙ ap (standing_in (generation_in gs at) at) changes.changed ∙ sym (seen (live at) refl))
      ∙ ap (λ (t : HeldPlaces T). set t.places at (option_map (with_value v) (slice_index_or s.places at None))) view
    where
      within : at < length s.places
      within = within-places at there

      first : (m : ℕ) → 0 + m ≡ m
      first m = omega arith

      seen : (o : Option T) → live at ≡ o → option_map (with_value v) (slice_index_or s.places at None) ≡ Some (record { number = number_of_slot (generation_in gs at) at; value = v })
      seen None is =
          let none : slice_index_or s.places at None ≡ None = place-seen at within ∙ ap (standing_in (generation_in gs at) at) is in
          let no : ⊥ = let told = ap is_some none in cc in absurd no
      seen (Some w) is = ap (option_map (with_value v)) (place-seen at within ∙ ap (standing_in (generation_in gs at) at) is)

  -- where one value is changed, what stands under its number is
  pub places-changed : (new : ℕ → Option T) (n k : ℕ) (v : T) → Stands live gs n k → Changes live new k (Some v)
      → places_from new 0 gs ≡ map (option_map (λ h. cond (h.number == n) (with_value v h) h)) (places_from live 0 gs)
  places-changed new n k v at changes = from 0 gs (omega (arith, sound.few)) (λ j. ap (λ i. generation_in gs i) (sym (first j)))
    where
      first : (m : ℕ) → 0 + m ≡ m
      first m = omega arith

      change : HeldValue T → HeldValue T
      change h = cond (h.number == n) (with_value v h) h

      one : (g j : ℕ) → g ≡ generation_in gs j → j < 281474976710656 → standing_in g j (new j) ≡ option_map change (standing_in g j (live j))
      one g j is below = by (j == k) refl
        where
          by : (b : Bool) → (j == k) ≡ b → standing_in g j (new j) ≡ option_map change (standing_in g j (live j))
          by true same =
              let at_k : j ≡ k = same-tells j k same in
              let number : (number_of_slot g j == n) ≡ true = test-same (number_of_slot g j) n (ap (λ m. number_of_slot m j) is ∙ ap (λ i. number_of_slot (generation_in gs i) i) at_k ∙ at.is) in
              ap (standing_in g j) (ap new at_k ∙ changes.changed)
              ∙ ap (λ b. Some (cond b (record { number = number_of_slot g j; value = v }) (record { number = number_of_slot g j; value = at.value }))) (sym number)
              ∙ sym (ap (λ o. option_map change (standing_in g j o)) (ap live at_k ∙ at.there))
          by false apart =
              let other : j ≢ k = (tests-apart j k).0 apart in
              ap (standing_in g j) (changes.others j other) ∙ sym (kept (live j) (ap (λ m. number_of_slot g j == m) (sym at.is) ∙ apart-slots g j (generation_in gs k) k below at.small other))
            where
              kept : (o : Option T) → (number_of_slot g j == n) ≡ false → option_map change (standing_in g j o) ≡ standing_in g j o
              kept None is = refl
              kept (Some w) is = ap (λ b. Some (cond b (record { number = number_of_slot g j; value = v }) (record { number = number_of_slot g j; value = w }))) is

      from : (j : ℕ) (hs : List ℕ) → j + length hs ≤ 281474976710656 → ((i : ℕ) → generation_in hs i ≡ generation_in gs (j + i))
          → places_from new j hs ≡ map (option_map change) (places_from live j hs)
      from j [] fits same = refl
      from j (h ∷ hs) fits same =
          ap (λ o. o ∷ places_from new (suc j) hs) (one h j (same 0 ∙ ap (generation_in gs) (none j)) (omega (arith, fits)))
          ∙ ap (λ ps. option_map change (standing_in h j (live j)) ∷ ps) (from (suc j) hs (omega (arith, fits)) (λ i. same (suc i) ∙ ap (generation_in gs) (moved j i)))
        where
          none : (m : ℕ) → m + 0 ≡ m
          none m = omega arith

          moved : (m n : ℕ) → m + suc n ≡ suc m + n
          moved m n = omega arith
