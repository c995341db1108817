-- What stands at places has the numbers of its slots.
use Rattle.std.proofs.Common.{◌≡◌, ◌≢◌, ◌∙◌, ℕ, zero, suc, ◌+◌, ◌<◌, ◌≤◌, ◌/◌, ◌%◌, ◌==◌, nat_eq, Bool, true, false, cond, List, [], ◌∷◌, length, map, set, Option, Some, None, option_map, slice_index_or, refl, ap, sym, arith}
use Rattle.std.specs.List.{IsDistinct, AllByRecursion}
use Rattle.std.proofs.lemmas.Map.Keys.{IsDistinct-cons}
use Rattle.napi_types.specs.plain.Lists.{found}
use Rattle.napi_types.proofs.plain.Found.{found-as_map, same-tells}
use Rattle.generation_slab.specs.HeldPlaces.{HeldValue, standing, held, value_of}
use Rattle.generation_slab.specs.SlotNumbers.{number_of_slot, generation_in, standing_in, places_from, places_of, value_in, value_at, HaveGenerations}
use Rattle.generation_slab.proofs.SlotNumbers.{apart-slots, one-slot, no-number, parted, slot-below}

module _ {T : Type 0} where
  abbrev number : HeldValue T → ℕ
  number h = h.number

  abbrev at_number : ℕ → T → HeldValue T
  at_number n v = record { number = n; value = v }

  -- A NUMBER IS FOUND AT ITS SLOT ALONE
  none-of-zero : (live : ℕ → Option T) (k : ℕ) (gs : List ℕ) → found number 0 (standing (places_from live k gs)) ≡ None
  none-of-zero live k [] = refl
  none-of-zero live k (g ∷ gs) = by (live k) (none-of-zero live (suc k) gs)
    where
      by : (o : Option T) → found number 0 (standing (places_from live (suc k) gs)) ≡ None
          → found number 0 (standing (standing_in g k o ∷ places_from live (suc k) gs)) ≡ None
      by None rest = rest
      by (Some v) rest = ap (λ b. cond b (Some (at_number (number_of_slot g k) v)) (found number 0 (standing (places_from live (suc k) gs)))) (no-number g k) ∙ rest

  none-later : (live : ℕ → Option T) (a key k : ℕ) (gs : List ℕ) → key < k → k + length gs ≤ 281474976710656
      → found number (number_of_slot a key) (standing (places_from live k gs)) ≡ None
  none-later live a key k [] later fits = refl
  none-later live a key k (g ∷ gs) later fits = by (live k) (none-later live a key (suc k) gs (omega (arith, later)) (omega (arith, fits)))
    where
      by : (o : Option T) → found number (number_of_slot a key) (standing (places_from live (suc k) gs)) ≡ None
          → found number (number_of_slot a key) (standing (standing_in g k o ∷ places_from live (suc k) gs)) ≡ None
      by None rest = rest
      by (Some v) rest =
          ap (λ b. cond b (Some (at_number (number_of_slot g k) v)) (found number (number_of_slot a key) (standing (places_from live (suc k) gs))))
          (apart-slots g k a key (omega (arith, fits)) (omega (arith, later, fits)) (λ same. omega (arith, same, later))) ∙ rest

  -- the value of a slot, where it has a generation
  abbrev value_from : List ℕ → ℕ → Option T → ℕ → Option T
  value_from [] i o a = None
  value_from (g ∷ gs) zero o a = value_in o g a
  value_from (g ∷ gs) (suc i) o a = value_from gs i o a

  found-from : (live : ℕ → Option T) (a key k i : ℕ) (gs : List ℕ) → key ≡ k + i → key < 281474976710656 → k + length gs ≤ 281474976710656
      → found number (number_of_slot a key) (standing (places_from live k gs)) ≡ option_map (at_number (number_of_slot a key)) (value_from gs i (live key) a)
  found-from live a key k i [] is below fits = refl
  found-from live a key k zero (g ∷ gs) is below fits = rw at_k (by (live k) (none-later live a k (suc k) gs (omega arith) (omega (arith, fits))))
    where
      at_k : key ≡ k
      at_k = omega (arith, is)

      by : (o : Option T) → found number (number_of_slot a k) (standing (places_from live (suc k) gs)) ≡ None
          → found number (number_of_slot a k) (standing (standing_in g k o ∷ places_from live (suc k) gs)) ≡ option_map (at_number (number_of_slot a k)) (value_in o g a)
      by None rest = rest
      by (Some v) rest =
          ap (λ b. cond b (Some (at_number (number_of_slot g k) v)) (found number (number_of_slot a k) (standing (places_from live (suc k) gs)))) (one-slot g a k)
          ∙ chosen (g == a) refl
        where
          chosen : (b : Bool) → (g == a) ≡ b
              → cond b (Some (at_number (number_of_slot g k) v)) (found number (number_of_slot a k) (standing (places_from live (suc k) gs)))
              ≡ option_map (at_number (number_of_slot a k)) (cond b (Some v) None)
          chosen true same = ap (λ n. Some (at_number (number_of_slot n k) v)) (told g a same)
            where
              told : (m n : ℕ) → (m == n) ≡ true → m ≡ n
              told m n same = same-tells m n same
          chosen false apart = rest
  found-from live a key k (suc i) (g ∷ gs) is below fits =
      by (live k) (found-from live a key (suc k) i gs (omega (arith, is)) below (omega (arith, fits)))
    where
      by : (o : Option T) → found number (number_of_slot a key) (standing (places_from live (suc k) gs)) ≡ option_map (at_number (number_of_slot a key)) (value_from gs i (live key) a)
          → found number (number_of_slot a key) (standing (standing_in g k o ∷ places_from live (suc k) gs))
          ≡ option_map (at_number (number_of_slot a key)) (value_from gs i (live key) a)
      by None rest = rest
      by (Some v) rest =
          ap (λ b. cond b (Some (at_number (number_of_slot g k) v)) (found number (number_of_slot a key) (standing (places_from live (suc k) gs))))
          (apart-slots g k a key (omega (arith, is, below)) below (λ same. omega (arith, same, is))) ∙ rest

  value-read : (gs : List ℕ) (i : ℕ) (o : Option T) (a : ℕ) → (length gs ≤ i → o ≡ None) → value_from gs i o a ≡ value_in o (generation_in gs i) a
  value-read [] i o a empty = sym (ap (λ p. value_in p 0 a) (empty (omega arith)))
  value-read (g ∷ gs) zero o a empty = refl
  value-read (g ∷ gs) (suc i) o a empty = value-read gs i o a (λ past. empty (omega (arith, past)))

  -- so what is held has the numbers of its slots
  pub held-at : (live : ℕ → Option T) (gs : List ℕ) (r : ℕ) → HaveGenerations live gs → (n : ℕ)
      → found number n (held (places_of live gs r)) ≡ option_map (at_number n) (value_at live gs n)
  held-at live gs r sound n = found-as_map number n (standing (places_from live 0 gs)) ∙ by n
    where
      by : (n : ℕ) → found number n (standing (places_from live 0 gs)) ≡ option_map (at_number n) (value_at live gs n)
      by zero = none-of-zero live 0 gs
      by (suc at) =
          ap (λ m. found number m (standing (places_from live 0 gs))) (parted at)
          ∙ found-from live (at / 281474976710656) (at % 281474976710656) 0 (at % 281474976710656) gs (start (at % 281474976710656)) (slot-below at) (omega (arith, sound.few))
          ∙ ap (option_map (at_number (number_of_slot (at / 281474976710656) (at % 281474976710656))))
          (value-read gs (at % 281474976710656) (live (at % 281474976710656)) (at / 281474976710656) (sound.empty (at % 281474976710656)))
          ∙ ap (λ m. option_map (at_number m) (value_at live gs (suc at))) (sym (parted at))
        where
          start : (m : ℕ) → m ≡ 0 + m
          start m = omega arith

  pub value-held : (live : ℕ → Option T) (gs : List ℕ) (r : ℕ) → HaveGenerations live gs → (n : ℕ) → value_of (places_of live gs r) n ≡ value_at live gs n
  value-held live gs r sound n = ap (option_map (λ h. h.value)) (held-at live gs r sound n) ∙ by (value_at live gs n)
    where
      by : (o : Option T) → option_map (λ (h : HeldValue T). h.value) (option_map (at_number n) o) ≡ o
      by None = refl
      by (Some v) = refl

  -- PLACES
  pub length-places : (live : ℕ → Option T) (k : ℕ) (gs : List ℕ) → length (places_from live k gs) ≡ length gs
  length-places live k [] = refl
  length-places live k (g ∷ gs) = ap suc (length-places live (suc k) gs)

  apart-after : (live : ℕ → Option T) (a key k : ℕ) (gs : List ℕ) → key < k → k + length gs ≤ 281474976710656
      → AllByRecursion (λ m. nat_eq (number_of_slot a key) m ≡ false) (map number (standing (places_from live k gs)))
  apart-after live a key k [] later fits = tt
  apart-after live a key k (g ∷ gs) later fits = by (live k) (apart-after live a key (suc k) gs (omega (arith, later)) (omega (arith, fits)))
    where
      by : (o : Option T) → AllByRecursion (λ m. nat_eq (number_of_slot a key) m ≡ false) (map number (standing (places_from live (suc k) gs)))
          → AllByRecursion (λ m. nat_eq (number_of_slot a key) m ≡ false) (map number (standing (standing_in g k o ∷ places_from live (suc k) gs)))
      by None rest = rest
      by (Some v) rest = (apart-slots a key g k (omega (arith, later, fits)) (omega (arith, fits)) (λ same. omega (arith, same, later)), rest)

  pub numbers-once : (live : ℕ → Option T) (k : ℕ) (gs : List ℕ) → k + length gs ≤ 281474976710656 → IsDistinct nat_eq (map number (standing (places_from live k gs)))
  unfolding IsDistinct
  numbers-once live k [] fits = tt
  numbers-once live k (g ∷ gs) fits = by (live k) (numbers-once live (suc k) gs (omega (arith, fits)))
    where
      by : (o : Option T) → IsDistinct nat_eq (map number (standing (places_from live (suc k) gs)))
          → IsDistinct nat_eq (map number (standing (standing_in g k o ∷ places_from live (suc k) gs)))
      by None rest = rest
      by (Some v) rest =
          IsDistinct-cons nat_eq (number_of_slot g k) (map number (standing (places_from live (suc k) gs))) (apart-after live g k (suc k) gs (omega arith) (omega (arith, fits))) rest

  pub places-at : (live : ℕ → Option T) (k : ℕ) (gs : List ℕ) (i : ℕ) → i < length gs
      → slice_index_or (places_from live k gs) i None ≡ standing_in (generation_in gs i) (k + i) (live (k + i))
  places-at live k [] i within = absurd (omega (arith, within))
  places-at live k (g ∷ gs) zero within = ap (λ m. standing_in g m (live m)) (same k)
    where
      same : (m : ℕ) → m ≡ m + 0
      same m = omega arith
  places-at live k (g ∷ gs) (suc i) within =
      places-at live (suc k) gs i (omega (arith, within)) ∙ ap (λ m. standing_in (generation_in gs i) m (live m)) (next k i)
    where
      next : (m n : ℕ) → suc m + n ≡ m + suc n
      next m n = omega arith

  same-before : (old new : ℕ → Option T) (k : ℕ) (gs : List ℕ) → ((j : ℕ) → k ≤ j → new j ≡ old j) → places_from new k gs ≡ places_from old k gs
  same-before old new k [] same = refl
  same-before old new k (g ∷ gs) same =
      ap (λ o. standing_in g k o ∷ places_from new (suc k) gs) (same k (omega arith))
      ∙ ap (λ ps. standing_in g k (old k) ∷ ps) (same-before old new (suc k) gs (λ j past. same j (omega (arith, past))))

  -- one slot is written
  pub places-set : (old new : ℕ → Option T) (k : ℕ) (gs : List ℕ) (i : ℕ) → i < length gs → ((j : ℕ) → j ≢ k + i → new j ≡ old j)
      → places_from new k gs ≡ set (places_from old k gs) i (standing_in (generation_in gs i) (k + i) (new (k + i)))
  places-set old new k [] i within others = absurd (omega (arith, within))
  places-set old new k (g ∷ gs) zero within others =
      ap (λ ps. standing_in g k (new k) ∷ ps) (same-before old new (suc k) gs (λ j past. others j (λ same. omega (arith, same, past))))
      ∙ ap (λ m. standing_in g m (new m) ∷ places_from old (suc k) gs) (same k)
    where
      same : (m : ℕ) → m ≡ m + 0
      same m = omega arith
  places-set old new k (g ∷ gs) (suc i) within others =
      ap (λ o. standing_in g k o ∷ places_from new (suc k) gs) (others k (λ same. omega (arith, same)))
      ∙ ap (λ ps. standing_in g k (old k) ∷ ps) (places-set old new (suc k) gs i (omega (arith, within)) (λ j apart. others j (λ same. apart (omega (arith, same)))))
      ∙ ap (λ m. standing_in g k (old k) ∷ set (places_from old (suc k) gs) i (standing_in (generation_in gs i) m (new m))) (next k i)
    where
      next : (m n : ℕ) → suc m + n ≡ m + suc n
      next m n = omega arith
