-- The numbers that a slot has issued are those of its generations so far.
use Rattle.std.proofs.Common.{◌≡◌, ◌≢◌, ◌∙◌, ℕ, zero, suc, ◌+◌, ◌<◌, ◌≤◌, ◌/◌, ◌%◌, ◌==◌, ◌||◌, nat_lt, Bool, true, false, cond, List, [], ◌∷◌, ◌++◌, length, Option, Some, None, refl, ap, sym, arith}
use Rattle.std.proofs.lemmas.Bool.Decides.{nat_tests}
use Rattle.std.proofs.lemmas.List.Folds.{list_any-append}
use Rattle.napi_types.specs.plain.Lists.{found, has_number, as_map, with_number}
use Rattle.napi_types.proofs.plain.Found.{found-as_map, has-found, found-same, rising-as_map, rising-with_record, has-with_number, same-tells}
use Rattle.generation_slab.specs.SlotNumbers.{number_of_slot, generation_in, numbers_before, issued_in, issued_from, places_of, given_in, is_issued, HaveGenerations}
use Rattle.generation_slab.proofs.SlotNumbers.{apart-slots, one-slot, no-number, parted, slot-below, given-next}

-- A SLOT'S NUMBERS
before-slot : (a g k : ℕ) → has_number (number_of_slot a k) (numbers_before g k) ≡ nat_lt a g
before-slot a zero k = sym (none a)
  where
    none : (n : ℕ) → nat_lt n 0 ≡ false
    none n = grind (arith, nat_tests)
before-slot a (suc g) k = ap (λ b. b || has_number (number_of_slot a k) (numbers_before g k)) (one-slot g a k) ∙ ap (λ b. (g == a) || b) (before-slot a g k) ∙ one_more g a
  where
    one_more : (g a : ℕ) → ((g == a) || nat_lt a g) ≡ nat_lt a (suc g)
    one_more g a = grind (arith, nat_tests)

before-other : (a g k key : ℕ) → k < 281474976710656 → key < 281474976710656 → k ≢ key → has_number (number_of_slot a key) (numbers_before g k) ≡ false
before-other a zero k key small below apart = refl
before-other a (suc g) k key small below apart =
    ap (λ b. b || has_number (number_of_slot a key) (numbers_before g k)) (apart-slots g k a key small below apart) ∙ before-other a g k key small below apart

before-zero : (g k : ℕ) → has_number 0 (numbers_before g k) ≡ false
before-zero zero k = refl
before-zero (suc g) k = ap (λ b. b || has_number 0 (numbers_before g k)) (no-number g k) ∙ before-zero g k

parts : (n : ℕ) (ms ns : List ℕ) → has_number n (ms ++ ns) ≡ (has_number n ms || has_number n ns)
parts n ms ns = list_any-append (λ m. m == n) ms ns

-- the numbers of a set are those that it was made of
has-map : (n : ℕ) (ns : List ℕ) → has_number n (as_map (λ m. m) ns) ≡ has_number n ns
has-map n ns = has-found (λ m. m) n (as_map (λ m. m) ns) ∙ ap is_there (found-as_map (λ m. m) n ns) ∙ sym (has-found (λ m. m) n ns)
  where
    is_there : Option ℕ → Bool
    is_there None = false
    is_there (Some m) = true

module _ {T : Type 0} where
  in-slot : (a g k : ℕ) (o : Option T) → has_number (number_of_slot a k) (issued_in g k o) ≡ given_in o g a
  in-slot a g k None = before-slot a g k
  in-slot a g k (Some s) = before-slot a (suc g) k ∙ given-next g a

  in-other : (a g k key : ℕ) (o : Option T) → k < 281474976710656 → key < 281474976710656 → k ≢ key → has_number (number_of_slot a key) (issued_in g k o) ≡ false
  in-other a g k key None small below apart = before-other a g k key small below apart
  in-other a g k key (Some s) small below apart = before-other a (suc g) k key small below apart

  in-zero : (g k : ℕ) (o : Option T) → has_number 0 (issued_in g k o) ≡ false
  in-zero g k None = before-zero g k
  in-zero g k (Some s) = before-zero (suc g) k

  -- OF ALL SLOTS
  none-of-zero : (live : ℕ → Option T) (k : ℕ) (gs : List ℕ) → has_number 0 (issued_from live k gs) ≡ false
  none-of-zero live k [] = refl
  none-of-zero live k (g ∷ gs) =
      parts 0 (issued_in g k (live k)) (issued_from live (suc k) gs) ∙ ap (λ b. b || has_number 0 (issued_from live (suc k) gs)) (in-zero g k (live k))
      ∙ none-of-zero live (suc k) gs

  none-later : (live : ℕ → Option T) (a key k : ℕ) (gs : List ℕ) → key < k → k + length gs ≤ 281474976710656
      → has_number (number_of_slot a key) (issued_from live k gs) ≡ false
  none-later live a key k [] later fits = refl
  none-later live a key k (g ∷ gs) later fits =
      parts (number_of_slot a key) (issued_in g k (live k)) (issued_from live (suc k) gs)
      ∙ ap (λ b. b || has_number (number_of_slot a key) (issued_from live (suc k) gs))
      (in-other a g k key (live k) (omega (arith, fits)) (omega (arith, later, fits)) (λ same. omega (arith, same, later)))
      ∙ none-later live a key (suc k) gs (omega (arith, later)) (omega (arith, fits))

  abbrev given_from : List ℕ → ℕ → Option T → ℕ → Bool
  given_from [] i o a = false
  given_from (g ∷ gs) zero o a = given_in o g a
  given_from (g ∷ gs) (suc i) o a = given_from gs i o a

  has-from : (live : ℕ → Option T) (a key k i : ℕ) (gs : List ℕ) → key ≡ k + i → key < 281474976710656 → k + length gs ≤ 281474976710656
      → has_number (number_of_slot a key) (issued_from live k gs) ≡ given_from gs i (live key) a
  has-from live a key k i [] is below fits = refl
  has-from live a key k zero (g ∷ gs) is below fits =
      rw at_k
      (parts (number_of_slot a k) (issued_in g k (live k)) (issued_from live (suc k) gs)
      ∙ ap (λ b. has_number (number_of_slot a k) (issued_in g k (live k)) || b) (none-later live a k (suc k) gs (omega arith) (omega (arith, fits)))
      ∙ ap (λ b. b || false) (in-slot a g k (live k)) ∙ plain (given_in (live k) g a))
    where
      at_k : key ≡ k
      at_k = omega (arith, is)

      plain : (b : Bool) → (b || false) ≡ b
      plain true = refl
      plain false = refl
  has-from live a key k (suc i) (g ∷ gs) is below fits =
      parts (number_of_slot a key) (issued_in g k (live k)) (issued_from live (suc k) gs)
      ∙ ap (λ b. b || has_number (number_of_slot a key) (issued_from live (suc k) gs))
      (in-other a g k key (live k) (omega (arith, is, below)) below (λ same. omega (arith, same, is)))
      ∙ has-from live a key (suc k) i gs (omega (arith, is)) below (omega (arith, fits))

  given-read : (gs : List ℕ) (i : ℕ) (o : Option T) (a : ℕ) → (length gs ≤ i → o ≡ None) → given_from gs i o a ≡ given_in o (generation_in gs i) a
  given-read [] i o a empty = sym (ap (λ p. given_in p 0 a) (empty (omega arith)) ∙ none a)
    where
      none : (n : ℕ) → nat_lt n 0 ≡ false
      none n = grind (arith, nat_tests)
  given-read (g ∷ gs) zero o a empty = refl
  given-read (g ∷ gs) (suc i) o a empty = given-read gs i o a (λ past. empty (omega (arith, past)))

  has-issued : (live : ℕ → Option T) (gs : List ℕ) (r : ℕ) → HaveGenerations live gs → (n : ℕ) → has_number n (issued_from live 0 gs) ≡ is_issued live gs n
  has-issued live gs r sound zero = none-of-zero live 0 gs
  has-issued live gs r sound (suc at) =
      ap (λ m. has_number m (issued_from live 0 gs)) (parted at)
      ∙ has-from live (at / 281474976710656) (at % 281474976710656) 0 (at % 281474976710656) gs (start (at % 281474976710656)) (slot-below at) (omega (arith, sound.few))
      ∙ given-read gs (at % 281474976710656) (live (at % 281474976710656)) (at / 281474976710656) (sound.empty (at % 281474976710656))
    where
      start : (m : ℕ) → m ≡ 0 + m
      start m = omega arith

  pub issued-at : (live : ℕ → Option T) (gs : List ℕ) (r : ℕ) → HaveGenerations live gs → (n : ℕ) → has_number n (places_of live gs r).issued ≡ is_issued live gs n
  issued-at live gs r sound n = has-map n (issued_from live 0 gs) ∙ has-issued live gs r sound n

-- TWO SETS WITH THE SAME NUMBERS ARE EQUAL
found-has : (n : ℕ) (ns : List ℕ) → found (λ m. m) n ns ≡ cond (has_number n ns) (Some n) None
found-has n [] = refl
found-has n (m ∷ ns) = by (m == n) refl (found-has n ns)
  where
    by : (b : Bool) → (m == n) ≡ b → found (λ m. m) n ns ≡ cond (has_number n ns) (Some n) None
        → cond b (Some m) (found (λ m. m) n ns) ≡ cond (b || has_number n ns) (Some n) None
    by true is rest = ap (λ k. Some k) (same-tells m n is)
    by false is rest = rest

same-numbers : (ms ns : List ℕ) → ((n : ℕ) → has_number n ms ≡ has_number n ns) → (n : ℕ) → found (λ m. m) n ms ≡ found (λ m. m) n ns
same-numbers ms ns same n = found-has n ms ∙ ap (λ b. cond b (Some n) None) (same n) ∙ sym (found-has n ns)

pub numbers-more : (n : ℕ) (ms ns : List ℕ) → ((k : ℕ) → has_number k (as_map (λ m. m) ms) ≡ ((n == k) || has_number k (as_map (λ m. m) ns)))
    → as_map (λ m. m) ms ≡ with_number n (as_map (λ m. m) ns)
numbers-more n ms ns more =
    found-same (λ m. m) (as_map (λ m. m) ms) (with_number n (as_map (λ m. m) ns)) (rising-as_map (λ m. m) ms)
    (rising-with_record (λ m. m) n (as_map (λ m. m) ns) (rising-as_map (λ m. m) ns))
    (same-numbers (as_map (λ m. m) ms) (with_number n (as_map (λ m. m) ns)) (λ k. more k ∙ sym (has-with_number k n (as_map (λ m. m) ns))))

pub numbers-kept : (ms ns : List ℕ) → ((k : ℕ) → has_number k (as_map (λ m. m) ms) ≡ has_number k (as_map (λ m. m) ns)) → as_map (λ m. m) ms ≡ as_map (λ m. m) ns
numbers-kept ms ns same =
    found-same (λ m. m) (as_map (λ m. m) ms) (as_map (λ m. m) ns) (rising-as_map (λ m. m) ms) (rising-as_map (λ m. m) ns)
    (same-numbers (as_map (λ m. m) ms) (as_map (λ m. m) ns) same)
