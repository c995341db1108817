-- Lists in which no number stands twice.
use Rattle.std.proofs.Common.{◌≡◌, ℕ, zero, suc, ◌+◌, ◌<◌, ◌==◌, nat_eq, Bool, true, false, cond, List, [], ◌∷◌, map, filter, length, Option, Some, None, refl, ap, sym, ◌∙◌, arith}
use Rattle.std.specs.List.{All, AllByRecursion, IsDistinct, filter_map, range_with_len, cons_option, list_any}
use Rattle.std.specs.Set.{is_member}
use Rattle.std.proofs.lemmas.Cmp.{nat_eq_equiv}
use Rattle.std.proofs.lemmas.List.Elements.{All-head, All-tail}
use Rattle.std.proofs.lemmas.Map.Keys.{IsDistinct-head, IsDistinct-tail, IsDistinct-cons}
use Rattle.std.proofs.lemmas.Map.Made.{length-from_same_keys}
use Rattle.napi_types.specs.plain.Lists.{has_number}
use Rattle.napi_types.proofs.plain.Found.{turned}
use Rattle.value_store.proofs.Lookup.{apart-number}

-- the two tests of membership agree
member-has : (xs : List ℕ) (n : ℕ) → is_member nat_eq xs n ≡ has_number n xs
member-has xs n = let same : nat_eq n ≡ (λ m. m == n) = λ i m. turned n m i in ap (λ p. list_any p xs) same

-- two such lists that have the same numbers are as long
pub same-length : (xs ys : List ℕ) → IsDistinct nat_eq xs → IsDistinct nat_eq ys → ((n : ℕ) → has_number n xs ≡ has_number n ys) → length xs ≡ length ys
same-length xs ys one two same = length-from_same_keys nat_eq_equiv xs ys one two (λ n. member-has xs n ∙ same n ∙ sym (member-has ys n))

later-filter : (k : ℕ) (p : ℕ → Bool) (xs : List ℕ) → AllByRecursion (λ y. nat_eq k y ≡ false) xs → AllByRecursion (λ y. nat_eq k y ≡ false) (filter p xs)
later-filter k p [] h = tt
later-filter k p (x ∷ xs) h = by (later-filter k p xs h.1) (p x)
  where
    by : AllByRecursion (λ y. nat_eq k y ≡ false) (filter p xs) → (b : Bool) → AllByRecursion (λ y. nat_eq k y ≡ false) (cond b (x ∷ filter p xs) (filter p xs))
    by rest true = (h.0, rest)
    by rest false = rest

pub distinct-filter : (p : ℕ → Bool) (xs : List ℕ) → IsDistinct nat_eq xs → IsDistinct nat_eq (filter p xs)
distinct-filter p [] h = h
distinct-filter p (x ∷ xs) h = by (distinct-filter p xs (IsDistinct-tail nat_eq x xs h)) (p x)
  where
    by : IsDistinct nat_eq (filter p xs) → (b : Bool) → IsDistinct nat_eq (cond b (x ∷ filter p xs) (filter p xs))
    by rest true = IsDistinct-cons nat_eq x (filter p xs) (later-filter x p xs (IsDistinct-head nat_eq x xs h)) rest
    by rest false = rest

-- images of numbers that differ differ
later-map : (P : ℕ → Type 0) (f : ℕ → ℕ) → ((m n : ℕ) → P m → P n → f m ≡ f n → m ≡ n) → (k : ℕ) → P k → (xs : List ℕ) → All P xs → AllByRecursion (λ y. nat_eq k y ≡ false) xs → AllByRecursion (λ y. nat_eq (f k) y ≡ false) (map f xs)
later-map P f apart k here [] all h = tt
later-map P f apart k here (x ∷ xs) all h =
    (apart-number (f k) (f x) (λ same. differs k x (apart k x here (All-head P x xs all) same) h.0), later-map P f apart k here xs (All-tail P x xs all) h.1)
  where
    differs : (m n : ℕ) → m ≡ n → nat_eq m n ≡ false → ⊥
    differs m n same h = grind arith

pub distinct-map : (P : ℕ → Type 0) (f : ℕ → ℕ) → ((m n : ℕ) → P m → P n → f m ≡ f n → m ≡ n) → (xs : List ℕ) → All P xs → IsDistinct nat_eq xs → IsDistinct nat_eq (map f xs)
unfolding IsDistinct
distinct-map P f apart [] all h = h
distinct-map P f apart (x ∷ xs) all h = (later-map P f apart x (All-head P x xs all) xs (All-tail P x xs all) h.0, distinct-map P f apart xs (All-tail P x xs all) h.1)

-- numbers that differ place by place are distinct, taken in the places' order
module _ (f : ℕ → Option ℕ) (once : (n i j : ℕ) → f i ≡ Some n → f j ≡ Some n → i ≡ j) where
  later-range : (k i : ℕ) → f i ≡ Some k → (from many : ℕ) → i < from → AllByRecursion (λ y. nat_eq k y ≡ false) (filter_map f (range_with_len from many))
  later-range k i is from zero less = tt
  later-range k i is from (suc many) less = by (f from) refl (later-range k i is (from + 1) many (omega arith))
    where
      by : (o : Option ℕ) → f from ≡ o → AllByRecursion (λ y. nat_eq k y ≡ false) (filter_map f (range_with_len (from + 1) many)) → AllByRecursion (λ y. nat_eq k y ≡ false) (cons_option o (filter_map f (range_with_len (from + 1) many)))
      by None there rest = rest
      by (Some n) there rest = (apart-number k n (λ same. let place : i ≡ from = once n i from (is ∙ ap Some same) there in absurd (omega arith)), rest)

  pub distinct-range : (from many : ℕ) → IsDistinct nat_eq (filter_map f (range_with_len from many))
  unfolding IsDistinct
  distinct-range from zero = tt
  distinct-range from (suc many) = by (f from) refl (distinct-range (from + 1) many)
    where
      by : (o : Option ℕ) → f from ≡ o → IsDistinct nat_eq (filter_map f (range_with_len (from + 1) many)) → IsDistinct nat_eq (cons_option o (filter_map f (range_with_len (from + 1) many)))
      by None there rest = rest
      by (Some n) there rest = (later-range n from there (from + 1) many (omega arith), rest)
