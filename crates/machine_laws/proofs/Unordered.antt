-- Finite maps do not tell in what order their records were added.
use Rattle.std.proofs.Common.{◌≡◌, ◌∙◌, ℕ, zero, suc, ◌<◌, ◌≤◌, ◌==◌, nat_lt, ◌&&◌, Bool, true, false, cond, List, [], ◌∷◌, ◌++◌, filter, length, Option, Some, None, slice_index_or, set, refl, ap, sym, arith, append_assoc, inl, inr}
use Rattle.std.proofs.lemmas.Bool.{lt-ltb, le-ltb, eqb-true, cases_lt, or_parts}
use Rattle.std.proofs.lemmas.Bool.Decides.{nat_tests}
use Rattle.std.proofs.lemmas.List.{append-nil}
use Rattle.std.proofs.lemmas.List.Elements.{filter-append}
use Rattle.napi_types.specs.plain.Lists.{found, has, with_record, as_map, with_number}
use Rattle.napi_types.specs.parts.References.{Reference}
use Rattle.napi_types.proofs.plain.Found.{found-with_record, same-self}
use Rattle.napi_reference.specs.ReferencePlaces.{standing}

-- TWO TESTS
module _ {A : Type 0} (p q r : A → Bool) (both : (y : A) → (q y && p y) ≡ r y) where
  filter-both : (xs : List A) → filter p (filter q xs) ≡ filter r xs
  filter-both [] = refl
  filter-both (x ∷ xs) = by (q x) (r x) (both x) (filter-both xs)
    where
      by : (b c : Bool) → (b && p x) ≡ c → filter p (filter q xs) ≡ filter r xs → filter p (cond b (x ∷ filter q xs) (filter q xs)) ≡ cond c (x ∷ filter r xs) (filter r xs)
      by true c e rest = ap (λ d. cond d (x ∷ filter p (filter q xs)) (filter p (filter q xs))) e ∙ ap (λ ys. cond c (x ∷ ys) ys) rest
      by false c e rest = rest ∙ ap (λ d. cond d (x ∷ filter r xs) (filter r xs)) e

filter_never : {A : Type 0} (xs : List A) → filter (λ _. false) xs ≡ []
filter_never [] = refl
filter_never (x ∷ xs) = filter_never xs

-- a number, where one number is below another
below-both : (a b n : ℕ) → a < b → (nat_lt n b && nat_lt n a) ≡ nat_lt n a
below-both a b n h = grind (arith, nat_tests)

both-below : (a b n : ℕ) → a < b → (nat_lt n a && nat_lt n b) ≡ nat_lt n a
both-below a b n h = grind (arith, nat_tests)

above-both : (a b n : ℕ) → a < b → (nat_lt b n && nat_lt a n) ≡ nat_lt b n
above-both a b n h = grind (arith, nat_tests)

both-above : (a b n : ℕ) → a < b → (nat_lt a n && nat_lt b n) ≡ nat_lt b n
both-above a b n h = grind (arith, nat_tests)

above-below : (a b n : ℕ) → a < b → (nat_lt b n && nat_lt n a) ≡ false
above-below a b n h = grind (arith, nat_tests)

below-above : (a b n : ℕ) → a < b → (nat_lt n a && nat_lt b n) ≡ false
below-above a b n h = grind (arith, nat_tests)

and-swap : (a b : Bool) → (a && b) ≡ (b && a)
and-swap true true = refl
and-swap true false = refl
and-swap false true = refl
and-swap false false = refl

module _ {A : Type 0} (number : A → ℕ) where
  abbrev under : ℕ → A → Bool
  under n y = nat_lt (number y) n

  abbrev over : ℕ → A → Bool
  over n y = nat_lt n (number y)

  -- TWO RECORDS MORE
  swap-below : (x y : A) (xs : List A) → number x < number y → with_record number x (with_record number y xs) ≡ with_record number y (with_record number x xs)
  swap-below x y xs h =
      let a = number x in
      let b = number y in
      let lower : filter (under a) (with_record number y xs) ≡ filter (under a) xs =
      filter-append (under a) (filter (under b) xs) (y ∷ filter (over b) xs)
      ∙ ap (λ ys. ys ++ filter (under a) (y ∷ filter (over b) xs)) (filter-both (under a) (under b) (under a) (λ z. below-both a b (number z) h) xs)
      ∙ ap (λ t. filter (under a) xs ++ cond t (y ∷ filter (under a) (filter (over b) xs)) (filter (under a) (filter (over b) xs))) (le-ltb b a (omega (arith, h)))
      ∙ ap (λ ys. filter (under a) xs ++ ys) (filter-both (under a) (over b) (λ _. false) (λ z. above-below a b (number z) h) xs ∙ filter_never xs)
      ∙ append-nil (filter (under a) xs) in
      let higher : filter (over a) (with_record number y xs) ≡ filter (over a) (filter (under b) xs) ++ y ∷ filter (over b) xs =
      filter-append (over a) (filter (under b) xs) (y ∷ filter (over b) xs)
      ∙ ap (λ t. filter (over a) (filter (under b) xs) ++ cond t (y ∷ filter (over a) (filter (over b) xs)) (filter (over a) (filter (over b) xs))) (lt-ltb a b h)
      ∙ ap (λ ys. filter (over a) (filter (under b) xs) ++ y ∷ ys) (filter-both (over a) (over b) (over b) (λ z. above-both a b (number z) h) xs) in
      let under-both : filter (under b) (with_record number x xs) ≡ filter (under a) xs ++ x ∷ filter (under b) (filter (over a) xs) =
      filter-append (under b) (filter (under a) xs) (x ∷ filter (over a) xs)
      ∙ ap (λ ys. ys ++ filter (under b) (x ∷ filter (over a) xs)) (filter-both (under b) (under a) (under a) (λ z. both-below a b (number z) h) xs)
      ∙ ap (λ t. filter (under a) xs ++ cond t (x ∷ filter (under b) (filter (over a) xs)) (filter (under b) (filter (over a) xs))) (lt-ltb a b h) in
      let over-both : filter (over b) (with_record number x xs) ≡ filter (over b) xs =
      filter-append (over b) (filter (under a) xs) (x ∷ filter (over a) xs)
      ∙ ap (λ ys. ys ++ filter (over b) (x ∷ filter (over a) xs)) (filter-both (over b) (under a) (λ _. false) (λ z. below-above a b (number z) h) xs ∙ filter_never xs)
      ∙ ap (λ t. cond t (x ∷ filter (over b) (filter (over a) xs)) (filter (over b) (filter (over a) xs))) (le-ltb b a (omega (arith, h)))
      ∙ filter-both (over b) (over a) (over b) (λ z. both-above a b (number z) h) xs in
      let middle : filter (over a) (filter (under b) xs) ≡ filter (under b) (filter (over a) xs) =
      filter-both (over a) (under b) (λ z. over a z && under b z) (λ z. and-swap (under b z) (over a z)) xs
      ∙ sym (filter-both (under b) (over a) (λ z. over a z && under b z) (λ z. refl) xs) in
      ap (λ ys. ys ++ x ∷ filter (over a) (with_record number y xs)) lower
      ∙ ap (λ ys. filter (under a) xs ++ x ∷ ys) (higher ∙ ap (λ ys. ys ++ y ∷ filter (over b) xs) middle)
      ∙ sym (append_assoc (filter (under a) xs) (x ∷ filter (under b) (filter (over a) xs)) (y ∷ filter (over b) xs))
      ∙ ap (λ ys. ys ++ y ∷ filter (over b) xs) (sym under-both)
      ∙ ap (λ ys. filter (under b) (with_record number x xs) ++ y ∷ ys) (sym over-both)

  pub with_record-swap : (x y : A) (xs : List A) → (number x == number y) ≡ false → with_record number x (with_record number y xs) ≡ with_record number y (with_record number x xs)
  with_record-swap x y xs apart =
      elim (cases_lt (number x) (number y)) [
        | inl less ↦ swap-below x y xs less
        | inr le ↦ sym (swap-below y x xs (above (number x) (number y) apart le))
      ]
    where
      above : (n k : ℕ) → (n == k) ≡ false → k ≤ n → k < n
      above n k apart le = grind (arith, nat_tests)

  -- WHAT IS FOUND
  pub with_record-there : (x : A) (xs : List A) → found number (number x) (with_record number x xs) ≡ Some x
  with_record-there x xs = found-with_record number (number x) x xs ∙ ap (λ b. cond b (Some x) (found number (number x) xs)) (same-self (number x))

  pub with_record-others : (x : A) (k : ℕ) (xs : List A) → (number x == k) ≡ false → found number k (with_record number x xs) ≡ found number k xs
  with_record-others x k xs apart = found-with_record number k x xs ∙ ap (λ b. cond b (Some x) (found number k xs)) apart

-- numbers in either order, be they equal too
pub numbers-swap : (n k : ℕ) (ns : List ℕ) → with_number n (with_number k ns) ≡ with_number k (with_number n ns)
numbers-swap n k ns = by (n == k) refl
  where
    by : (b : Bool) → (n == k) ≡ b → with_number n (with_number k ns) ≡ with_number k (with_number n ns)
    by true same = let is : n ≡ k = eqb-true n k same in rw is refl
    by false apart = with_record-swap (λ (m : ℕ). m) n k ns apart

-- PLACES
-- a reference that is put into an empty place is one more of the map of those that stand at places
pub put-more : (r : Reference) (places : List (Option Reference)) (at : ℕ) → at < length places → slice_index_or places at None ≡ None
    → has (λ q. q.number) r.number (standing places) ≡ false → as_map (λ q. q.number) (standing (set places at (Some r))) ≡ with_record (λ q. q.number) r (as_map (λ q. q.number) (standing places))
put-more r [] at inside empty new = absurd (omega (arith, inside))
put-more r (None ∷ places) zero inside empty new = refl
put-more r (Some q ∷ places) zero inside empty new = cc
put-more r (None ∷ places) (suc at) inside empty new = put-more r places at (omega (arith, inside)) empty new
put-more r (Some q ∷ places) (suc at) inside empty new =
    let number : Reference → ℕ = λ q. q.number in
    let parts = or_parts (q.number == r.number) (has (λ q. q.number) r.number (standing places)) new in
    ap (with_record number q) (put-more r places at (omega (arith, inside)) empty parts.1) ∙ with_record-swap number q r (as_map number (standing places)) parts.0
