-- What is found by one key and by another, and what is counted.
use Rattle.std.proofs.Common.{◌≡◌, ◌∙◌, ℕ, suc, ◌+◌, ◌<◌, ◌==◌, ◌||◌, Bool, true, false, not, cond, List, [], ◌∷◌, length, filter, find, Some, is_some, refl, ap, sym, arith}
use Rattle.std.specs.List.{All, count_by, list_any}
use Rattle.std.proofs.lemmas.List.Sums.{sum_by-cons}
use Rattle.std.proofs.lemmas.List.Elements.{All-head, All-tail}
use Rattle.napi_types.specs.plain.Lists.{found, has, as_map}
use Rattle.napi_types.proofs.plain.Found.{IsRising, same-self, same-tells, apart-below, apart-above, found-first, found-later, found-All, found-number, found-as_map, rising-as_map, has-found}
use Rattle.napi_types.proofs.plain.Conditions.{alike}
use Rattle.napi_types.proofs.plain.Options.{some-of}

-- WHAT IS FOUND
module _ {A : Type 0} where
  -- what one key finds is found by its other key, though maybe not first
  pub found-other : (f g : A → ℕ) (n : ℕ) (xs : List A) (x : A) → found f n xs ≡ Some x → is_some (found g (g x) xs) ≡ true
  found-other f g n [] x is = let no : ⊥ = cc in absurd no
  found-other f g n (y ∷ ys) x is = by (f y == n) (g y == g x) refl is (found-other f g n ys x)
    where
      by : (a b : Bool) → (g y == g x) ≡ b → cond a (Some y) (found f n ys) ≡ Some x → (found f n ys ≡ Some x → is_some (found g (g x) ys) ≡ true)
          → is_some (cond b (Some y) (found g (g x) ys)) ≡ true
      by a true same told rest = refl
      by true false same told rest = let first : y ≡ x = cc in let no : ⊥ = let it = same-self (g x)
          ∙ refl in let here : (g x == g x) ≡ false = ap (λ z. g z == g x) (sym first) ∙ same in cc in absurd no
      by false false same told rest = rest told

  -- in a list by rising g it is found first
  pub found-rising : (f g : A → ℕ) (n : ℕ) (xs : List A) (x : A) → IsRising g xs → found f n xs ≡ Some x → found g (g x) xs ≡ Some x
  found-rising f g n [] x rises is = let no : ⊥ = cc in absurd no
  found-rising f g n (y ∷ ys) x rises is = by (f y == n) is (found-rising f g n ys x rises.1)
    where
      by : (a : Bool) → cond a (Some y) (found f n ys) ≡ Some x → (found f n ys ≡ Some x → found g (g x) ys ≡ Some x) → found g (g x) (y ∷ ys) ≡ Some x
      by true told rest = let first : y ≡ x = cc in ap (λ z. found g (g z) (y ∷ ys)) (sym first) ∙ found-first g y ys ∙ ap (λ z. Some z) first
      by false told rest = found-later g (g x) y ys (apart-below (g y) (g x) (found-All f (λ z. g y < g z) n ys x rises.0 told)) ∙ rest told

  -- the map by g of a list in which each is found by g has the same
  pub has-as_map : (f g : A → ℕ) (n : ℕ) (xs : List A) → ((m : ℕ) (x : A) → found f m xs ≡ Some x → found g (g x) xs ≡ Some x)
      → has f n (as_map g xs) ≡ has f n xs
  has-as_map f g n xs each = has-found f n (as_map g xs) ∙ alike (is_some (found f n (as_map g xs))) (is_some (found f n xs)) there back
      ∙ sym (has-found f n xs)
    where
      there : is_some (found f n (as_map g xs)) ≡ true → is_some (found f n xs) ≡ true
      there is =
          let x = some-of (found f n (as_map g xs)) is in
          let mapped : found g (g x.0) (as_map g xs) ≡ Some x.0 = found-rising f g n (as_map g xs) x.0 (rising-as_map g xs) x.1 in
          let plain : found g (g x.0) xs ≡ Some x.0 = sym (found-as_map g (g x.0) xs) ∙ mapped in
          ap (λ k. is_some (found f k xs)) (sym (found-number f n (as_map g xs) x.0 x.1)) ∙ found-other g f (g x.0) xs x.0 plain

      back : is_some (found f n xs) ≡ true → is_some (found f n (as_map g xs)) ≡ true
      back is =
          let x = some-of (found f n xs) is in
          let mapped : found g (g x.0) (as_map g xs) ≡ Some x.0 = found-as_map g (g x.0) xs ∙ each n x.0 x.1 in
          ap (λ k. is_some (found f k (as_map g xs))) (sym (found-number f n xs x.0 x.1)) ∙ found-other g f (g x.0) (as_map g xs) x.0 mapped

  -- a test that what is found passes, and nothing of another number
  pub find-only : (number : A → ℕ) (test : A → Bool) (n : ℕ) (xs : List A) (x : A) → found number n xs ≡ Some x → test x ≡ true → All (λ y. test y ≡ true
      → number y ≡ n) xs → find test xs ≡ Some x
  find-only number test n [] x is passes only = let no : ⊥ = cc in absurd no
  find-only number test n (y ∷ ys) x is passes only =
      by (test y) (number y == n) refl refl is (All-head (λ y. test y ≡ true → number y ≡ n) y ys only) (λ told. find-only number test n ys x told passes
      (All-tail (λ y. test y ≡ true → number y ≡ n) y ys only))
    where
      by : (a b : Bool) → test y ≡ a → (number y == n) ≡ b → cond b (Some y) (found number n ys) ≡ Some x → (test y ≡ true → number y ≡ n)
          → (found number n ys ≡ Some x → find test ys ≡ Some x) → cond a (Some y) (find test ys) ≡ Some x
      by true true here same told first rest = told
      by true false here same told first rest = let no : ⊥ = let it : (number y == n) ≡ true = ap (λ k. k == n) (first here) ∙ same-self n in cc in absurd no
      by false true here same told first rest = let no : ⊥ = let one : y ≡ x = cc in let it : test y ≡ true = ap test one ∙ passes in cc in absurd no
      by false false here same told first rest = rest told

  -- a list by rising number has one fewer without one that it has
  pub length-without : (number : A → ℕ) (n : ℕ) (xs : List A) (x : A) → IsRising number xs → found number n xs ≡ Some x
      → length (filter (λ y. not (number y == n)) xs) + 1 ≡ length xs
  length-without number n [] x rises is = let no : ⊥ = cc in absurd no
  length-without number n (y ∷ ys) x rises is = by (number y == n) refl is (length-without number n ys x rises.1)
    where
      all : (zs : List A) → All (λ z. n < number z) zs → length (filter (λ y. not (number y == n)) zs) ≡ length zs
      all [] above = refl
      all (z ∷ zs) above = rw (apart-above n (number z) (All-head (λ z. n < number z) z zs above)) (ap suc (all zs (All-tail (λ z. n < number z) z zs above)))

      by : (b : Bool) → (number y == n) ≡ b → cond b (Some y) (found number n ys) ≡ Some x → (found number n ys ≡ Some x
          → length (filter (λ y. not (number y == n)) ys) + 1 ≡ length ys)
          → length (cond (not b) (y ∷ filter (λ y. not (number y == n)) ys) (filter (λ y. not (number y == n)) ys)) + 1 ≡ suc (length ys)
      by true same told rest =
          let here : number y ≡ n = same-tells (number y) n same in
          let past = all ys (λ i d inside. omega (arith, here, rises.0 i d inside)) in omega (arith, past)
      by false same told rest = let less = rest told in omega (arith, less)

  -- what is counted is there
  pub any-counted : (p : A → Bool) (xs : List A) (b : Bool) → count_by p xs ≡ cond b 1 0 → list_any p xs ≡ b
  any-counted p [] true is = let no : ⊥ = cc in absurd no
  any-counted p [] false is = refl
  any-counted p (x ∷ xs) b is = by (p x) b (sym (sum_by-cons (λ y. cond (p y) 1 0) x xs) ∙ is) (any-counted p xs b)
    where
      by : (a b : Bool) → cond a 1 0 + count_by p xs ≡ cond b 1 0 → (count_by p xs ≡ cond b 1 0 → list_any p xs ≡ b) → (a || list_any p xs) ≡ b
      by true true told rest = refl
      by true false told rest = absurd (omega (arith, told))
      by false b told rest = rest (zero-count (count_by p xs) (cond b 1 0) told)
        where
          zero-count : (m n : ℕ) → 0 + m ≡ n → m ≡ n
          zero-count m n h = omega arith
