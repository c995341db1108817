-- How often a test passes along lists that change.
use Rattle.std.proofs.Common.{◌≡◌, ◌∙◌, ℕ, ◌+◌, ◌<◌, ◌≤◌, ◌==◌, Bool, true, false, not, cond, nat_lt, ◌||◌, List, [], ◌∷◌, ◌++◌, map, filter, refl, ap, sym, arith, Some}
use Rattle.std.specs.List.{All, count_by}
use Rattle.std.proofs.lemmas.Bool.{or_parts}
use Rattle.std.proofs.lemmas.List.Elements.{All-head, All-tail}
use Rattle.std.proofs.lemmas.List.Sums.{sum_by-cons, sum_by-append}
use Rattle.napi_types.specs.plain.Lists.{found, has, has_number, with_record, singleton}
use Rattle.napi_types.specs.plain.Room.{one_if}
use Rattle.napi_types.proofs.plain.Found.{IsRising, same-tells, apart-above, turned}
use Rattle.napi_types.proofs.plain.Maps.{one-below}

-- 1 where a test holds
pub is-one : (b : Bool) → cond b 1 0 ≡ one_if b
is-one true = refl
is-one false = refl

pub at-most-one : (b : Bool) → one_if b ≤ 1
at-most-one true = omega arith
at-most-one false = omega arith

pub none-more : (n : ℕ) → 0 + n ≡ n
none-more n = omega arith

pub tally-cons : {A : Type 0} (p : A → Bool) (x : A) (xs : List A) → count_by p (x ∷ xs) ≡ one_if (p x) + count_by p xs
tally-cons p x xs = sum_by-cons (λ y. cond (p y) 1 0) x xs ∙ ap (λ n. n + count_by p xs) (is-one (p x))

pub tally-append : {A : Type 0} (p : A → Bool) (xs ys : List A) → count_by p (xs ++ ys) ≡ count_by p xs + count_by p ys
tally-append p xs ys = sum_by-append (λ y. cond (p y) 1 0) xs ys

pub tally-one : {A : Type 0} (p : A → Bool) (x : A) → count_by p (singleton x) ≡ one_if (p x)
tally-one p x = tally-cons p x [] ∙ plus (one_if (p x))
  where
    plus : (n : ℕ) → n + 0 ≡ n
    plus n = omega arith

pub tally-map : {A B : Type 0} (p : B → Bool) (f : A → B) (xs : List A) → count_by p (map f xs) ≡ count_by (λ x. p (f x)) xs
tally-map p f [] = refl
tally-map p f (x ∷ xs) = tally-cons p (f x) (map f xs) ∙ ap (λ n. one_if (p (f x)) + n) (tally-map p f xs) ∙ sym (tally-cons (λ y. p (f y)) x xs)

-- a test that passes of all what another passes
pub tally-same : {A : Type 0} (p q : A → Bool) → ((x : A) → p x ≡ q x) → (xs : List A) → count_by p xs ≡ count_by q xs
tally-same p q same [] = refl
tally-same p q same (x ∷ xs) =
    tally-cons p x xs ∙ ap (λ b. one_if b + count_by p xs) (same x) ∙ ap (λ n. one_if (q x) + n) (tally-same p q same xs) ∙ sym (tally-cons q x xs)

pub tally-never : {A : Type 0} (p : A → Bool) → ((x : A) → p x ≡ false) → (xs : List A) → count_by p xs ≡ 0
tally-never p never [] = refl
tally-never p never (x ∷ xs) = tally-cons p x xs ∙ ap (λ b. one_if b + count_by p xs) (never x) ∙ none-more (count_by p xs) ∙ tally-never p never xs

-- NUMBERS
-- without a number the others stand as often
pub tally-without : (k n : ℕ) (xs : List ℕ) → (n == k) ≡ false → count_by (λ m. n == m) (filter (λ m. not (m == k)) xs) ≡ count_by (λ m. n == m) xs
tally-without k n [] apart = refl
tally-without k n (x ∷ xs) apart = by (x == k) refl (tally-without k n xs apart)
  where
    by : (b : Bool) → (x == k) ≡ b → count_by (λ m. n == m) (filter (λ m. not (m == k)) xs) ≡ count_by (λ m. n == m) xs
        → count_by (λ m. n == m) (cond (not b) (x ∷ filter (λ m. not (m == k)) xs) (filter (λ m. not (m == k)) xs)) ≡ count_by (λ m. n == m) (x ∷ xs)
    by true is rest =
        let other : (n == x) ≡ false = ap (λ m. n == m) (same-tells x k is) ∙ apart in
        rest ∙ sym (tally-cons (λ m. n == m) x xs ∙ ap (λ b. one_if b + count_by (λ m. n == m) xs) other ∙ none-more (count_by (λ m. n == m) xs))
    by false is rest =
        tally-cons (λ m. n == m) x (filter (λ m. not (m == k)) xs) ∙ ap (λ c. one_if (n == x) + c) rest ∙ sym (tally-cons (λ m. n == m) x xs)

pub tally-gone : (k : ℕ) (xs : List ℕ) → count_by (λ m. k == m) (filter (λ m. not (m == k)) xs) ≡ 0
tally-gone k [] = refl
tally-gone k (x ∷ xs) = by (x == k) refl (tally-gone k xs)
  where
    by : (b : Bool) → (x == k) ≡ b → count_by (λ m. k == m) (filter (λ m. not (m == k)) xs) ≡ 0
        → count_by (λ m. k == m) (cond (not b) (x ∷ filter (λ m. not (m == k)) xs) (filter (λ m. not (m == k)) xs)) ≡ 0
    by true is rest = rest
    by false is rest =
        tally-cons (λ m. k == m) x (filter (λ m. not (m == k)) xs) ∙ ap (λ b. one_if b + count_by (λ m. k == m) (filter (λ m. not (m == k)) xs)) (turned k x ∙ is)
        ∙ none-more (count_by (λ m. k == m) (filter (λ m. not (m == k)) xs)) ∙ rest

-- one that is there stands at least once
pub tally-there : (k : ℕ) (xs : List ℕ) → has_number k xs ≡ true → 1 ≤ count_by (λ m. k == m) xs
tally-there k [] is = let no : false ≡ true = is in cc
tally-there k (x ∷ xs) is = by (x == k) refl is (tally-there k xs)
  where
    by : (b : Bool) → (x == k) ≡ b → (b || has_number k xs) ≡ true → (has_number k xs ≡ true → 1 ≤ count_by (λ m. k == m) xs)
        → 1 ≤ count_by (λ m. k == m) (x ∷ xs)
    by true here is rest =
        let first : count_by (λ m. k == m) (x ∷ xs) ≡ 1 + count_by (λ m. k == m) xs =
        tally-cons (λ m. k == m) x xs ∙ ap (λ b. one_if b + count_by (λ m. k == m) xs) (turned k x ∙ here) in
        omega (arith, first)
    by false here is rest =
        let first : count_by (λ m. k == m) (x ∷ xs) ≡ 0 + count_by (λ m. k == m) xs =
        tally-cons (λ m. k == m) x xs ∙ ap (λ b. one_if b + count_by (λ m. k == m) xs) (turned k x ∙ here) in
        let later : 1 ≤ count_by (λ m. k == m) xs = rest is in
        omega (arith, first, later)

-- RECORDS BY A NUMBER
module _ {A : Type 0} (number : A → ℕ) (p : A → Bool) where
  parts : (x : A) (xs : List A) → has number (number x) xs ≡ false
      → count_by p (filter (λ y. nat_lt (number y) (number x)) xs) + count_by p (filter (λ y. nat_lt (number x) (number y)) xs) ≡ count_by p xs
  parts x [] absent = refl
  parts x (y ∷ ys) absent =
      let both = or_parts (number y == number x) (has number (number x) ys) absent in
      by (nat_lt (number y) (number x)) (nat_lt (number x) (number y)) (one-below (number y) (number x) both.0) (parts x ys both.1)
    where
      lower : List A
      lower = filter (λ z. nat_lt (number z) (number x)) ys

      higher : List A
      higher = filter (λ z. nat_lt (number x) (number z)) ys

      by : (a b : Bool) → a ≡ not b → count_by p lower + count_by p higher ≡ count_by p ys
          → count_by p (cond a (y ∷ lower) lower) + count_by p (cond b (y ∷ higher) higher) ≡ count_by p (y ∷ ys)
      by true false e rest = omega (arith, rest, tally-cons p y lower, tally-cons p y ys)
      by false true e rest = omega (arith, rest, tally-cons p y higher, tally-cons p y ys)
      by true true e rest = cc
      by false false e rest = cc

  -- one more, of a number that none had
  pub tally-with_record : (x : A) (xs : List A) → has number (number x) xs ≡ false → count_by p (with_record number x xs) ≡ one_if (p x) + count_by p xs
  tally-with_record x xs absent =
      omega (
        arith,
        tally-append p (filter (λ y. nat_lt (number y) (number x)) xs) (x ∷ filter (λ y. nat_lt (number x) (number y)) xs),
        tally-cons p x (filter (λ y. nat_lt (number x) (number y)) xs),
        parts x xs absent,
      )

  unfound : (n : ℕ) (xs : List A) → All (λ y. n < number y) xs → count_by p (filter (λ y. not (number y == n)) xs) ≡ count_by p xs
  unfound n [] above = refl
  unfound n (x ∷ xs) above =
      ap (λ b. count_by p (cond (not b) (x ∷ filter (λ y. not (number y == n)) xs) (filter (λ y. not (number y == n)) xs)))
      (apart-above n (number x) (All-head (λ y. n < number y) x xs above))
      ∙ tally-cons p x (filter (λ y. not (number y == n)) xs) ∙ ap (λ c. one_if (p x) + c) (unfound n xs (All-tail (λ y. n < number y) x xs above))
      ∙ sym (tally-cons p x xs)

  -- without the one of a number
  pub tally-lost : (n : ℕ) (x : A) (xs : List A) → IsRising number xs → found number n xs ≡ Some x
      → count_by p (filter (λ y. not (number y == n)) xs) + one_if (p x) ≡ count_by p xs
  tally-lost n x [] rises is = let no : ⊥ = cc in absurd no
  tally-lost n x (y ∷ ys) rises is = by (number y == n) refl is (tally-lost n x ys rises.1)
    where
      rest : List A
      rest = filter (λ z. not (number z == n)) ys

      by : (b : Bool) → (number y == n) ≡ b → cond b (Some y) (found number n ys) ≡ Some x
          → (found number n ys ≡ Some x → count_by p rest + one_if (p x) ≡ count_by p ys) → count_by p (cond (not b) (y ∷ rest) rest) + one_if (p x) ≡ count_by p (y ∷ ys)
      by true same here later =
          let it : y ≡ x = cc in
          let at : number y ≡ n = same-tells (number y) n same in
          let kept : count_by p rest ≡ count_by p ys = unfound n ys (λ k d inside. omega (arith, at, rises.0 k d inside)) in
          let told : one_if (p y) ≡ one_if (p x) = ap (λ z. one_if (p z)) it in
          omega (arith, kept, told, tally-cons p y ys)
      by false same here later = omega (arith, later here, tally-cons p y ys, tally-cons p y rest)
