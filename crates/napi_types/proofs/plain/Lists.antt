-- On lists and options: what a change leaves, what is found first, one option after another.
use Rattle.std.proofs.Common.{◌≡◌, ◌≢◌, ◌∙◌, ℕ, zero, suc, ◌+◌, ◌<◌, ◌≤◌, ◌⊎◌, inl, inr, ◌||◌, Bool, true, false, cond, List, [], ◌∷◌, ◌++◌, map, length, Option, Some, None, refl, ap, sym, arith, is_some, not}
use Rattle.std.specs.List.{All, find, list_any, range_with_len}
use Rattle.std.specs.Option.{option_or}
use Rattle.std.proofs.lemmas.Bool.{cases_eq}
use Rattle.std.proofs.lemmas.List.Elements.{All-nil, All-cons, All-head, All-tail}
use Rattle.napi_types.specs.declared.status.Status.{Status}
use Rattle.napi_types.specs.plain.Lists.{first_changed, tail, when, unless, has_number, is_empty}
use Rattle.napi_types.proofs.plain.Found.{next-above}

-- ELEMENTS
pub length-changed : {A : Type 0} (f : A → A) (xs : List A) → length (first_changed f xs) ≡ length xs
length-changed f [] = refl
length-changed f (x ∷ xs) = refl

pub length-tail : {A B : Type 0} (xs : List A) (ys : List B) → length xs ≡ length ys → length (tail xs) ≡ length (tail ys)
length-tail [] [] same = refl
length-tail [] (y ∷ ys) same = absurd (omega (arith, same))
length-tail (x ∷ xs) [] same = absurd (omega (arith, same))
length-tail (x ∷ xs) (y ∷ ys) same = omega (arith, same)

pub some-stand : {A : Type 0} (x : A) (xs ys : List A) → ys ≡ x ∷ xs → ys ≢ []
some-stand x xs ys is none = let no : x ∷ xs ≡ [] = sym is ∙ none in cc

pub any-map : {A B : Type 0} (test : B → Bool) (f : A → B) (xs : List A) → list_any test (map f xs) ≡ list_any (λ x. test (f x)) xs
any-map test f [] = refl
any-map test f (x ∷ xs) = ap (λ b. test (f x) || b) (any-map test f xs)

-- what holds of each element of two lists holds of each element of either
pub All-left : {A : Type 0} (P : A → Type 0) (xs ys : List A) → All P (xs ++ ys) → All P xs
All-left P [] ys all = All-nil P
All-left P (x ∷ xs) ys all = All-cons P x xs (All-head P x (xs ++ ys) all) (All-left P xs ys (All-tail P x (xs ++ ys) all))

pub All-right : {A : Type 0} (P : A → Type 0) (xs ys : List A) → All P (xs ++ ys) → All P ys
All-right P [] ys all = all
All-right P (x ∷ xs) ys all = All-right P xs ys (All-tail P x (xs ++ ys) all)

-- what holds of all that a function tells
pub of-map : {A B : Type 0} (P : B → Type 0) (f : A → B) (ys : List A) → All P (map f ys) → All (λ y. P (f y)) ys
of-map P f [] all = All-nil (λ y. P (f y))
of-map P f (y ∷ ys) all = All-cons (λ z. P (f z)) y ys (All-head P (f y) (map f ys) all) (of-map P f ys (All-tail P (f y) (map f ys) all))

-- a list in which a number stands has one
pub unempty : (n : ℕ) (ns : List ℕ) → has_number n ns ≡ true → not (is_empty ns) ≡ true
unempty n [] is = let no : ⊥ = cc in absurd no
unempty n (m ∷ ns) is = refl

-- THE FIRST THAT PASSES
pub find-passes : {A : Type 0} (test : A → Bool) (xs : List A) (x : A) → find test xs ≡ Some x → test x ≡ true
find-passes test [] x is = let no : ⊥ = cc in absurd no
find-passes test (y ∷ ys) x is = by (test y) refl is (find-passes test ys x)
  where
    by : (b : Bool) → test y ≡ b → cond b (Some y) (find test ys) ≡ Some x → (find test ys ≡ Some x → test x ≡ true) → test x ≡ true
    by true here is rest = let same : y ≡ x = cc in ap test (sym same) ∙ here
    by false here is rest = rest is

-- of the numbers from one on, none of those before it passes
pub find-first : (test : ℕ → Bool) (a count n k : ℕ) → find test (range_with_len a count) ≡ Some n → a ≤ k → k < n → test k ≡ false
find-first test a zero n k is from below = cc
find-first test a (suc count) n k is from below = by (test a) refl is (λ rest above. find-first test (a + 1) count n k rest above below)
  where
    later : test a ≡ false → find test (range_with_len (a + 1) count) ≡ Some n
        → (find test (range_with_len (a + 1) count) ≡ Some n → a + 1 ≤ k → test k ≡ false) → (a ≡ k) ⊎ (a ≡ k → ⊥) → test k ≡ false
    later here rest next (inl same) = ap test (sym same) ∙ here
    later here rest next (inr apart) = next rest (next-above a k from apart)

    by : (b : Bool) → test a ≡ b → cond b (Some a) (find test (range_with_len (a + 1) count)) ≡ Some n
        → (find test (range_with_len (a + 1) count) ≡ Some n → a + 1 ≤ k → test k ≡ false) → test k ≡ false
    by true here is next = let same : a ≡ n = cc in absurd (omega (arith, same, from, below))
    by false here is next = later here is next (cases_eq a k)

-- ONE OPTION AFTER ANOTHER
pub option_or-none : {A : Type 0} (o : Option A) → option_or o None ≡ o
option_or-none None = refl
option_or-none (Some x) = refl

pub none-there : {A : Type 0} (o : Option A) → o ≡ None → is_some o ≡ true → ⊥
none-there None none there = cc
none-there (Some x) none there = cc

pub none-first : {A : Type 0} (a b : Option A) → option_or a b ≡ None → a ≡ None
none-first None b none = refl
none-first (Some x) b none = none

pub none-last : {A : Type 0} (a b : Option A) → option_or a b ≡ None → b ≡ None
none-last None b none = none
none-last (Some x) b none = cc

pub not-when : (b : Bool) (s : Status) → when b s ≡ None → b ≡ false
not-when true s none = cc
not-when false s none = refl

pub not-unless : (b : Bool) (s : Status) → unless b s ≡ None → b ≡ true
not-unless true s none = refl
not-unless false s none = cc
