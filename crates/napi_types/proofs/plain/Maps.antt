-- Finite maps and sets of numbers, with one record more.
use Rattle.std.proofs.Common.{◌≡◌, ◌∙◌, ℕ, suc, ◌+◌, ◌<◌, ◌≤◌, ◌==◌, nat_lt, nat_eq, ◌||◌, Bool, true, false, not, cond, List, [], ◌∷◌, ◌++◌, length, map, filter, inl, inr, refl, ap, sym, subst, arith, length-append}
use Rattle.std.specs.List.{All, AllByRecursion, IsDistinct, list_any}
use Rattle.std.proofs.lemmas.Bool.{lt-ltb, le-ltb, ltb-true, eqb-true, eq-eqb, or_from, or_parts, or_cases, or_left, or_right}
use Rattle.std.proofs.lemmas.Bool.Decides.{nat_tests}
use Rattle.std.proofs.lemmas.List.{map-append}
use Rattle.std.proofs.lemmas.List.Elements.{All-head, All-tail, All-nil, All-cons, All-append, All-filter}
use Rattle.std.proofs.lemmas.List.Folds.{list_any-append}
use Rattle.std.proofs.lemmas.Map.Keys.{IsDistinct-head, IsDistinct-tail}
use Rattle.napi_types.specs.plain.Lists.{has, has_number, with_record, as_map}

-- A TEST THAT ALL PASS, OR NONE
pub filter_all : {A : Type 0} (p : A → Bool) (xs : List A) → All (λ x. p x ≡ true) xs → filter p xs ≡ xs
filter_all p [] all = refl
filter_all p (x ∷ xs) all =
    ap (λ b. cond b (x ∷ filter p xs) (filter p xs)) (All-head (λ y. p y ≡ true) x xs all) ∙ ap (λ ys. x ∷ ys) (filter_all p xs (All-tail (λ y. p y ≡ true) x xs all))

pub filter_none : {A : Type 0} (p : A → Bool) (xs : List A) → All (λ x. p x ≡ false) xs → filter p xs ≡ []
filter_none p [] all = refl
filter_none p (x ∷ xs) all =
    ap (λ b. cond b (x ∷ filter p xs) (filter p xs)) (All-head (λ y. p y ≡ false) x xs all) ∙ filter_none p xs (All-tail (λ y. p y ≡ false) x xs all)

pub swapped : (a b c : Bool) → (a || (b || c)) ≡ (b || (a || c))
swapped true true c = refl
swapped true false c = refl
swapped false b c = refl

pub joined : (a b c : Bool) → (a || (b || c)) ≡ ((a || b) || c)
joined true b c = refl
joined false b c = refl

-- of two numbers that are not the same one is below the other
pub one-below : (m n : ℕ) → (m == n) ≡ false → nat_lt m n ≡ not (nat_lt n m)
one-below m n apart = grind (arith, nat_tests)

-- ONE RECORD MORE
module _ {A : Type 0} (number : A → ℕ) (x : A) where
  abbrev lower : A → Bool
  lower y = nat_lt (number y) (number x)

  abbrev higher : A → Bool
  higher y = nat_lt (number x) (number y)

  -- one above all others goes last, and one below all others first
  pub with_record-last : (xs : List A) → All (λ y. number y < number x) xs → with_record number x xs ≡ xs ++ x ∷ []
  with_record-last xs below =
      ap (λ ys. ys ++ x ∷ filter higher xs) (filter_all lower xs (λ k d inside. lt-ltb _ _ (below k d inside)))
      ∙ ap (λ ys. xs ++ x ∷ ys) (filter_none higher xs (λ k d inside. le-ltb _ _ (omega (arith, below k d inside))))

  pub with_record-first : (xs : List A) → All (λ y. number x < number y) xs → with_record number x xs ≡ x ∷ xs
  with_record-first xs above =
      ap (λ ys. ys ++ x ∷ filter higher xs) (filter_none lower xs (λ k d inside. le-ltb _ _ (omega (arith, above k d inside))))
      ∙ ap (λ ys. x ∷ ys) (filter_all higher xs (λ k d inside. lt-ltb _ _ (above k d inside)))

  -- it is one record more at most
  parts-length : (xs : List A) → length (filter lower xs) + length (filter higher xs) ≤ length xs
  parts-length [] = omega arith
  parts-length (y ∷ ys) = by (lower y) (higher y) (λ a. le-ltb (number x) (number y) (omega (arith, ltb-true (number y) (number x) a))) (parts-length ys)
    where
      by : (a b : Bool) → (a ≡ true → b ≡ false) → length (filter lower ys) + length (filter higher ys) ≤ length ys
          → length (cond a (y ∷ filter lower ys) (filter lower ys)) + length (cond b (y ∷ filter higher ys) (filter higher ys)) ≤ suc (length ys)
      by true true apart rest = let no = apart refl in cc
      by true false apart rest = omega (arith, rest)
      by false true apart rest = omega (arith, rest)
      by false false apart rest = omega (arith, rest)

  pub length-with_record : (xs : List A) → length (with_record number x xs) ≤ length xs + 1
  length-with_record xs = omega (arith, length-append (filter lower xs) (x ∷ filter higher xs), parts-length xs)

  -- what holds of the record and of all others
  pub All-with_record : (P : A → Type 0) (xs : List A) → P x → All P xs → All P (with_record number x xs)
  All-with_record P xs here all =
      All-append P (filter lower xs) (x ∷ filter higher xs) (All-filter lower P xs all) (All-cons P x (filter higher xs) here (All-filter higher P xs all))

  -- a test finds something where it finds the record or one of the others, if none of them has its number
  parts-any : (p : A → Bool) (xs : List A) → has number (number x) xs ≡ false → list_any p xs ≡ (list_any p (filter lower xs) || list_any p (filter higher xs))
  parts-any p [] absent = refl
  parts-any p (y ∷ ys) absent =
      let parts = or_parts (number y == number x) (has number (number x) ys) absent in
      by (lower y) (higher y) (one-below (number y) (number x) parts.0) (parts-any p ys parts.1)
    where
      by : (a b : Bool) → a ≡ not b → list_any p ys ≡ (list_any p (filter lower ys) || list_any p (filter higher ys))
          → (p y || list_any p ys) ≡ (list_any p (cond a (y ∷ filter lower ys) (filter lower ys)) || list_any p (cond b (y ∷ filter higher ys) (filter higher ys)))
      by true true e rest = cc
      by true false e rest = ap (λ c. p y || c) rest ∙ joined (p y) (list_any p (filter lower ys)) (list_any p (filter higher ys))
      by false true e rest = ap (λ c. p y || c) rest ∙ swapped (p y) (list_any p (filter lower ys)) (list_any p (filter higher ys))
      by false false e rest = cc

  pub list_any-with_record : (p : A → Bool) (xs : List A) → has number (number x) xs ≡ false → list_any p (with_record number x xs) ≡ (p x || list_any p xs)
  list_any-with_record p xs absent =
      list_any-append p (filter lower xs) (x ∷ filter higher xs) ∙ swapped (list_any p (filter lower xs)) (p x) (list_any p (filter higher xs))
      ∙ ap (λ c. p x || c) (sym (parts-any p xs absent))

-- THE MAP OF RECORDS
-- a test finds something in the map of records of different numbers where it finds it in them
absent_from : {A : Type 0} (number : A → ℕ) (n : ℕ) (xs : List A) → AllByRecursion (λ m. nat_eq n m ≡ false) (map number xs) → has number n xs ≡ false
absent_from number n [] all = refl
absent_from number n (x ∷ xs) all = or_from (number x == n) (has number n xs) (other n (number x) all.0) (absent_from number n xs all.1)
  where
    other : (n m : ℕ) → nat_eq n m ≡ false → (m == n) ≡ false
    other n m apart = grind (arith, nat_tests)

pub list_any-as_map : {A : Type 0} (number : A → ℕ) (p : A → Bool) (xs : List A) → IsDistinct nat_eq (map number xs) → list_any p (as_map number xs) ≡ list_any p xs
list_any-as_map number p [] distinct = refl
list_any-as_map number p (x ∷ xs) distinct =
    let later : IsDistinct nat_eq (map number xs) = IsDistinct-tail nat_eq (number x) (map number xs) distinct in
    let absent : has number (number x) (as_map number xs) ≡ false =
    list_any-as_map number (λ y. number y == number x) xs later ∙ absent_from number (number x) xs (IsDistinct-head nat_eq (number x) (map number xs) distinct) in
    list_any-with_record number x p (as_map number xs) absent ∙ ap (λ c. p x || c) (list_any-as_map number p xs later)

-- RECORDS THAT ARE CHANGED AND KEEP THEIR NUMBERS
pub map-filter : {A B : Type 0} (f : A → B) (p : A → Bool) (q : B → Bool) → ((y : A) → q (f y) ≡ p y) → (xs : List A) → map f (filter p xs) ≡ filter q (map f xs)
map-filter f p q same [] = refl
map-filter f p q same (x ∷ xs) = by (p x) (q (f x)) (same x) (map-filter f p q same xs)
  where
    by : (a b : Bool) → b ≡ a → map f (filter p xs) ≡ filter q (map f xs) → map f (cond a (x ∷ filter p xs) (filter p xs)) ≡ cond b (f x ∷ filter q (map f xs)) (filter q (map f xs))
    by true true e rest = ap (λ ys. f x ∷ ys) rest
    by true false e rest = cc
    by false true e rest = cc
    by false false e rest = rest

pub map-with_record : {A : Type 0} (number : A → ℕ) (f : A → A) → ((y : A) → number (f y) ≡ number y) → (x : A) (xs : List A) → map f (with_record number x xs) ≡ with_record number (f x) (map f xs)
map-with_record number f same x xs =
    map-append f (filter (λ y. nat_lt (number y) (number x)) xs) (x ∷ filter (λ y. nat_lt (number x) (number y)) xs)
    ∙ ap (λ ys. ys ++ f x ∷ map f (filter (λ y. nat_lt (number x) (number y)) xs)) (map-filter f _ (λ y. nat_lt (number y) (number (f x))) (λ y. rw (same y, same x) refl) xs)
    ∙ ap (λ ys. filter (λ y. nat_lt (number y) (number (f x))) (map f xs) ++ f x ∷ ys) (map-filter f _ (λ y. nat_lt (number (f x)) (number y)) (λ y. rw (same y, same x) refl) xs)

-- NUMBERS AMONG OTHERS
-- a number is among two lists where it is in one of them
pub has-left : (n : ℕ) (ms ns : List ℕ) → has_number n ms ≡ true → has_number n (ms ++ ns) ≡ true
has-left n ms ns here = list_any-append (λ m. m == n) ms ns ∙ or_left (has_number n ms) (has_number n ns) here

pub has-right : (n : ℕ) (ms ns : List ℕ) → has_number n ns ≡ true → has_number n (ms ++ ns) ≡ true
has-right n ms ns here = list_any-append (λ m. m == n) ms ns ∙ or_right (has_number n ms) (has_number n ns) here

-- what holds of all of these numbers holds of each that is among them
pub among-holds : (P : ℕ → Type 0) (ns : List ℕ) (n : ℕ) → All P ns → has_number n ns ≡ true → P n
among-holds P [] n all here = cc
among-holds P (m ∷ ms) n all here =
    elim (or_cases (m == n) (has_number n ms) here) [
      | inl same ↦ subst P (eqb-true m n same) (All-head P m ms all)
      | inr later ↦ among-holds P ms n (All-tail P m ms all) later
    ]

pub all-among : (P : ℕ → Type 0) (ns : List ℕ) → ((n : ℕ) → has_number n ns ≡ true → P n) → All P ns
all-among P [] holds = All-nil P
all-among P (n ∷ ns) holds =
    All-cons P n ns (holds n (or_left (n == n) (has_number n ns) (eq-eqb n n refl))) (all-among P ns (λ m here. holds m (or_right (n == m) (has_number m ns) here)))
