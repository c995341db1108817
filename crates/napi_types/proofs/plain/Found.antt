-- What is found in a finite map: a list of records by rising number.
use Rattle.std.proofs.Common.{◌≡◌, ◌∙◌, ℕ, ◌<◌, ◌==◌, nat_lt, ◌||◌, Bool, true, false, not, cond, List, [], ◌∷◌, ◌++◌, filter, Option, Some, None, is_some, option_map, refl, ap, sym, subst, arith, suc, ◌+◌, ◌≤◌, inl, inr, map, nat_eq}
use Rattle.std.specs.List.{All}
use Rattle.std.specs.Option.{option_or, option_and_then}
use Rattle.std.proofs.lemmas.Bool.{ltb-true, lt-ltb, le-ltb, or_parts, cases_lt}
use Rattle.std.proofs.lemmas.Bool.Decides.{nat_tests}
use Rattle.std.proofs.lemmas.List.Elements.{All-head, All-tail, All-cons, All-nil, All-append, All-filter, All-map}
use Rattle.napi_types.specs.plain.Lists.{found, has, with_record, as_map, has_number, with_number}
use Rattle.napi_types.proofs.plain.Maps.{filter_all, filter_none, one-below}

-- NUMBERS APART
pub same-tells : (m n : ℕ) → (m == n) ≡ true → m ≡ n
same-tells m n same = grind (arith, nat_tests)

pub apart-below : (m n : ℕ) → m < n → (m == n) ≡ false
apart-below m n below = grind (arith, nat_tests)

pub apart-above : (m n : ℕ) → m < n → (n == m) ≡ false
apart-above m n below = grind (arith, nat_tests)

pub same-self : (n : ℕ) → (n == n) ≡ true
same-self n = grind (arith, nat_tests)

pub turned : (m n : ℕ) → (m == n) ≡ (n == m)
turned m n = grind (arith, nat_tests)

pub same-from : (m n : ℕ) → nat_eq m n ≡ true → m ≡ n
same-from m n is = grind (arith, nat_tests)

pub equal-tests : (m n : ℕ) → (m == n) ≡ nat_eq n m
equal-tests m n = grind (arith, nat_tests)

pub next-same : (m n : ℕ) → (suc m == suc n) ≡ (m == n)
next-same m n = grind (arith, nat_tests)

pub next-above : (m n : ℕ) → m ≤ n → (m ≡ n → ⊥) → m + 1 ≤ n
next-above m n from apart =
    elim (cases_lt m n) [
      | inl less ↦ omega (arith, less)
      | inr least ↦ absurd (apart (omega (arith, from, least)))
    ]

-- the records lie by rising number, no two with the same
abbrev pub IsRising : {A : Type 0} → (A → ℕ) → List A → Type 0
IsRising number [] = Unit {0}
IsRising number (x ∷ xs) = All (λ y. number x < number y) xs × IsRising number xs

module _ {A : Type 0} (number : A → ℕ) where
  -- WHAT IS FOUND
  pub found-above : (n : ℕ) (xs : List A) → All (λ y. n < number y) xs → found number n xs ≡ None
  found-above n [] above = refl
  found-above n (x ∷ xs) above =
      ap (λ b. cond b (Some x) (found number n xs)) (apart-above n (number x) (All-head (λ y. n < number y) x xs above))
      ∙ found-above n xs (All-tail (λ y. n < number y) x xs above)

  pub found-below : (n : ℕ) (xs : List A) → All (λ y. number y < n) xs → found number n xs ≡ None
  found-below n [] below = refl
  found-below n (x ∷ xs) below =
      ap (λ b. cond b (Some x) (found number n xs)) (apart-below (number x) n (All-head (λ y. number y < n) x xs below))
      ∙ found-below n xs (All-tail (λ y. number y < n) x xs below)

  pub found-first : (x : A) (xs : List A) → found number (number x) (x ∷ xs) ≡ Some x
  found-first x xs = ap (λ b. cond b (Some x) (found number (number x) xs)) (same-self (number x))

  pub found-later : (n : ℕ) (x : A) (xs : List A) → (number x == n) ≡ false → found number n (x ∷ xs) ≡ found number n xs
  found-later n x xs apart = ap (λ b. cond b (Some x) (found number n xs)) apart

  pub found-append : (n : ℕ) (xs ys : List A) → found number n (xs ++ ys) ≡ option_or (found number n xs) (found number n ys)
  found-append n [] ys = refl
  found-append n (x ∷ xs) ys = by (number x == n) (found-append n xs ys)
    where
      by : (b : Bool) → found number n (xs ++ ys) ≡ option_or (found number n xs) (found number n ys)
          → cond b (Some x) (found number n (xs ++ ys)) ≡ option_or (cond b (Some x) (found number n xs)) (found number n ys)
      by true rest = refl
      by false rest = rest

  -- what is found has the number
  pub found-number : (n : ℕ) (xs : List A) (x : A) → found number n xs ≡ Some x → number x ≡ n
  found-number n [] x is = let no : ⊥ = cc in absurd no
  found-number n (y ∷ ys) x is = by (number y == n) (same-tells (number y) n) is (found-number n ys x)
    where
      by : (b : Bool) → (b ≡ true → number y ≡ n) → cond b (Some y) (found number n ys) ≡ Some x → (found number n ys ≡ Some x → number x ≡ n) → number x ≡ n
      by true tells here rest = let it : y ≡ x = cc in ap number (sym it) ∙ tells refl
      by false tells later rest = rest later

  -- what holds of every record holds of the one that is found
  pub found-All : (P : A → Type 0) (n : ℕ) (xs : List A) (x : A) → All P xs → found number n xs ≡ Some x → P x
  found-All P n [] x all is = let no : ⊥ = cc in absurd no
  found-All P n (y ∷ ys) x all is = by (number y == n) is (All-head P y ys all) (found-All P n ys x (All-tail P y ys all))
    where
      by : (b : Bool) → cond b (Some y) (found number n ys) ≡ Some x → P y → (found number n ys ≡ Some x → P x) → P x
      by true here holds rest = let it : y ≡ x = cc in subst P it holds
      by false later holds rest = rest later

  -- of the records whose numbers pass a test, the same are found at these numbers
  pub found-filter : (q : ℕ → Bool) (n : ℕ) (xs : List A) → found number n (filter (λ x. q (number x)) xs) ≡ cond (q n) (found number n xs) None
  found-filter q n [] = by (q n)
    where
      by : (b : Bool) → None ≡ cond b (found number n []) None
      by true = refl
      by false = refl
  found-filter q n (x ∷ xs) = by (q (number x)) (number x == n) (q n) refl (λ same. ap q (same-tells (number x) n same)) (found-filter q n xs)
    where
      by : (a b c : Bool) → (number x == n) ≡ b → (b ≡ true → a ≡ c) → found number n (filter (λ y. q (number y)) xs) ≡ cond c (found number n xs) None
          → found number n (cond a (x ∷ filter (λ y. q (number y)) xs) (filter (λ y. q (number y)) xs)) ≡ cond c (cond b (Some x) (found number n xs)) None
      by true true true is same rest = ap (λ d. cond d (Some x) (found number n (filter (λ y. q (number y)) xs))) is
      by true true false is same rest = let no : ⊥ = let e = same refl in cc in absurd no
      by false true true is same rest = let no : ⊥ = let e = same refl in cc in absurd no
      by false true false is same rest = rest
      by true false c is same rest = ap (λ d. cond d (Some x) (found number n (filter (λ y. q (number y)) xs))) is ∙ rest
      by false false c is same rest = rest

  -- of rising records that pass a test, the one that was found is, where it passes
  pub found-kept : (p : A → Bool) (n : ℕ) (xs : List A) → IsRising number xs → found number n (filter p xs) ≡ option_and_then (λ x. cond (p x) (Some x) None) (found number n xs)
  found-kept p n [] rises = refl
  found-kept p n (x ∷ xs) rises = by (p x) (number x == n) refl refl (above (same-tells (number x) n)) (found-kept p n xs rises.1)
    where
      above : ((number x == n) ≡ true → number x ≡ n) → (number x == n) ≡ true → found number n (filter p xs) ≡ None
      above tells is =
          let here : number x ≡ n = tells is in
          found-above n (filter p xs) (All-filter p (λ y. n < number y) xs (λ i e within. omega (arith, here, rises.0 i e within)))

      by : (a b : Bool) → p x ≡ a → (number x == n) ≡ b → ((number x == n) ≡ true → found number n (filter p xs) ≡ None)
          → found number n (filter p xs) ≡ option_and_then (λ y. cond (p y) (Some y) None) (found number n xs)
          → found number n (cond a (x ∷ filter p xs) (filter p xs)) ≡ option_and_then (λ y. cond (p y) (Some y) None) (cond b (Some x) (found number n xs))
      by true true passes is none rest = ap (λ d. cond d (Some x) (found number n (filter p xs))) is ∙ sym (ap (λ d. cond d (Some x) None) passes)
      by false true passes is none rest = none is ∙ sym (ap (λ d. cond d (Some x) None) passes)
      by true false passes is none rest = ap (λ d. cond d (Some x) (found number n (filter p xs))) is ∙ rest
      by false false passes is none rest = rest

  -- a record has the number exactly where one is found
  pub has-found : (n : ℕ) (xs : List A) → has number n xs ≡ is_some (found number n xs)
  has-found n [] = refl
  has-found n (x ∷ xs) = by (number x == n) (has-found n xs)
    where
      by : (b : Bool) → has number n xs ≡ is_some (found number n xs) → (b || has number n xs) ≡ is_some (cond b (Some x) (found number n xs))
      by true rest = refl
      by false rest = rest

  -- ONE RECORD MORE
  pub found-with_record : (n : ℕ) (x : A) (xs : List A) → found number n (with_record number x xs) ≡ cond (number x == n) (Some x) (found number n xs)
  found-with_record n x xs =
      found-append n (filter (λ y. nat_lt (number y) (number x)) xs) (x ∷ filter (λ y. nat_lt (number x) (number y)) xs)
      ∙ ap (λ o. option_or o (found number n (x ∷ filter (λ y. nat_lt (number x) (number y)) xs))) (found-filter (λ m. nat_lt m (number x)) n xs)
      ∙ ap (λ o. option_or (cond (nat_lt n (number x)) (found number n xs) None) (cond (number x == n) (Some x) o)) (found-filter (λ m. nat_lt (number x) m) n xs)
      ∙ by (nat_lt n (number x)) (number x == n) (nat_lt (number x) n) (found number n xs) (each (number x) n)
    where
      each : (m k : ℕ) → ((m == k) ≡ true → nat_lt k m ≡ false) × ((m == k) ≡ false → nat_lt k m ≡ not (nat_lt m k))
      each m k = (λ same. grind (arith, nat_tests), λ apart. grind (arith, nat_tests))

      none : (o : Option A) → option_or o None ≡ o
      none None = refl
      none (Some y) = refl

      by : (a b c : Bool) (o : Option A) → (b ≡ true → a ≡ false) × (b ≡ false → a ≡ not c)
          → option_or (cond a o None) (cond b (Some x) (cond c o None)) ≡ cond b (Some x) o
      by true true c o e = let no : ⊥ = let is = e.0 refl in cc in absurd no
      by false true c o e = refl
      by true false true o e = let no : ⊥ = let is = e.1 refl in cc in absurd no
      by true false false o e = none o
      by false false true o e = refl
      by false false false o e = let no : ⊥ = let is = e.1 refl in cc in absurd no

  pub found-as_map : (n : ℕ) (xs : List A) → found number n (as_map number xs) ≡ found number n xs
  found-as_map n [] = refl
  found-as_map n (x ∷ xs) = found-with_record n x (as_map number xs) ∙ ap (λ o. cond (number x == n) (Some x) o) (found-as_map n xs)

  -- among records that are changed and keep their numbers
  pub found-map : (f : A → A) → ((x : A) → number (f x) ≡ number x) → (n : ℕ) (xs : List A) → found number n (map f xs) ≡ option_map f (found number n xs)
  found-map f same n [] = refl
  found-map f same n (x ∷ xs) = ap (λ k. cond (k == n) (Some (f x)) (found number n (map f xs))) (same x) ∙ by (number x == n) (found-map f same n xs)
    where
      by : (b : Bool) → found number n (map f xs) ≡ option_map f (found number n xs)
          → cond b (Some (f x)) (found number n (map f xs)) ≡ option_map f (cond b (Some x) (found number n xs))
      by true rest = refl
      by false rest = rest

  -- RISING NUMBERS
  pub rising-filter : (p : A → Bool) (xs : List A) → IsRising number xs → IsRising number (filter p xs)
  rising-filter p [] rises = cc
  rising-filter p (x ∷ xs) rises = by (p x) (All-filter p (λ y. number x < number y) xs rises.0) (rising-filter p xs rises.1)
    where
      by : (b : Bool) → All (λ y. number x < number y) (filter p xs) → IsRising number (filter p xs) → IsRising number (cond b (x ∷ filter p xs) (filter p xs))
      by true above rest = (above, rest)
      by false above rest = rest

  rising-append : (xs ys : List A) → IsRising number xs → IsRising number ys → All (λ x. All (λ y. number x < number y) ys) xs → IsRising number (xs ++ ys)
  rising-append [] ys left right between = right
  rising-append (x ∷ xs) ys left right between = (
    All-append (λ y. number x < number y) xs ys left.0 (All-head (λ z. All (λ y. number z < number y) ys) x xs between),
    rising-append xs ys left.1 right (All-tail (λ z. All (λ y. number z < number y) ys) x xs between),
  )

  pub passing : (p : A → Bool) (xs : List A) → All (λ x. p x ≡ true) (filter p xs)
  passing p [] = All-nil (λ x. p x ≡ true)
  passing p (x ∷ xs) = by (p x) refl (passing p xs)
    where
      by : (b : Bool) → p x ≡ b → All (λ y. p y ≡ true) (filter p xs) → All (λ y. p y ≡ true) (cond b (x ∷ filter p xs) (filter p xs))
      by true is rest = All-cons (λ y. p y ≡ true) x (filter p xs) is rest
      by false is rest = rest

  pub rising-with_record : (x : A) (xs : List A) → IsRising number xs → IsRising number (with_record number x xs)
  rising-with_record x xs rises =
      let higher : All (λ y. number x < number y) (filter (λ y. nat_lt (number x) (number y)) xs) = λ k d inside. ltb-true _ _ (passing (λ y. nat_lt (number x) (number y)) xs k d inside) in
      let lower : All (λ y. number y < number x) (filter (λ y. nat_lt (number y) (number x)) xs) = λ k d inside. ltb-true _ _ (passing (λ y. nat_lt (number y) (number x)) xs k d inside) in
      rising-append (filter (λ y. nat_lt (number y) (number x)) xs) (x ∷ filter (λ y. nat_lt (number x) (number y)) xs)
      (rising-filter (λ y. nat_lt (number y) (number x)) xs rises) (higher, rising-filter (λ y. nat_lt (number x) (number y)) xs rises)
      (λ k d inside. from _ _ (lower k d inside) higher)
    where
      from : (y : A) (zs : List A) → number y < number x → All (λ z. number x < number z) zs → All (λ z. number y < number z) (x ∷ zs)
      from y zs below above = All-cons (λ z. number y < number z) x zs below (λ i e within. omega (arith, below, above i e within))

  -- records that are changed and keep their numbers
  pub rising-changed : (f : A → A) → ((x : A) → number (f x) ≡ number x) → (xs : List A) → IsRising number xs → IsRising number (map f xs)
  rising-changed f same [] rises = tt
  rising-changed f same (x ∷ xs) rises =
      (All-map (λ y. number (f x) < number y) f xs (λ k d inside. rw (same x, same _) (rises.0 k d inside)), rising-changed f same xs rises.1)

  pub found-changed : (f : A → A) → ((x : A) → number (f x) ≡ number x) → (n : ℕ) (xs : List A) → found number n (map f xs) ≡ option_map f (found number n xs)
  found-changed f same n [] = refl
  found-changed f same n (x ∷ xs) =
      ap (λ k. cond (k == n) (Some (f x)) (found number n (map f xs))) (same x) ∙ by (number x == n) (found-changed f same n xs)
    where
      by : (b : Bool) → found number n (map f xs) ≡ option_map f (found number n xs)
          → cond b (Some (f x)) (found number n (map f xs)) ≡ option_map f (cond b (Some x) (found number n xs))
      by true rest = refl
      by false rest = rest

  pub rising-as_map : (xs : List A) → IsRising number (as_map number xs)
  rising-as_map [] = cc
  rising-as_map (x ∷ xs) = rising-with_record x (as_map number xs) (rising-as_map xs)

  -- TWO MAPS WITH THE SAME RECORDS ARE EQUAL
  pub found-same : (xs ys : List A) → IsRising number xs → IsRising number ys → ((n : ℕ) → found number n xs ≡ found number n ys) → xs ≡ ys
  found-same [] [] left right same = refl
  found-same [] (y ∷ ys) left right same = let no : ⊥ = let here = same (number y) ∙ found-first y ys in cc in absurd no
  found-same (x ∷ xs) [] left right same = let no : ⊥ = let here = sym (same (number x)) ∙ found-first x xs in cc in absurd no
  found-same (x ∷ xs) (y ∷ ys) left right same =
      by (nat_lt (number x) (number y)) (nat_lt (number y) (number x)) refl refl (λ first later. found-same xs ys left.1 right.1 (rest first later))
    where
      apart : (z : A) (zs : List A) (n : ℕ) → n < number z → All (λ v. number z < number v) zs → found number n (z ∷ zs) ≡ None
      apart z zs n below above = found-above n (z ∷ zs) (All-cons (λ v. n < number v) z zs below (λ i e within. omega (arith, below, above i e within)))

      -- past the first one, which has this number, the same are found
      rest : x ≡ y → number x ≡ number y → (n : ℕ) → found number n xs ≡ found number n ys
      rest first one n = case (number x == n) refl
        where
          case : (b : Bool) → (number x == n) ≡ b → found number n xs ≡ found number n ys
          case true is =
              let here : number x ≡ n = same-tells (number x) n is in
              found-above n xs (λ i e within. omega (arith, here, left.0 i e within)) ∙ sym (found-above n ys (λ i e within. omega (arith, here, one, right.0 i e within)))
          case false is = sym (found-later n x xs is) ∙ same n ∙ found-later n y ys (ap (λ z. number z == n) (sym first) ∙ is)

      by : (a b : Bool) → nat_lt (number x) (number y) ≡ a → nat_lt (number y) (number x) ≡ b → (x ≡ y → number x ≡ number y → xs ≡ ys) → x ∷ xs ≡ y ∷ ys
      by true b below above more =
          let no : ⊥ = let it : Some x ≡ None = sym (found-first x xs) ∙ same (number x) ∙ apart y ys (number x) (ltb-true (number x) (number y) below) right.0 in cc in absurd no
      by false true below above more =
          let no : ⊥ = let it : Some y ≡ None = sym (found-first y ys) ∙ sym (same (number y)) ∙ apart x xs (number y) (ltb-true (number y) (number x) above) left.0 in cc in absurd no
      by false false below above more =
          let one : number x ≡ number y = grind (arith, nat_tests) in
          let both : Some x ≡ Some y = sym (found-first x xs) ∙ same (number x) ∙ ap (λ n. found number n (y ∷ ys)) one ∙ found-first y ys in
          let first : x ≡ y = cc in
          ap (λ z. z ∷ xs) first ∙ ap (λ zs. y ∷ zs) (more first one)

  -- LISTS THAT ARE MAPS
  -- a list by rising number is the map of its records
  pub rising-map : (xs : List A) → IsRising number xs → as_map number xs ≡ xs
  rising-map xs rises = found-same (as_map number xs) xs (rising-as_map xs) rises (λ n. found-as_map n xs)

  pub map-rising : (xs : List A) → as_map number xs ≡ xs → IsRising number xs
  map-rising xs is = subst (IsRising number) is (rising-as_map xs)

  -- one record more, and fewer, are a map again
  pub as_map-with_record : (x : A) (xs : List A) → as_map number xs ≡ xs → as_map number (with_record number x xs) ≡ with_record number x xs
  as_map-with_record x xs is = rising-map (with_record number x xs) (rising-with_record x xs (map-rising xs is))

  pub as_map-kept : (p : A → Bool) (xs : List A) → as_map number xs ≡ xs → as_map number (filter p xs) ≡ filter p xs
  as_map-kept p xs is = rising-map (filter p xs) (rising-filter p xs (map-rising xs is))

  -- of records whose numbers pass a test the map is that of those that pass it
  pub as_map-filter : (q : ℕ → Bool) (xs : List A) → as_map number (filter (λ x. q (number x)) xs) ≡ filter (λ x. q (number x)) (as_map number xs)
  as_map-filter q xs =
      found-same (as_map number (filter (λ x. q (number x)) xs)) (filter (λ x. q (number x)) (as_map number xs))
      (rising-as_map (filter (λ x. q (number x)) xs)) (rising-filter (λ x. q (number x)) (as_map number xs) (rising-as_map xs))
      (λ n. found-as_map n (filter (λ x. q (number x)) xs) ∙ found-filter q n xs ∙ ap (λ o. cond (q n) o None) (sym (found-as_map n xs))
      ∙ sym (found-filter q n (as_map number xs)))

  -- a list by rising number is what lies below an absent number, and what lies above it
  pub parts-rising : (n : ℕ) (xs : List A) → IsRising number xs → has number n xs ≡ false → filter (λ y. nat_lt (number y) n) xs ++ filter (λ y. nat_lt n (number y)) xs ≡ xs
  parts-rising n [] rises absent = refl
  parts-rising n (x ∷ xs) rises absent =
      let apart = or_parts (number x == n) (has number n xs) absent in
      by (nat_lt (number x) n) (nat_lt n (number x)) refl refl (one-below (number x) n apart.0) (parts-rising n xs rises.1 apart.1)
    where
      by : (a b : Bool) → nat_lt (number x) n ≡ a → nat_lt n (number x) ≡ b → nat_lt (number x) n ≡ not (nat_lt n (number x))
          → filter (λ y. nat_lt (number y) n) xs ++ filter (λ y. nat_lt n (number y)) xs ≡ xs
          → cond a (x ∷ filter (λ y. nat_lt (number y) n) xs) (filter (λ y. nat_lt (number y) n) xs) ++ cond b (x ∷ filter (λ y. nat_lt n (number y)) xs) (filter (λ y. nat_lt n (number y)) xs) ≡ x ∷ xs
      by true true below above one rest = let no : ⊥ = cc in absurd no
      by true false below above one rest = ap (λ ys. x ∷ ys) rest
      by false false below above one rest = let no : ⊥ = cc in absurd no
      by false true below above one rest =
          let first : n < number x = ltb-true n (number x) above in
          ap (λ ys. ys ++ x ∷ filter (λ y. nat_lt n (number y)) xs) (filter_none (λ y. nat_lt (number y) n) xs (λ k d inside. le-ltb _ _ (omega (arith, first, rises.0 k d inside))))
          ∙ ap (λ ys. x ∷ ys) (filter_all (λ y. nat_lt n (number y)) xs (λ k d inside. lt-ltb _ _ (omega (arith, first, rises.0 k d inside))))

-- a set of numbers with one more has that, and those that it had
pub has-with_number : (k n : ℕ) (ns : List ℕ) → has_number k (with_number n ns) ≡ ((n == k) || has_number k ns)
has-with_number k n ns = has-found (λ m. m) k (with_number n ns) ∙ ap is_some (found-with_record (λ m. m) k n ns) ∙ by (n == k)
  where
    by : (b : Bool) → is_some (cond b (Some n) (found (λ m. m) k ns)) ≡ (b || has_number k ns)
    by true = refl
    by false = sym (has-found (λ m. m) k ns)
