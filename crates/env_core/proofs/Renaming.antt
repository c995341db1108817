-- Finite maps whose numbers are renamed, by a renaming that keeps the numbers of some kind apart.
use Rattle.std.proofs.Common.{◌≡◌, ◌∙◌, ℕ, ◌<◌, ◌==◌, nat_lt, ◌&&◌, ◌||◌, Bool, true, false, cond, List, [], ◌∷◌, map, filter, Option, Some, None, is_some, option_map, refl, ap, sym}
use Rattle.std.specs.List.{All, list_any}
use Rattle.std.specs.Option.{option_or}
use Rattle.std.proofs.lemmas.Bool.{ltb-true}
use Rattle.std.proofs.lemmas.List.{map-append}
use Rattle.std.proofs.lemmas.List.Elements.{All-head, All-tail, All-filter}
use Rattle.napi_types.specs.plain.Lists.{found, has, with_record, as_map}
use Rattle.napi_types.proofs.plain.Found.{same-tells, same-self, IsRising, apart-below, found-above, found-later, found-append, found-as_map, has-found, passing, rising-as_map, found-same, map-rising, as_map-filter, parts-rising}
use Rattle.napi_types.proofs.plain.Maps.{list_any-with_record}

-- a test of what records that pass another test tell is one of the records
pub any-filter : {A : Type 0} (p : ℕ → Bool) (f : A → ℕ) (q : A → Bool) (xs : List A) → list_any p (map f (filter q xs)) ≡ list_any (λ x. q x && p (f x)) xs
any-filter p f q [] = refl
any-filter p f q (x ∷ xs) = by (q x) (any-filter p f q xs)
  where
    by : (b : Bool) → list_any p (map f (filter q xs)) ≡ list_any (λ y. q y && p (f y)) xs
        → list_any p (map f (cond b (x ∷ filter q xs) (filter q xs))) ≡ ((b && p (f x)) || list_any (λ y. q y && p (f y)) xs)
    by true rest = ap (λ b. p (f x) || b) rest
    by false rest = rest

-- the renaming keeps the numbers of this kind apart, and `see` renames a record
module _ {A : Type 0} (number : A → ℕ) (rename : ℕ → ℕ) (see : A → A) (renames : (x : A) → number (see x) ≡ rename (number x))
    (P : ℕ → Type 0) (keeps-apart : (m n : ℕ) → P m → P n → rename m ≡ rename n → m ≡ n) where
  pub same-renamed : (m n : ℕ) → P m → P n → (rename m == rename n) ≡ (m == n)
  same-renamed m n one other = by (rename m == rename n) (m == n) refl refl
    where
      by : (a b : Bool) → (rename m == rename n) ≡ a → (m == n) ≡ b → a ≡ b
      by true true here there = refl
      by false false here there = refl
      by true false here there =
          let same : m ≡ n = keeps-apart m n one other (same-tells (rename m) (rename n) here) in
          let no : ⊥ = let is : (m == m) ≡ false = ap (λ k. m == k) same ∙ there in cc (is, same-self m) in absurd no
      by false true here there =
          let same : m ≡ n = same-tells m n there in
          let no : ⊥ = let is : (rename m == rename m) ≡ false = ap (λ k. rename m == rename k) same ∙ here in cc (is, same-self (rename m)) in absurd no

  -- what is found under a renamed number
  found-renamed : (n : ℕ) (xs : List A) → P n → All (λ x. P (number x)) xs → found number (rename n) (map see xs) ≡ option_map see (found number n xs)
  found-renamed n [] kind all = refl
  found-renamed n (x ∷ xs) kind all =
      let test : (number (see x) == rename n) ≡ (number x == n) = ap (λ k. k == rename n) (renames x) ∙ same-renamed (number x) n (All-head (λ y. P (number y)) x xs all) kind in
      ap (λ b. cond b (Some (see x)) (found number (rename n) (map see xs))) test ∙ by (number x == n) (found-renamed n xs kind (All-tail (λ y. P (number y)) x xs all))
    where
      by : (b : Bool) → found number (rename n) (map see xs) ≡ option_map see (found number n xs)
          → cond b (Some (see x)) (found number (rename n) (map see xs)) ≡ option_map see (cond b (Some x) (found number n xs))
      by true rest = refl
      by false rest = rest

  pub found-seen : (n : ℕ) (xs : List A) → P n → All (λ x. P (number x)) xs → found number (rename n) (as_map number (map see xs)) ≡ option_map see (found number n xs)
  found-seen n xs kind all = found-as_map number (rename n) (map see xs) ∙ found-renamed n xs kind all

  pub has-seen : (n : ℕ) (xs : List A) → P n → All (λ x. P (number x)) xs → has number (rename n) (as_map number (map see xs)) ≡ has number n xs
  has-seen n xs kind all =
      has-found number (rename n) (as_map number (map see xs)) ∙ ap is_some (found-seen n xs kind all) ∙ is_some-map (found number n xs) ∙ sym (has-found number n xs)
    where
      is_some-map : (o : Option A) → is_some (option_map see o) ≡ is_some o
      is_some-map None = refl
      is_some-map (Some x) = refl

  -- one record more
  pub seen-with_record : (x : A) (xs : List A) → P (number x) → All (λ y. P (number y)) xs → as_map number xs ≡ xs → has number (number x) xs ≡ false
      → as_map number (map see (with_record number x xs)) ≡ with_record number (see x) (as_map number (map see xs))
  seen-with_record x xs kind all is absent =
      found-same number (as_map number (map see (with_record number x xs))) (as_map number (map see (x ∷ xs))) (rising-as_map number (map see (with_record number x xs))) (rising-as_map number (map see (x ∷ xs)))
      (λ n. found-as_map number n (map see (with_record number x xs)) ∙ moved n ∙ sym (found-as_map number n (map see (x ∷ xs))))
    where
      lower : List A
      lower = filter (λ y. nat_lt (number y) (number x)) xs

      higher : List A
      higher = filter (λ y. nat_lt (number x) (number y)) xs

      missing : (n : ℕ) → (number (see x) == n) ≡ true → (ys : List A) → All (λ y. P (number y)) ys → All (λ y. nat_lt (number y) (number x) ≡ true) ys → found number n (map see ys) ≡ None
      missing n here [] kinds below = refl
      missing n here (y ∷ ys) kinds below =
          let first : number y < number x = ltb-true (number y) (number x) (All-head (λ z. nat_lt (number z) (number x) ≡ true) y ys below) in
          let at : rename (number x) ≡ n = sym (renames x) ∙ same-tells (number (see x)) n here in
          let other : (number (see y) == n) ≡ false =
          ap (λ k. k == n) (renames y) ∙ ap (λ k. rename (number y) == k) (sym at) ∙ same-renamed (number y) (number x) (All-head (λ z. P (number z)) y ys kinds) kind ∙ apart-below (number y) (number x) first in
          found-later number n (see y) (map see ys) other
          ∙ missing n here ys (All-tail (λ z. P (number z)) y ys kinds) (All-tail (λ z. nat_lt (number z) (number x) ≡ true) y ys below)

      first : (n : ℕ) → (number (see x) == n) ≡ true → found number n (map see lower) ≡ None
      first n here = missing n here lower (All-filter (λ y. nat_lt (number y) (number x)) (λ y. P (number y)) xs all) (passing number (λ y. nat_lt (number y) (number x)) xs)

      moved : (n : ℕ) → found number n (map see (with_record number x xs)) ≡ found number n (map see (x ∷ xs))
      moved n =
          ap (found number n) (map-append see lower (x ∷ higher)) ∙ found-append number n (map see lower) (see x ∷ map see higher)
          ∙ by (number (see x) == n) (first n)
          ∙ ap (λ o. cond (number (see x) == n) (Some (see x)) o)
          (sym (found-append number n (map see lower) (map see higher)) ∙ ap (found number n) (sym (map-append see lower higher))
          ∙ ap (λ ys. found number n (map see ys)) (parts-rising number (number x) xs (map-rising number xs is) absent))
        where
          by : (b : Bool) → (b ≡ true → found number n (map see lower) ≡ None)
              → option_or (found number n (map see lower)) (cond b (Some (see x)) (found number n (map see higher)))
              ≡ cond b (Some (see x)) (option_or (found number n (map see lower)) (found number n (map see higher)))
          by true none = ap (λ o. option_or o (Some (see x))) (none refl)
          by false none = refl

  -- the records whose numbers pass a test are those whose new numbers pass the test of these; they may be seen anew as they were
  pub listed-filter : (new : A → A) (p q : ℕ → Bool) (xs : List A) → All (λ x. q (rename (number x)) ≡ p (number x)) xs → All (λ x. p (number x) ≡ true → new x ≡ see x) xs
      → map new (filter (λ x. p (number x)) xs) ≡ filter (λ y. q (number y)) (map see xs)
  listed-filter new p q [] tests kept = refl
  listed-filter new p q (x ∷ xs) tests kept =
      let test : q (number (see x)) ≡ p (number x) = ap q (renames x) ∙ All-head (λ y. q (rename (number y)) ≡ p (number y)) x xs tests in
      by (p (number x)) (All-head (λ y. p (number y) ≡ true → new y ≡ see y) x xs kept)
      (listed-filter new p q xs (All-tail (λ y. q (rename (number y)) ≡ p (number y)) x xs tests) (All-tail (λ y. p (number y) ≡ true → new y ≡ see y) x xs kept))
      ∙ ap (λ b. cond b (see x ∷ filter (λ y. q (number y)) (map see xs)) (filter (λ y. q (number y)) (map see xs))) (sym test)
    where
      by : (b : Bool) → (b ≡ true → new x ≡ see x) → map new (filter (λ y. p (number y)) xs) ≡ filter (λ y. q (number y)) (map see xs)
          → map new (cond b (x ∷ filter (λ y. p (number y)) xs) (filter (λ y. p (number y)) xs))
          ≡ cond b (see x ∷ filter (λ y. q (number y)) (map see xs)) (filter (λ y. q (number y)) (map see xs))
      by true same rest = ap (λ z. z ∷ map new (filter (λ y. p (number y)) xs)) (same refl) ∙ ap (λ ys. see x ∷ ys) rest
      by false same rest = rest

  pub seen-filter : (new : A → A) (p q : ℕ → Bool) (xs : List A) → All (λ x. q (rename (number x)) ≡ p (number x)) xs → All (λ x. p (number x) ≡ true → new x ≡ see x) xs
      → as_map number (map new (filter (λ x. p (number x)) xs)) ≡ filter (λ y. q (number y)) (as_map number (map see xs))
  seen-filter new p q xs tests kept = ap (as_map number) (listed-filter new p q xs tests kept) ∙ as_map-filter number q (map see xs)

  -- a test finds something among the renamed records of a map where it finds it among them
  pub list_any-seen : (p : A → Bool) (xs : List A) → All (λ x. P (number x)) xs → IsRising number xs → list_any p (as_map number (map see xs)) ≡ list_any p (map see xs)
  list_any-seen p [] all rises = refl
  list_any-seen p (x ∷ xs) all rises =
      let kinds : All (λ y. P (number y)) xs = All-tail (λ y. P (number y)) x xs all in
      let absent : has number (number (see x)) (as_map number (map see xs)) ≡ false =
      ap (λ k. has number k (as_map number (map see xs))) (renames x) ∙ has-seen (number x) xs (All-head (λ y. P (number y)) x xs all) kinds
      ∙ has-found number (number x) xs ∙ ap is_some (found-above number (number x) xs rises.0) in
      list_any-with_record number (see x) p (as_map number (map see xs)) absent ∙ ap (λ b. p (see x) || b) (list_any-seen p xs kinds rises.1)
