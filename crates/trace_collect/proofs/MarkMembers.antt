-- Which numbers stand in a list.
use Rattle.std.proofs.Common.{◌≡◌, ℕ, ◌==◌, ◌⊎◌, inl, inr, true, false, List, [], ◌∷◌, ◌++◌, map, Option, Some, None, refl, ap, sym, ◌∙◌}
use Rattle.std.specs.List.{filter_map, cons_option}
use Rattle.std.proofs.lemmas.Bool.{eqb-true, eq-eqb, or_cases, or_left, or_right}
use Rattle.std.proofs.lemmas.List.Folds.{list_any-append}
use Rattle.napi_types.specs.plain.Lists.{has_number}

pub has-cases : (n : ℕ) (xs ys : List ℕ) → has_number n (xs ++ ys) ≡ true → (has_number n xs ≡ true) ⊎ (has_number n ys ≡ true)
has-cases n xs ys h = or_cases (has_number n xs) (has_number n ys) (sym (list_any-append (λ m. m == n) xs ys) ∙ h)

pub has-one : (n m : ℕ) → has_number n (m ∷ []) ≡ true → m ≡ n
has-one n m h = elim (or_cases (m == n) false h) [ inl same ↦ eqb-true m n same | inr none ↦ let z : ⊥ = cc in absurd z ]

-- the image of a list has the images of its numbers, and no others
pub has-map : (f : ℕ → ℕ) (xs : List ℕ) (n : ℕ) → has_number n xs ≡ true → has_number (f n) (map f xs) ≡ true
has-map f [] n h = let no : ⊥ = cc in absurd no
has-map f (x ∷ xs) n h =
    elim (or_cases (x == n) (has_number n xs) h) [
      | inl same ↦ or_left (f x == f n) (has_number (f n) (map f xs)) (eq-eqb (f x) (f n) (ap f (eqb-true x n same)))
      | inr later ↦ or_right (f x == f n) (has_number (f n) (map f xs)) (has-map f xs n later)
    ]

pub from-map : (f : ℕ → ℕ) (xs : List ℕ) (n : ℕ) → has_number n (map f xs) ≡ true → (m : ℕ) × (has_number m xs ≡ true) × (f m ≡ n)
from-map f [] n h = let no : ⊥ = cc in absurd no
from-map f (x ∷ xs) n h =
    elim (or_cases (f x == n) (has_number n (map f xs)) h) [
      | inl same ↦ (x, or_left (x == x) (has_number x xs) (eq-eqb x x refl), eqb-true (f x) n same)
      | inr later ↦ let r = from-map f xs n later in (r.0, or_right (x == r.0) (has_number r.0 xs) r.1, r.2)
    ]

-- the same where only some have an image
pub has-filter_map : (f : ℕ → Option ℕ) (xs : List ℕ) (m n : ℕ) → has_number m xs ≡ true → f m ≡ Some n → has_number n (filter_map f xs) ≡ true
has-filter_map f [] m n h is = let no : ⊥ = cc in absurd no
has-filter_map f (x ∷ xs) m n h is =
    elim (or_cases (x == m) (has_number m xs) h) [
      | inl same ↦
          let here : f x ≡ Some n = ap f (eqb-true x m same) ∙ is in
          ap (λ o. has_number n (cons_option o (filter_map f xs))) here ∙ or_left (n == n) (has_number n (filter_map f xs)) (eq-eqb n n refl)
      | inr later ↦ by (f x) (has-filter_map f xs m n later is)
    ]
  where
    by : (o : Option ℕ) → has_number n (filter_map f xs) ≡ true → has_number n (cons_option o (filter_map f xs)) ≡ true
    by None rest = rest
    by (Some y) rest = or_right (y == n) (has_number n (filter_map f xs)) rest

pub from-filter_map : (f : ℕ → Option ℕ) (xs : List ℕ) (n : ℕ) → has_number n (filter_map f xs) ≡ true → (m : ℕ) × (has_number m xs ≡ true) × (f m ≡ Some n)
from-filter_map f [] n h = let no : ⊥ = cc in absurd no
from-filter_map f (x ∷ xs) n h = by (λ later. let r = from-filter_map f xs n later in (r.0, or_right (x == r.0) (has_number r.0 xs) r.1, r.2)) (f x) refl h
  where
    by : (has_number n (filter_map f xs) ≡ true → (m : ℕ) × (has_number m (x ∷ xs) ≡ true) × (f m ≡ Some n)) → (o : Option ℕ) → f x ≡ o → has_number n (cons_option o (filter_map f xs)) ≡ true → (m : ℕ) × (has_number m (x ∷ xs) ≡ true) × (f m ≡ Some n)
    by rest None is h = rest h
    by rest (Some y) is h =
        elim (or_cases (y == n) (has_number n (filter_map f xs)) h) [
          | inl same ↦ (x, or_left (x == x) (has_number x xs) (eq-eqb x x refl), is ∙ ap Some (eqb-true y n same))
          | inr later ↦ rest later
        ]
