-- The sum over a finite map, as it is changed at one number.
use Rattle.std.proofs.Common.{◌≡◌, ◌∙◌, ℕ, ◌+◌, ◌==◌, nat_lt, Bool, true, false, not, cond, List, [], ◌∷◌, map, filter, Some, None, is_some, refl, ap, arith}
use Rattle.std.specs.List.{sum_by}
use Rattle.std.specs.Option.{option_map_or}
use Rattle.std.proofs.lemmas.List.Sums.{sum_by-cons, sum_by-append}
use Rattle.napi_types.specs.plain.Lists.{found, with_record}
use Rattle.napi_types.proofs.plain.Found.{IsRising, same-tells, has-found, parts-rising, found-above}

module _ {A : Type 0} (number : A → ℕ) (f : A → ℕ) where
  -- a record comes that was not there
  pub sum-with_record : (x : A) (xs : List A) → IsRising number xs → found number (number x) xs ≡ None → sum_by f (with_record number x xs) ≡ sum_by f xs + f x
  sum-with_record x xs rises none =
      let lower : List A = filter (λ y. nat_lt (number y) (number x)) xs in
      let higher : List A = filter (λ y. nat_lt (number x) (number y)) xs in
      let all = ap (sum_by f) (parts-rising number (number x) xs rises (has-found number (number x) xs ∙ ap is_some none)) in
      omega (arith, all, sum_by-append f lower higher, sum_by-append f lower (x ∷ higher), sum_by-cons f x higher)

  -- a record goes
  pub sum-without : (n : ℕ) (xs : List A) → IsRising number xs → sum_by f (filter (λ y. not (number y == n)) xs) + option_map_or f (found number n xs) 0 ≡ sum_by f xs
  sum-without n [] rises = refl
  sum-without n (x ∷ xs) rises = by (number x == n) (same-tells (number x) n) (sum-without n xs rises.1)
    where
      rest : List A
      rest = filter (λ y. not (number y == n)) xs

      by : (b : Bool) → (b ≡ true → number x ≡ n) → sum_by f rest + option_map_or f (found number n xs) 0 ≡ sum_by f xs
          → sum_by f (cond (not b) (x ∷ rest) rest) + option_map_or f (cond b (Some x) (found number n xs)) 0 ≡ sum_by f (x ∷ xs)
      by true same more =
          let here : number x ≡ n = same refl in
          let none : found number n xs ≡ None = found-above number n xs (λ i e within. omega (arith, here, rises.0 i e within)) in
          omega (arith, more, ap (λ o. option_map_or f o 0) none, sum_by-cons f x xs)
      by false same more = omega (arith, more, sum_by-cons f x xs, sum_by-cons f x rest)

  -- a record is changed
  pub sum-changed : (g : A → A) (n : ℕ) (xs : List A) → IsRising number xs
      → sum_by f (map (λ y. cond (number y == n) (g y) y) xs) + option_map_or f (found number n xs) 0 ≡ sum_by f xs + option_map_or (λ y. f (g y)) (found number n xs) 0
  sum-changed g n [] rises = refl
  sum-changed g n (x ∷ xs) rises = by (number x == n) (same-tells (number x) n) (sum-changed g n xs rises.1)
    where
      rest : List A
      rest = map (λ y. cond (number y == n) (g y) y) xs

      by : (b : Bool) → (b ≡ true → number x ≡ n)
          → sum_by f rest + option_map_or f (found number n xs) 0 ≡ sum_by f xs + option_map_or (λ y. f (g y)) (found number n xs) 0
          → sum_by f (cond b (g x) x ∷ rest) + option_map_or f (cond b (Some x) (found number n xs)) 0
          ≡ sum_by f (x ∷ xs) + option_map_or (λ y. f (g y)) (cond b (Some x) (found number n xs)) 0
      by true same more =
          let here : number x ≡ n = same refl in
          let none : found number n xs ≡ None = found-above number n xs (λ i e within. omega (arith, here, rises.0 i e within)) in
          omega (arith, more, ap (λ o. option_map_or f o 0) none, ap (λ o. option_map_or (λ y. f (g y)) o 0) none, sum_by-cons f x xs, sum_by-cons f (g x) rest)
      by false same more = omega (arith, more, sum_by-cons f x xs, sum_by-cons f x rest)
