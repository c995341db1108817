-- Numbers that count up from 1, as they are issued.
use Rattle.std.proofs.Common.{◌≡◌, ◌∙◌, ◌<◌, ◌≤◌, ℕ, zero, suc, ◌+◌, ◌==◌, true, false, ◌||◌, not, List, [], ◌∷◌, ◌++◌, length}
use Rattle.std.proofs.Common.{refl, ap, sym, arith, add-one}
use Rattle.std.specs.List.{All, range_with_len}
use Rattle.std.proofs.lemmas.List.FromFn.{get_or-range_with_len, length-range_with_len}
use Rattle.std.proofs.lemmas.List.Folds.{list_any_none}
use Rattle.napi_types.specs.plain.Lists.{has_number, with_number, up_to}
use Rattle.napi_types.proofs.plain.Maps.{with_record-last, swapped}
use Rattle.napi_types.proofs.plain.Found.{apart-below}

pub length-up_to : (n : ℕ) → length (up_to n) ≡ n
length-up_to n = length-range_with_len 1 n

-- none of them is above the last
up_to-within : (n : ℕ) → All (λ m. m ≤ n) (up_to n)
up_to-within n k d inside =
    let small : k < n = omega (arith, inside, length-up_to n) in
    let is = get_or-range_with_len 1 n k d small in
    omega (arith, is, small)

range-more : (a n : ℕ) → range_with_len a (suc n) ≡ range_with_len a n ++ (a + n) ∷ []
range-more a zero = ap (λ m. m ∷ []) (last a)
  where
    last : (a : ℕ) → a ≡ a + 0
    last a = omega arith
range-more a (suc n) = ap (λ ms. a ∷ ms) (range-more (a + 1) n ∙ ap (λ m. range_with_len (a + 1) n ++ m ∷ []) (next a n))
  where
    next : (a n : ℕ) → (a + 1) + n ≡ a + suc n
    next a n = omega arith

-- the number after them makes one more of them
pub up_to-more : (n : ℕ) → with_number (n + 1) (up_to n) ≡ up_to (n + 1)
up_to-more n =
    with_record-last (λ m. m) (n + 1) (up_to n) (λ k d inside. omega (arith, up_to-within n k d inside))
    ∙ ap (λ m. up_to n ++ m ∷ []) (next n) ∙ sym (range-more 1 n) ∙ ap up_to (sym (add-one n))
  where
    next : (n : ℕ) → n + 1 ≡ 1 + n
    next n = omega arith

-- and is none of them, nor 0
pub above-up_to : (m n : ℕ) → n < m → has_number m (up_to n) ≡ false
above-up_to m n h = list_any_none (λ k. k == m) (up_to n) (λ k d inside. apart-below _ m (omega (arith, h, up_to-within n k d inside)))

pub fresh_number : (n : ℕ) → not (has_number (n + 1) (0 ∷ up_to n)) ≡ true
fresh_number n = rw (apart n, above-up_to (n + 1) n (omega arith)) refl
  where
    apart : (n : ℕ) → (0 == n + 1) ≡ false
    apart n = grind arith

-- a number is the last of them, or is among those before
pub has-up_to : (k n : ℕ) → has_number k (up_to (suc n)) ≡ ((suc n == k) || has_number k (up_to n))
has-up_to k n = ap (has_number k) (range-more 1 n) ∙ has-last k (1 + n) (up_to n) ∙ ap (λ m. (m == k) || has_number k (up_to n)) (next n)
  where
    next : (n : ℕ) → 1 + n ≡ suc n
    next n = omega arith

    has-last : (k m : ℕ) (ms : List ℕ) → has_number k (ms ++ m ∷ []) ≡ ((m == k) || has_number k ms)
    has-last k m [] = refl
    has-last k m (x ∷ ms) = rw (has-last k m ms) (swapped (x == k) (m == k) (has_number k ms))
