-- Functions that are closed one after the other.
use Rattle.std.proofs.Common.{◌≡◌, ◌∙◌, ◌<◌, ◌≤◌, ℕ, zero, suc, ◌+◌, List, [], ◌∷◌, ◌++◌, length, map, set, take, drop, get_or, refl, ap, arith}
use Rattle.napi_types.specs.parts.Functions.{FunctionState, closed}

-- the functions, where so many at the front are closed
abbrev pub closed_front : ℕ → List FunctionState → List FunctionState
closed_front n fs = map closed (take n fs) ++ drop n fs

closed-more : (n : ℕ) (fs : List FunctionState) (d : FunctionState) → n < length fs
    → set (closed_front n fs) n (closed (get_or (closed_front n fs) n d)) ≡ closed_front (suc n) fs
closed-more n [] d within = absurd (omega (arith, within))
closed-more zero (f ∷ fs) d within = refl
closed-more (suc n) (f ∷ fs) d within = ap (λ gs. closed f ∷ gs) (closed-more n fs d (less (length fs) within))
  where
    less : (l : ℕ) → suc n < suc l → n < l
    less l within = omega (arith, within)

-- one more is closed
pub closed-next : (n : ℕ) (fs gs hs : List FunctionState) → gs ≡ closed_front n fs → ((d : FunctionState) → hs ≡ set gs n (closed (get_or gs n d))) → n < length fs
    → hs ≡ closed_front (n + 1) fs
closed-next n [] gs hs is closes within = absurd (omega (arith, within))
closed-next n (f ∷ fs) gs hs is closes within =
    closes f ∙ ap (λ ks. set ks n (closed (get_or ks n f))) is ∙ closed-more n (f ∷ fs) f within ∙ ap (λ k. closed_front k (f ∷ fs)) next
  where
    next : suc n ≡ n + 1
    next = omega arith

pub closed-all : (n : ℕ) (fs : List FunctionState) → length fs ≤ n → closed_front n fs ≡ map closed fs
closed-all zero [] within = refl
closed-all (suc n) [] within = refl
closed-all zero (f ∷ fs) within = absurd (omega (arith, within))
closed-all (suc n) (f ∷ fs) within = ap (λ gs. closed f ∷ gs) (closed-all n fs (less (length fs) within))
  where
    less : (l : ℕ) → suc l ≤ suc n → l ≤ n
    less l within = omega (arith, within)

pub length-closed_front : (n : ℕ) (fs : List FunctionState) → length (closed_front n fs) ≡ length fs
length-closed_front zero fs = refl
length-closed_front (suc n) [] = refl
length-closed_front (suc n) (f ∷ fs) = ap suc (length-closed_front n fs)
