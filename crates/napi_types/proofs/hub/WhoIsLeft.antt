-- Who is left: those within the count that have not ended.
use Rattle.std.proofs.Common.{◌≡◌, ◌∙◌, ◌<◌, ◌≤◌, ℕ, zero, suc, ◌+◌, ◌==◌, nat_lt, Bool, true, false, not, cond, ◌&&◌, ◌||◌, List, ◌∷◌, filter, refl, ap, sym, arith}
use Rattle.std.specs.List.{range_with_len}
use Rattle.std.proofs.lemmas.Bool.Decides.{nat_tests}
use Rattle.napi_types.specs.plain.Lists.{has_number}
use Rattle.napi_types.specs.hub.Hub.{left_of}
use Rattle.napi_types.proofs.plain.Found.{same-tells, apart-above}

-- those of a range that have not ended
abbrev rest_of : ℕ → ℕ → List ℕ → List ℕ
rest_of a n ended = filter (λ k. not (has_number k ended)) (range_with_len a n)

-- none of them is below the range
none-below : (w a n : ℕ) (ended : List ℕ) → w < a → has_number w (rest_of a n ended) ≡ false
none-below w a zero ended less = refl
none-below w a (suc n) ended less = by (not (has_number a ended)) (none-below w (a + 1) n ended (omega (arith, less)))
  where
    by : (c : Bool) → has_number w (rest_of (a + 1) n ended) ≡ false → has_number w (cond c (a ∷ rest_of (a + 1) n ended) (rest_of (a + 1) n ended)) ≡ false
    by true none = ap (λ d. d || has_number w (rest_of (a + 1) n ended)) (apart-above w a less) ∙ none
    by false none = none

-- none is above it
none-above : (a n w : ℕ) (ended : List ℕ) → a + n ≤ w → has_number w (rest_of a n ended) ≡ false
none-above a zero w ended high = refl
none-above a (suc n) w ended high = by (not (has_number a ended)) (none-above (a + 1) n w ended (omega (arith, high)))
  where
    apart : (a n w : ℕ) → a + suc n ≤ w → (a == w) ≡ false
    apart a n w high = grind (arith, nat_tests)

    by : (c : Bool) → has_number w (rest_of (a + 1) n ended) ≡ false → has_number w (cond c (a ∷ rest_of (a + 1) n ended) (rest_of (a + 1) n ended)) ≡ false
    by true none = ap (λ d. d || has_number w (rest_of (a + 1) n ended)) (apart a n w high) ∙ none
    by false none = none

-- one within it is one of them where it has not ended
left-within : (a n w : ℕ) (ended : List ℕ) → a ≤ w → w < a + n → has_number w (rest_of a n ended) ≡ not (has_number w ended)
left-within a zero w ended low high = absurd (omega (arith, low, high))
left-within a (suc n) w ended low high = by (a == w) refl (has_number a ended) refl (λ higher. left-within (a + 1) n w ended higher (omega (arith, high)))
  where
    above : (a w : ℕ) → a ≤ w → (a == w) ≡ false → a + 1 ≤ w
    above a w low apart = grind (arith, nat_tests)

    next : (a w : ℕ) → a ≡ w → w < a + 1
    next a w same = omega (arith, same)

    own : (a == w) ≡ true → (c : Bool) → has_number a ended ≡ c → not c ≡ not (has_number w ended)
    own is c gone = ap not (sym gone ∙ ap (λ k. has_number k ended) (same-tells a w is))

    by : (b : Bool) → (a == w) ≡ b → (c : Bool) → has_number a ended ≡ c → (a + 1 ≤ w → has_number w (rest_of (a + 1) n ended) ≡ not (has_number w ended))
        → has_number w (cond (not c) (a ∷ rest_of (a + 1) n ended) (rest_of (a + 1) n ended)) ≡ not (has_number w ended)
    by true is false gone later = ap (λ b. b || has_number w (rest_of (a + 1) n ended)) is ∙ own is false gone
    by true is true gone later = none-below w (a + 1) n ended (next a w (same-tells a w is)) ∙ own is true gone
    by false is false gone later = ap (λ b. b || has_number w (rest_of (a + 1) n ended)) is ∙ later (above a w low is)
    by false is true gone later = later (above a w low is)

pub left-tells : (count w : ℕ) (ended : List ℕ) → has_number w (left_of count ended) ≡ (nat_lt w count && not (has_number w ended))
left-tells count w ended = by (nat_lt w count) refl
  where
    below : (w count : ℕ) → nat_lt w count ≡ true → w < 0 + count
    below w count is = grind (arith, nat_tests)

    beyond : (w count : ℕ) → nat_lt w count ≡ false → 0 + count ≤ w
    beyond w count is = grind (arith, nat_tests)

    by : (b : Bool) → nat_lt w count ≡ b → has_number w (left_of count ended) ≡ (b && not (has_number w ended))
    by true is = left-within 0 count w ended (omega arith) (below w count is)
    by false is = none-above 0 count w ended (beyond w count is)

-- so one that is within the count is left where it has not ended
pub left-unless : (count w : ℕ) (ended : List ℕ) → w < count → has_number w (left_of count ended) ≡ not (has_number w ended)
left-unless count w ended below = left-tells count w ended ∙ ap (λ b. b && not (has_number w ended)) (within count w below)
  where
    within : (count w : ℕ) → w < count → nat_lt w count ≡ true
    within count w below = grind (arith, nat_tests)
