-- How many threads and workers are left.
use Rattle.std.proofs.Common.{◌≡◌, ◌∙◌, ◌<◌, ℕ, zero, suc, ◌+◌, ◌==◌, ◌||◌, Bool, true, false, not, cond, List, [], ◌∷◌, length, filter, refl, ap, sym, subst, arith}
use Rattle.std.specs.List.{range_with_len}
use Rattle.napi_types.specs.plain.Lists.{has_number, with_number}
use Rattle.napi_types.specs.hub.Hub.{left_of}
use Rattle.napi_types.proofs.hub.HubRooms.{not_among, left-without}

-- as a hub opens all are left
none-ended : (a count : ℕ) → length (not_among [] (range_with_len a count)) ≡ count
none-ended a zero = refl
none-ended a (suc count) = ap suc (none-ended (a + 1) count)

pub all-are-left : (count : ℕ) → length (not_among [] (range_with_len 0 count)) ≡ count
all-are-left count = none-ended 0 count

-- a number below these is not among them
above-stay : (n : ℕ) (ended : List ℕ) (a count : ℕ) → n < a
    → filter (λ k. not (k == n)) (not_among ended (range_with_len a count)) ≡ not_among ended (range_with_len a count)
above-stay n ended a zero lt = refl
above-stay n ended a (suc count) lt = by (not (has_number a ended)) (above-stay n ended (a + 1) count (next lt))
  where
    next : n < a → n < a + 1
    next lt = omega (arith, lt)

    other : (m : ℕ) → n < m → (m == n) ≡ false
    other m lt = grind arith

    by : (b : Bool) → filter (λ k. not (k == n)) (not_among ended (range_with_len (a + 1) count)) ≡ not_among ended (range_with_len (a + 1) count)
        → filter (λ k. not (k == n)) (cond b (a ∷ not_among ended (range_with_len (a + 1) count)) (not_among ended (range_with_len (a + 1) count)))
        ≡ cond b (a ∷ not_among ended (range_with_len (a + 1) count)) (not_among ended (range_with_len (a + 1) count))
    by true rest =
        ap (λ c. cond (not c) (a ∷ filter (λ k. not (k == n)) (not_among ended (range_with_len (a + 1) count))) (filter (λ k. not (k == n)) (not_among ended (range_with_len (a + 1) count))))
        (other a lt) ∙ ap (λ ks. a ∷ ks) rest
    by false rest = rest

abbrev later_left : List ℕ → ℕ → ℕ → List ℕ
later_left ended a count = not_among ended (range_with_len (a + 1) count)

-- one that is among them stands there once
stands-once : (n : ℕ) (ended : List ℕ) (a count : ℕ) → has_number n (not_among ended (range_with_len a count)) ≡ true
    → length (filter (λ k. not (k == n)) (not_among ended (range_with_len a count))) + 1 ≡ length (not_among ended (range_with_len a count))
stands-once n ended a zero there = let no : false ≡ true = there in cc
stands-once n ended a (suc count) there = by (not (has_number a ended)) there (stands-once n ended (a + 1) count)
  where
    same : (m : ℕ) → (m == n) ≡ true → n < m + 1
    same m is = grind arith

    head-case : (e : Bool) → (a == n) ≡ e → (e || has_number n (later_left ended a count)) ≡ true → (has_number n (later_left ended a count) ≡ true → length (filter (λ k. not (k == n)) (later_left ended a count)) + 1 ≡ length (later_left ended a count))
        → length (cond (not e) (a ∷ filter (λ k. not (k == n)) (later_left ended a count)) (filter (λ k. not (k == n)) (later_left ended a count))) + 1 ≡ suc (length (later_left ended a count))
    head-case true is there later = let kept : length (filter (λ k. not (k == n)) (later_left ended a count)) ≡ length (later_left ended a count) = ap length (above-stay n ended (a + 1) count (same a is)) in omega (arith, kept)
    head-case false is there later = let one_less = later there in omega (arith, one_less)

    by : (b : Bool) → has_number n (cond b (a ∷ later_left ended a count) (later_left ended a count)) ≡ true → (has_number n (later_left ended a count) ≡ true → length (filter (λ k. not (k == n)) (later_left ended a count)) + 1 ≡ length (later_left ended a count))
        → length (filter (λ k. not (k == n)) (cond b (a ∷ later_left ended a count) (later_left ended a count))) + 1 ≡ length (cond b (a ∷ later_left ended a count) (later_left ended a count))
    by true there later = head-case (a == n) refl there later
    by false there later = later there

-- so one less is left as it ends
pub one-less-is-left : (count n : ℕ) (ended : List ℕ) → has_number n (left_of count ended) ≡ true
    → length (left_of count (with_number n ended)) + 1 ≡ length (left_of count ended)
one-less-is-left count n ended there =
    subst (λ ks. length ks + 1 ≡ length (left_of count ended)) (sym (left-without n ended (range_with_len 0 count))) (stands-once n ended 0 count there)
