-- What rising records lose and win by one number, and which worker executes which work: each one at most, at every moment.
use Rattle.std.proofs.Common.{◌≡◌, ℕ, zero, suc, ◌+◌, ◌<◌, ◌≤◌, ◌==◌, nat_lt, Bool, true, false, not, cond, List, [], ◌∷◌, length, filter, refl, ap, arith, length-append}
use Rattle.std.specs.List.{All, range_with_len}
use Rattle.std.proofs.lemmas.Bool.{or_parts}
use Rattle.std.proofs.lemmas.List.Elements.{All-nil, All-cons, All-weaker}
use Rattle.napi_types.specs.plain.Lists.{has, has_number, with_record, with_number}
use Rattle.napi_types.specs.parts.Pool.{WorkPool}
use Rattle.napi_types.specs.parts.Works.{Execution}
use Rattle.napi_types.specs.hub.Hub.{left_of}
use Rattle.napi_types.proofs.plain.Found.{IsRising, same-tells, apart-above, rising-filter}
use Rattle.napi_types.proofs.plain.Maps.{filter_all, one-below}
use Rattle.napi_types.proofs.hub.HubRooms.{left-without}

-- ONE NUMBER
module _ {A : Type 0} (number : A → ℕ) where
  -- without the record of a number they are one fewer at most
  pub loses-one : (n : ℕ) (xs : List A) → IsRising number xs → length xs ≤ length (filter (λ x. not (number x == n)) xs) + 1
  loses-one n [] rises = omega arith
  loses-one n (x ∷ xs) rises = by (number x == n) refl (loses-one n xs rises.1)
    where
      kept : number x ≡ n → filter (λ y. not (number y == n)) xs ≡ xs
      kept is =
          filter_all (λ y. not (number y == n)) xs
          (All-weaker (λ y. number x < number y) (λ y. not (number y == n) ≡ true)
          (λ y above. ap not (apart-above n (number y) (omega (arith, is, above)))) xs rises.0)

      by : (b : Bool) → (number x == n) ≡ b → length xs ≤ length (filter (λ y. not (number y == n)) xs) + 1
          → suc (length xs) ≤ length (cond (not b) (x ∷ filter (λ y. not (number y == n)) xs) (filter (λ y. not (number y == n)) xs)) + 1
      by true is rest =
          let same : length (filter (λ y. not (number y == n)) xs) ≡ length xs = ap length (kept (same-tells (number x) n is)) in omega (arith, same)
      by false is rest = omega (arith, rest)

  parts-all : (x : A) (xs : List A) → has number (number x) xs ≡ false
      → length xs ≤ length (filter (λ y. nat_lt (number y) (number x)) xs) + length (filter (λ y. nat_lt (number x) (number y)) xs)
  parts-all x [] absent = omega arith
  parts-all x (y ∷ ys) absent =
      let parts = or_parts (number y == number x) (has number (number x) ys) absent in
      by (nat_lt (number y) (number x)) (nat_lt (number x) (number y)) (one-below (number y) (number x) parts.0) (parts-all x ys parts.1)
    where
      lower : List A
      lower = filter (λ z. nat_lt (number z) (number x)) ys

      higher : List A
      higher = filter (λ z. nat_lt (number x) (number z)) ys

      by : (a b : Bool) → a ≡ not b → length ys ≤ length lower + length higher
          → suc (length ys) ≤ length (cond a (y ∷ lower) lower) + length (cond b (y ∷ higher) higher)
      by true false e rest = omega (arith, rest)
      by false true e rest = omega (arith, rest)
      by true true e rest = cc
      by false false e rest = cc

  -- with a record of a number that none had they are one more
  pub wins-one : (x : A) (xs : List A) → has number (number x) xs ≡ false → length xs + 1 ≤ length (with_record number x xs)
  wins-one x xs absent =
      omega (arith, length-append (filter (λ y. nat_lt (number y) (number x)) xs) (x ∷ filter (λ y. nat_lt (number x) (number y)) xs), parts-all x xs absent)

range-above : (a b n : ℕ) → a < b → All (λ m. a < m) (range_with_len b n)
range-above a b zero below = All-nil (λ m. a < m)
range-above a b (suc n) below = All-cons (λ m. a < m) b (range_with_len (b + 1) n) below (range-above a (b + 1) n (omega (arith, below)))

range-rises : (a n : ℕ) → IsRising (λ m. m) (range_with_len a n)
range-rises a zero = tt
range-rises a (suc n) = (range-above a (a + 1) n (omega arith), range-rises (a + 1) n)

-- one actor that ends is one less at most
pub left-one : (count n : ℕ) (ended : List ℕ) → length (left_of count ended) ≤ length (left_of count (with_number n ended)) + 1
left-one count n ended =
    let rises : IsRising (λ m. m) (left_of count ended) =
    rising-filter (λ m. m) (λ k. not (has_number k ended)) (range_with_len 0 count) (range-rises 0 count) in
    let same : length (left_of count (with_number n ended)) ≡ length (filter (λ k. not (k == n)) (left_of count ended)) =
    ap length (left-without n ended (range_with_len 0 count)) in
    omega (arith, same, loses-one (λ m. m) n (left_of count ended) rises)

-- EXECUTIONS
-- they rise by the worker, so each worker executes one work at most
abbrev pub ExecutesOne : WorkPool → Type 0
ExecutesOne p = IsRising (λ (x : Execution). x.worker) p.executions
