-- The lowest ticket that is due.
use Rattle.std.proofs.Common.{◌≡◌, ◌∙◌, ℕ, zero, suc, ◌+◌, ◌<◌, ◌≤◌, Bool, true, false, cond, length, Some, None, refl, ap, arith}
use Rattle.std.specs.List.{find, range_with_len}
use Rattle.std.specs.Option.{is_some}
use Rattle.napi_types.specs.parts.Book.{Book, is_due, is_at, lowest_due}

-- the first number of a range that passes a test, where those before it fail
find-passes : (test : ℕ → Bool) (k len : ℕ) (b : Bool) → test k ≡ b → find test (range_with_len k (suc len)) ≡ cond b (Some k) (find test (range_with_len (k + 1) len))
find-passes test k len b is = rw is refl

pub find-first : (test : ℕ → Bool) (k len n : ℕ) → k ≤ n → n < k + len → test n ≡ true → ((m : ℕ) → test m ≡ true → n ≤ m) → find test (range_with_len k len) ≡ Some n
find-first test k zero n low high is lowest = absurd (omega arith)
find-first test k (suc len) n low high is lowest =
    by (test k) refl (λ fails. find-first test (k + 1) len n (past fails) (omega (arith, past fails)) is lowest)
  where
    past : test k ≡ false → k + 1 ≤ n
    past fails = grind (arith, low, is, fails)

    by : (b : Bool) → test k ≡ b → (test k ≡ false → find test (range_with_len (k + 1) len) ≡ Some n) → find test (range_with_len k (suc len)) ≡ Some n
    by true here rest = let same : k ≡ n = omega (arith, lowest k here) in find-passes test k len true here ∙ ap Some same
    by false here rest = find-passes test k len false here ∙ rest here

pub find-none : (test : ℕ → Bool) (k len : ℕ) → ((m : ℕ) → test m ≡ false) → find test (range_with_len k len) ≡ None
find-none test k zero none = refl
find-none test k (suc len) none = find-passes test k len false (none k) ∙ find-none test (k + 1) len none

-- a number of a range passes a test
pub find-some : (test : ℕ → Bool) (k len n : ℕ) → k ≤ n → n < k + len → test n ≡ true → is_some (find test (range_with_len k len)) ≡ true
find-some test k zero n low high is = absurd (omega (arith, low, high))
find-some test k (suc len) n low high is = by (test k) refl (λ fails. find-some test (k + 1) len n (past fails) (omega (arith, past fails, high)) is)
  where
    past : test k ≡ false → k + 1 ≤ n
    past fails = grind (arith, low, is, fails)

    by : (b : Bool) → test k ≡ b → (test k ≡ false → is_some (find test (range_with_len (k + 1) len)) ≡ true) → is_some (find test (range_with_len k (suc len))) ≡ true
    by true here rest = ap is_some (find-passes test k len true here)
    by false here rest = ap is_some (find-passes test k len false here) ∙ rest here

pub lowest-some : (book : Book) (n : ℕ) → 1 ≤ n → n ≤ length book → is_at is_due book n ≡ true → is_some (lowest_due book) ≡ true
lowest-some book n above within is = find-some (is_at is_due book) 1 (length book) n above (omega (arith, within)) is

pub lowest-is : (book : Book) (n : ℕ) → 1 ≤ n → n ≤ length book → is_at is_due book n ≡ true → ((m : ℕ) → is_at is_due book m ≡ true → n ≤ m) → lowest_due book ≡ Some n
lowest-is book n above within is lowest = find-first (is_at is_due book) 1 (length book) n above (omega (arith, within)) is lowest

pub lowest-none : (book : Book) → ((m : ℕ) → is_at is_due book m ≡ false) → lowest_due book ≡ None
lowest-none book none = find-none (is_at is_due book) 1 (length book) none
