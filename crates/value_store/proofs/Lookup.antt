-- Numbers that a test tells apart.
use Rattle.std.proofs.Common.{◌≡◌, ◌≢◌, ℕ, ◌==◌, false, arith}

pub other-number : (a n : ℕ) → (a == n) ≡ false → a ≢ n
other-number a n h = grind arith

pub apart-number : (a n : ℕ) → a ≢ n → (a == n) ≡ false
apart-number a n h = grind arith
