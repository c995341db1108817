-- An end of the outside that counts its faults.
use Rattle.std.specs.Prelude.{ℕ}

-- a reader or a writer, and how many of its calls failed
pub record Counted (End : Type 0) : Type 0 where
  pub end : End
  pub faults : ℕ
