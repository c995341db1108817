-- What a test knows of a pass that took turns.
use Rattle.std.specs.Prelude.{◌≡◌, ℕ, ◌+◌, false, length}
use Rattle.turn_lock.specs.Passes.{PassState}

-- it is the same pass, does not hold, and has so many rows more of its own
abbrev pub HasAdded : PassState → PassState → ℕ → Type 0
HasAdded before after added =
    (after.lock ≡ before.lock) × (after.number ≡ before.number) × (after.holds ≡ false) × (length after.own ≡ length before.own + added)
