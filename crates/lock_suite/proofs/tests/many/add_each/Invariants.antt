use Rattle.std.proofs.Common.{◌≡◌, ◌+◌, ◌≤◌, false, length}
use Rattle.std.specs.List.{All}
use Rattle.turn_lock.specs.Passes.{PassState}
use Rattle.lock_suite.proofs.tests.many.add_each.Given as goal

-- the passes that are left are of this lock and free, and each that took its turn added one row at most
abbrev pub invariant-loop-pass : goal.invariant-loop-pass
invariant-loop-pass g l =
    (l.added + length l.passes.items ≤ length l.fn.passes.items)
    × All (λ (p : PassState). p.lock ≡ l.fn.turn.lock) l.passes.items
    × All (λ (p : PassState). p.holds ≡ false) l.passes.items

abbrev pub decreases-loop-pass : goal.decreases-loop-pass
decreases-loop-pass g l = goal.left-loop-pass g l
