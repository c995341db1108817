use Rattle.std.proofs.Common.{◌≡◌, false}
use Rattle.lock_suite.proofs.tests.waking.add_slowly.Given as goal

abbrev pub invariant-loop-row : goal.invariant-loop-row
invariant-loop-row g l = (l.pass.lock ≡ l.fn.turn.lock) × (l.pass.holds ≡ false)
