use Rattle.std.proofs.Common.{◌≡◌, false}
use Rattle.lock_suite.proofs.tests.waking.add_many.Given as goal

abbrev pub invariant-loop-done : goal.invariant-loop-done
invariant-loop-done g l = (l.pass.lock ≡ l.fn.turn.lock) × (l.pass.holds ≡ false)
