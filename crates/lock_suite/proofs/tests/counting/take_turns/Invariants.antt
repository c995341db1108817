use Rattle.std.proofs.Common.{◌≤◌}
use Rattle.lock_suite.specs.Counting.{HasAdded}
use Rattle.lock_suite.proofs.tests.counting.take_turns.Given as goal

abbrev pub invariant-loop-done : goal.invariant-loop-done
invariant-loop-done g l = (l.added ≤ l._done) × HasAdded l.fn.pass l.pass l.added
