use Rattle.std.proofs.Common.{◌≤◌}
use Rattle.parts_suite.proofs.tests.promises.end_many.Given as goal

abbrev pub invariant-loop-number : goal.invariant-loop-number
invariant-loop-number l = l.ended ≤ l.number
