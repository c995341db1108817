use Rattle.std.proofs.Common.{◌≤◌}
use Rattle.parts_suite.proofs.tests.promises.go_many.Given as goal

abbrev pub invariant-loop-value : goal.invariant-loop-value
invariant-loop-value l = (l.resolved ≤ l.value) × (l.left ≤ l.value)
