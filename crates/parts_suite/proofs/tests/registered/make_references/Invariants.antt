use Rattle.std.proofs.Common.{◌≤◌, length}
use Rattle.parts_suite.proofs.tests.registered.make_references.Given as goal

abbrev pub invariant-loop-number : goal.invariant-loop-number
invariant-loop-number g l = length l.references.issued ≤ l._number
