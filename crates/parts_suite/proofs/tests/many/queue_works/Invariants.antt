use Rattle.std.proofs.Common.{◌≡◌, ◌≤◌, false, [], length}
use Rattle.parts_suite.proofs.tests.many.queue_works.Given as goal

abbrev pub invariant-loop-place : goal.invariant-loop-place
invariant-loop-place g l = (length l.works.issued ≤ l._place) × (l.works.executions ≡ []) × (l.works.closing ≡ false)
