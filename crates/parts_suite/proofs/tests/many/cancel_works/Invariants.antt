use Rattle.std.proofs.Common.{◌≡◌, []}
use Rattle.parts_suite.proofs.tests.many.cancel_works.Given as goal

abbrev pub invariant-loop-id : goal.invariant-loop-id
invariant-loop-id g l = l.works.executions ≡ []
