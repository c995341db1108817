use Rattle.std.proofs.Common.{◌≡◌, []}
use Rattle.parts_suite.proofs.tests.many.run_works.Given as goal

abbrev pub invariant-loop-place : goal.invariant-loop-place
invariant-loop-place g l = l.works.executions ≡ []
