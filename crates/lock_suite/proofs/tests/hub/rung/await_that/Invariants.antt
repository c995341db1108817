use Rattle.lock_suite.specs.EnvironmentTurns.{IsFirstPass}
use Rattle.lock_suite.proofs.tests.hub.rung.await_that.Given as goal

abbrev pub invariant-loop : goal.invariant-loop
invariant-loop g l = IsFirstPass l.fn.hub l.pass
