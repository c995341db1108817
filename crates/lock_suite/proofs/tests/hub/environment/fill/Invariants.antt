use Rattle.lock_suite.specs.EnvironmentTurns.{IsByEnvironment}
use Rattle.lock_suite.proofs.tests.hub.environment.fill.Given as goal

abbrev pub invariant-loop-done : goal.invariant-loop-done
invariant-loop-done g l = IsByEnvironment g.N.Naming.numbers.threads l.fn.state l.state
