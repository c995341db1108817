use Rattle.lock_suite.specs.EnvironmentTurns.{IsFirstPass}
use Rattle.lock_suite.proofs.tests.hub.rung.lead.Given as goal

abbrev pub invariant-loop-does : goal.invariant-loop-does
invariant-loop-does g l = IsFirstPass l.fn.hub l.pass

abbrev pub invariant-loop-does-2 : goal.invariant-loop-does-2
invariant-loop-does-2 g l = IsFirstPass l.fn.hub l.pass

abbrev pub invariant-loop-does-3 : goal.invariant-loop-does-3
invariant-loop-does-3 g l = IsFirstPass l.fn.hub l.pass
