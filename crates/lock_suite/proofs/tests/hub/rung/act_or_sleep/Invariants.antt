use Rattle.lock_suite.specs.EnvironmentTurns.{IsFirstPass}
use Rattle.lock_suite.proofs.tests.hub.rung.act_or_sleep.Given as goal

abbrev pub invariant-loop : goal.invariant-loop
invariant-loop g l =
    (goal.iterator-loop g).can_next l.iterator'
    × (goal.iterator-loop g).is_finite l.iterator'
    × IsFirstPass l.fn.hub l.pass
