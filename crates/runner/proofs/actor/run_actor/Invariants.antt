use Rattle.hub_lock.specs.SeenTurns.{SamePass}
use Rattle.env_loop.specs.ActorTurns.{IsSameActor}
use Rattle.runner.specs.AtPasses.{IsAtPass}
use Rattle.runner.proofs.actor.run_actor.Given as goal

abbrev pub invariant-loop : goal.invariant-loop
invariant-loop g l =
    (goal.iterator-loop g).can_next l.iterator'
    × (goal.iterator-loop g).is_finite l.iterator'
    × SamePass l.fn.pass l.pass
    × IsSameActor l.fn.actor l.actor
    × IsAtPass g.N.Naming.numbers l.pass l.actor
