use Rattle.hub_lock.specs.SeenTurns.{HasLooked}
use Rattle.hub_lock.proofs.hub.Hub.start_work.Given as goal

abbrev pub invariant-loop : goal.invariant-loop
invariant-loop g l =
    (goal.iterator-loop g).can_next l.iterator'
    × (goal.iterator-loop g).is_finite l.iterator'
    × HasLooked g.N.Naming.numbers l.fn.pass l.pass
