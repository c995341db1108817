use Rattle.runner.specs.ActorsAtTheLock.{AfterBurst}
use Rattle.runner.proofs.actor.burst_under_the_lock.Given as goal

-- the turns so far are a burst
abbrev pub invariant-loop : goal.invariant-loop
invariant-loop g l = AfterBurst g.N.Naming.numbers l.fn.actor l.fn.locked.state.value l.turn l.actor l.locked.state.value
