use Rattle.runner.proofs.ActorsAtTurns.{burst-of-one, burst-then}
use Rattle.runner.proofs.actor.burst_under_the_lock.Goals as goal

pub loop-init : goal.loop-init
loop-init g c =
    let t = c.turn_under_the_lock-turn in
    burst-of-one g.N.Naming.numbers c.args.actor.now t.new.actor c.args.locked.now.state.value t.new.locked.state.value t.result t.ensures.turn t.ensures.stands t.ensures.actor t.ensures.known

pub loop-preserved : goal.loop-preserved
loop-preserved g c =
    let t = c.turn_under_the_lock-turn-in-loop in
    burst-then g.N.Naming.numbers c.args.actor.now c.loop.actor t.new.actor c.args.locked.now.state.value c.loop.locked.state.value t.new.locked.state.value c.loop.turn t.result c.loop.invariant
    (burst-of-one g.N.Naming.numbers c.loop.actor t.new.actor c.loop.locked.state.value t.new.locked.state.value t.result t.ensures.turn t.ensures.stands t.ensures.actor t.ensures.known)
