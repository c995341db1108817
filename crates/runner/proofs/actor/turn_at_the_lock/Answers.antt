use Rattle.std.proofs.Common.{◌∙◌, refl, ap}
use Rattle.turn_lock.specs.Passes.{PassState}
use Rattle.runner.proofs.TakenTurns.{actor-at-take, same-pass-back}
use Rattle.runner.proofs.ActorsAtTurns.{burst-goes-on, actor-after}
use Rattle.runner.proofs.actor.turn_at_the_lock.Goals as goal

pub burst_under_the_lock-turn-requires-clause-stands :
    goal.burst_under_the_lock-turn-requires-clause-stands
burst_under_the_lock-turn-requires-clause-stands g c κs within =
    actor-at-take g.N.Naming.numbers c.args.pass.now c.take-held.result.value.state.value.history c.take-held.ensures.seen c.take-held.ensures.own c.args.actor.now
    c.take-held.result.value.state.value refl c.invariant.ensures.led c.requires.at

pub give-requires-clause-adds : goal.give-requires-clause-adds
give-requires-clause-adds g c κs within =
    rw (c.take-held.ensures.taken, c.stay_awake.ensures)
    (burst-goes-on g.N.Naming.numbers c.take-held.result.seat.me.0.number c.args.actor.now c.burst_under_the_lock-turn.new.actor c.take-held.result.value.state.value
    c.burst_under_the_lock-turn.new.locked.state.value c.burst_under_the_lock-turn.result c.burst_under_the_lock-turn.ensures
    (ap (λ (h : PassState). h.number) c.take-held.ensures.holder ∙ c.requires.at.number))

pub returns-clause-at : goal.returns-clause-at
returns-clause-at g c =
    let b = c.burst_under_the_lock-turn in
    actor-after g.N.Naming.numbers c.args.pass.now c.give.new.pass c.args.actor.now b.new.actor b.new.locked.state.value c.requires.at b.ensures.same
    (same-pass-back c.args.pass.now c.give.new.pass _ _ _ c.take-held.ensures.holder c.give.ensures.pass).number
    b.ensures.known (rw c.stay_awake.ensures at (ap (λ (q : PassState). q.seen) c.give.ensures.pass)) (rw c.stay_awake.ensures at c.give.ensures.own)
    b.ensures.stands
