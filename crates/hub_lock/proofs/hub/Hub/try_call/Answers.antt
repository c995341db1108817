use Rattle.std.proofs.Common.{◌∙◌, sym, ap}
use Rattle.turn_lock.specs.Passes.{PassState}
use Rattle.hub_lock.proofs.ThreadsLeft.{thread-is-left}
use Rattle.hub_lock.proofs.LockedCallTurns.{call-goes-on, call-turn}
use Rattle.hub_lock.proofs.hub.Hub.try_call.Goals as goal

pub call-tried-requires-clause-left : goal.call-tried-requires-clause-left
call-tried-requires-clause-left g c κs within =
    rw c.number-number.ensures
    (thread-is-left g.N.Naming.numbers c.take-held.result.value.state.value c.args.pass.now.number c.args.pass.now.own c.invariant.ensures c.requires.thread.0 c.requires.thread.1
    c.take-held.ensures.own c.requires.going_on)

pub give-requires-clause-adds : goal.give-requires-clause-adds
give-requires-clause-adds g c κs within =
    let num = ap (λ (h : PassState). h.number) c.take-held.ensures.holder in
    rw c.take-held.ensures.taken
    (call-goes-on g.N.Naming.numbers c.number-number.result c.args.step c.args.call.now c.take-held.result.value.state.value c.call-tried.new.self.state.value c.call-tried.result
    c.call-tried.ensures.after c.take-held.result.seat.me.0.number (rw c.number-number.ensures c.requires.thread.0) (c.number-number.ensures ∙ sym num))

pub returns : goal.returns
returns g c =
    call-turn g.N.Naming.numbers c.args.pass.now c.give.new.pass _ _ c.take-held.result.value.state.value c.call-tried.new.self.state.value c.number-number.result c.args.step c.args.call.now
    c.call-tried.result c.call-tried.ensures.after c.number-number.ensures c.take-held.ensures.holder c.take-held.ensures.taken c.take-held.ensures.seen c.call-tried.ensures.known c.give.ensures.pass
