use Rattle.std.proofs.Common.{◌∙◌, sym, ap}
use Rattle.turn_lock.specs.Passes.{PassState}
use Rattle.hub_lock.proofs.WorkTurns.{some-pass, pass-of-actor, end-goes-on, end-turn, may-end-at}
use Rattle.hub_lock.proofs.hub.Hub.try_end.Goals as goal

pub actor-actor-requires : goal.actor-actor-requires
actor-actor-requires g c = (c.type_bounds.send-J, rw c.number-number.ensures (some-pass g.N.Naming.numbers c.args.pass.now c.args.cut c.requires.may))

pub end-ended-requires : goal.end-ended-requires
end-ended-requires g c = (
  c.type_bounds.send-J,
  λ live. rw (c.actor-actor.ensures, c.number-number.ensures)
      (may-end-at g.N.Naming.numbers c.args.pass.now c.take-held.result.value.state.value c.args.cut c.invariant.ensures c.take-held.ensures.seen c.take-held.ensures.own c.requires.may live),
)

pub give-requires-clause-adds : goal.give-requires-clause-adds
give-requires-clause-adds g c κs within =
    let n = g.N.Naming.numbers in
    let num = ap (λ (h : PassState). h.number) c.take-held.ensures.holder in
    rw c.take-held.ensures.taken
    (end-goes-on n c.take-held.result.seat.me.0.number c.actor-actor.result c.args.cut c.take-held.result.value.state.value c.end-ended.new.self.state.value c.end-ended.result
    c.end-ended.ensures.after
    (rw (c.actor-actor.ensures, c.number-number.ensures) (pass-of-actor n c.args.pass.now.number (some-pass n c.args.pass.now c.args.cut c.requires.may) ∙ sym num)))

pub returns : goal.returns
returns g c =
    end-turn g.N.Naming.numbers c.args.pass.now c.give.new.pass _ _ c.take-held.result.value.state.value c.end-ended.new.self.state.value c.take-held.ensures.holder c.take-held.ensures.taken
    c.take-held.ensures.seen c.end-ended.ensures.known c.give.ensures.pass c.actor-actor.result c.args.cut c.end-ended.result c.end-ended.ensures.after
    (rw c.number-number.ensures at c.actor-actor.ensures)
