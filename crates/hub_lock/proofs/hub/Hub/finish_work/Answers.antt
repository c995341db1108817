use Rattle.std.proofs.Common.{◌∙◌, sym, ap}
use Rattle.turn_lock.specs.Passes.{PassState}
use Rattle.hub_lock.proofs.LockedWorkers.{still-executes}
use Rattle.hub_lock.proofs.WorkTurns.{worker-pass, finish-goes-on, finish-turn}
use Rattle.hub_lock.proofs.hub.Hub.finish_work.Goals as goal

pub finish-requires : goal.finish-requires
finish-requires g c = (
  c.type_bounds.send-J,
  rw (c.worker-worker.ensures, c.number.ensures)
      (still-executes g.N.Naming.numbers c.args.pass.now c.take-held.result.value.state.value c.invariant.ensures c.take-held.ensures.seen c.requires.executed.history c.requires.executed.rows
      c.args.ran.number c.args.ran.value c.requires.worker.0 c.take-held.ensures.known c.take-held.ensures.own c.requires.executed.shows),
)

pub give-requires-clause-adds : goal.give-requires-clause-adds
give-requires-clause-adds g c κs within =
    let n = g.N.Naming.numbers in
    let num = ap (λ (h : PassState). h.number) c.take-held.ensures.holder in
    rw c.take-held.ensures.taken
    (finish-goes-on n c.take-held.result.seat.me.0.number c.worker-worker.result c.args.ran.value c.take-held.result.value.state.value c.finish.new.self.state.value c.finish.ensures.after
    (worker-pass n c.args.pass.now.number c.worker-worker.result c.requires.worker.0 (rw c.number.ensures at c.worker-worker.ensures) ∙ sym num))

pub returns : goal.returns
returns g c =
    finish-turn g.N.Naming.numbers c.args.pass.now c.give.new.pass _ _ c.take-held.result.value.state.value c.finish.new.self.state.value c.take-held.ensures.holder c.take-held.ensures.taken
    c.take-held.ensures.seen c.finish.ensures.known c.give.ensures.pass c.worker-worker.result c.args.ran.value c.finish.ensures.after (rw c.number.ensures at c.worker-worker.ensures)
