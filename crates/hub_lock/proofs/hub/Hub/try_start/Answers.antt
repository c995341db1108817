use Rattle.std.proofs.Common.{◌∙◌, sym, ap}
use Rattle.turn_lock.specs.Passes.{PassState}
use Rattle.hub_lock.proofs.LockedWorkers.{worker-is-free}
use Rattle.hub_lock.proofs.WorkTurns.{worker-pass, start-goes-on, start-turn}
use Rattle.hub_lock.proofs.hub.Hub.try_start.Goals as goal

pub start-picked-requires-clause-there : goal.start-picked-requires-clause-there
start-picked-requires-clause-there g c κs within =
    rw (c.worker-worker.ensures, c.number-number.ensures)
    (worker-is-free g.N.Naming.numbers c.take-held.result.value.state.value c.args.pass.now.number c.args.pass.now.own c.invariant.ensures c.requires.worker.0 c.requires.worker.1
    c.take-held.ensures.own c.requires.idle).0

pub start-picked-requires-clause-free : goal.start-picked-requires-clause-free
start-picked-requires-clause-free g c κs within =
    rw (c.worker-worker.ensures, c.number-number.ensures)
    (worker-is-free g.N.Naming.numbers c.take-held.result.value.state.value c.args.pass.now.number c.args.pass.now.own c.invariant.ensures c.requires.worker.0 c.requires.worker.1
    c.take-held.ensures.own c.requires.idle).1

pub give-requires-clause-adds : goal.give-requires-clause-adds
give-requires-clause-adds g c κs within =
    let n = g.N.Naming.numbers in
    let num = ap (λ (h : PassState). h.number) c.take-held.ensures.holder in
    rw c.take-held.ensures.taken
    (start-goes-on n c.take-held.result.seat.me.0.number c.worker-worker.result c.take-held.result.value.state.value c.start-picked.new.self.state.value c.start-picked.result
    c.start-picked.ensures.after
    (worker-pass n c.args.pass.now.number c.worker-worker.result c.requires.worker.0 (rw c.number-number.ensures at c.worker-worker.ensures) ∙ sym num))

pub returns : goal.returns
returns g c =
    start-turn g.N.Naming.numbers c.args.pass.now c.give.new.pass _ _ c.take-held.result.value.state.value c.start-picked.new.self.state.value c.take-held.ensures.holder c.take-held.ensures.taken
    c.take-held.ensures.seen c.start-picked.ensures.known c.give.ensures.pass c.worker-worker.result c.start-picked.result c.start-picked.ensures.after
    (rw c.number-number.ensures at c.worker-worker.ensures)
