use Rattle.std.proofs.Common.{◌≡◌, Bool, ap, sym, subst}
use Rattle.env_loop.specs.ActorRuns.{HeldWork, NoWork, Executed, WorkerSeen, IsWorkerOf}
use Rattle.env_loop.specs.HeldWorks.{held_in}
use Rattle.env_loop.proofs.WorkerEntries.{makes-finish}
use Rattle.env_loop.proofs.actor.worker.WorkerRun.turn.Goals as goal

pub returns-in-Executed-clause-stands : goal.returns-in-Executed-clause-stands
returns-in-Executed-clause-stands g c =
    let w : WorkerSeen = record { number = c.self.inside.number; held = held_in c.self.inside.hands; over = c.self.inside.over } in
    let of : IsWorkerOf g.N.Naming.numbers c.args.hub.now w = subst (λ (u : WorkerSeen). IsWorkerOf g.N.Naming.numbers c.args.hub.now u) (sym c.self.view_is) c.requires.stands in
    let held : held_in c.self.inside.hands ≡ Executed c.in-Executed.ran = ap held_in (sym c.in-Executed.ensures.value) in
    subst (λ (h : HeldWork). IsWorkerOf g.N.Naming.numbers c.finish.new.self (record w { held = h })) (sym (ap held_in c.replace.ensures.after))
    (subst (λ (b : Bool). IsWorkerOf g.N.Naming.numbers c.finish.new.self (record w { held = NoWork; over = b })) (sym c.if-self.false)
    (makes-finish g.N.Naming.numbers c.args.hub.now c.finish.new.self c.self.inside.number c.in-Executed.ran _
    (subst (λ (b : Bool). IsWorkerOf g.N.Naming.numbers c.args.hub.now (record w { held = Executed c.in-Executed.ran; over = b })) c.if-self.false
    (subst (λ (h : HeldWork). IsWorkerOf g.N.Naming.numbers c.args.hub.now (record w { held = h })) held of)) c.finish.ensures.next))
