use Rattle.std.proofs.Common.{◌≡◌, ◌∙◌, Bool, true, false, IsTrue, ap, sym, subst, refl}
use Rattle.napi_types.specs.parts.Pool.{executed_by}
use Rattle.napi_types.specs.hub.Waits.{worker_waits}
use Rattle.napi_types.specs.hub.WorkerSteps.{is_worker_there}
use Rattle.shared_hub.specs.HubStates.{HubSeen}
use Rattle.env_loop.specs.ActorRuns.{HeldWork, NoWork, Started, WorkerSeen, IsWorkerOf}
use Rattle.env_loop.specs.HeldWorks.{held_in}
use Rattle.env_loop.proofs.WorkerEntries.{worker-there, worker-free, waits-so, makes-start, makes-end}
use Rattle.env_loop.proofs.actor.worker.WorkerRun.start.Goals as goal

pub start-requires-clause-there : goal.start-requires-clause-there
start-requires-clause-there g c κs within =
    let w : WorkerSeen = record { number = c.self.inside.number; held = held_in c.self.inside.hands; over = c.self.inside.over } in
    let of : IsWorkerOf g.N.Naming.numbers c.args.hub.now w = subst (λ (u : WorkerSeen). IsWorkerOf g.N.Naming.numbers c.args.hub.now u) (sym c.self.view_is) c.requires.stands in
    let here : c.self.inside.over ≡ false = ap (λ (u : WorkerSeen). u.over) c.self.view_is ∙ c.requires.there in
    worker-there g.N.Naming.numbers c.args.hub.now w c.invariant.ensures of here

pub start-requires-clause-free : goal.start-requires-clause-free
start-requires-clause-free g c κs within =
    let w : WorkerSeen = record { number = c.self.inside.number; held = held_in c.self.inside.hands; over = c.self.inside.over } in
    let of : IsWorkerOf g.N.Naming.numbers c.args.hub.now w = subst (λ (u : WorkerSeen). IsWorkerOf g.N.Naming.numbers c.args.hub.now u) (sym c.self.view_is) c.requires.stands in
    let here : c.self.inside.over ≡ false = ap (λ (u : WorkerSeen). u.over) c.self.view_is ∙ c.requires.there in
    let none : held_in c.self.inside.hands ≡ NoWork = ap (λ (u : WorkerSeen). u.held) c.self.view_is ∙ c.requires.free in
    worker-free g.N.Naming.numbers c.args.hub.now w c.invariant.ensures of here none

pub actor_end-requires-after_bounds : goal.actor_end-requires-after_bounds
actor_end-requires-after_bounds g c κs within =
    let w : WorkerSeen = record { number = c.self.inside.number; held = held_in c.self.inside.hands; over = c.self.inside.over } in
    let of : IsWorkerOf g.N.Naming.numbers c.args.hub.now w = subst (λ (u : WorkerSeen). IsWorkerOf g.N.Naming.numbers c.args.hub.now u) (sym c.self.view_is) c.requires.stands in
    let here : c.self.inside.over ≡ false = ap (λ (u : WorkerSeen). u.over) c.self.view_is ∙ c.requires.there in
    let none : held_in c.self.inside.hands ≡ NoWork = ap (λ (u : WorkerSeen). u.held) c.self.view_is ∙ c.requires.free in
    let same : c.start.new.self ≡ c.args.hub.now = c.in-Closing.ensures.event in (
      subst (λ (s : HubSeen). IsTrue (is_worker_there s.hub c.self.inside.number)) (sym same)
          (worker-there g.N.Naming.numbers c.args.hub.now w c.invariant.ensures of here),
      ap (λ (s : HubSeen). s.hub.pool.closing) same ∙ sym c.in-Closing.ensures.closing,
      ap (λ (s : HubSeen). executed_by s.hub.pool c.self.inside.number) same ∙ worker-free g.N.Naming.numbers c.args.hub.now w c.invariant.ensures of here none,
      refl,
    )

pub returns-in-Job-clause-stands : goal.returns-in-Job-clause-stands
returns-in-Job-clause-stands g c =
    let w : WorkerSeen = record { number = c.self.inside.number; held = held_in c.self.inside.hands; over = c.self.inside.over } in
    let of : IsWorkerOf g.N.Naming.numbers c.args.hub.now w = subst (λ (u : WorkerSeen). IsWorkerOf g.N.Naming.numbers c.args.hub.now u) (sym c.self.view_is) c.requires.stands in
    let here : c.self.inside.over ≡ false = ap (λ (u : WorkerSeen). u.over) c.self.view_is ∙ c.requires.there in
    let none : held_in c.self.inside.hands ≡ NoWork = ap (λ (u : WorkerSeen). u.held) c.self.view_is ∙ c.requires.free in
    let idle : IsWorkerOf g.N.Naming.numbers c.args.hub.now (record w { held = NoWork; over = false }) =
    subst (λ (b : Bool). IsWorkerOf g.N.Naming.numbers c.args.hub.now (record w { held = NoWork; over = b })) here
    (subst (λ (h : HeldWork). IsWorkerOf g.N.Naming.numbers c.args.hub.now (record w { held = h })) none of) in
    subst (λ (h : HeldWork). IsWorkerOf g.N.Naming.numbers c.start.new.self (record w { held = h })) (sym (ap held_in c.take_up.ensures))
    (subst (λ (b : Bool). IsWorkerOf g.N.Naming.numbers c.start.new.self (record w { held = Started c.in-Job.running; over = b })) (sym here)
    (makes-start g.N.Naming.numbers c.args.hub.now c.start.new.self c.self.inside.number c.in-Job.running idle c.in-Job.ensures.job c.in-Job.ensures.event))

pub returns-in-Nothing-clause-blocked : goal.returns-in-Nothing-clause-blocked
returns-in-Nothing-clause-blocked g c = λ _.
    let w : WorkerSeen = record { number = c.self.inside.number; held = held_in c.self.inside.hands; over = c.self.inside.over } in
    let of : IsWorkerOf g.N.Naming.numbers c.args.hub.now w = subst (λ (u : WorkerSeen). IsWorkerOf g.N.Naming.numbers c.args.hub.now u) (sym c.self.view_is) c.requires.stands in
    let here : c.self.inside.over ≡ false = ap (λ (u : WorkerSeen). u.over) c.self.view_is ∙ c.requires.there in
    let none : held_in c.self.inside.hands ≡ NoWork = ap (λ (u : WorkerSeen). u.held) c.self.view_is ∙ c.requires.free in
    subst (λ (u : WorkerSeen). worker_waits c.args.hub.now.hub u.number ≡ true) c.self.view_is
    (waits-so c.args.hub.now.hub c.self.inside.number
    (worker-free g.N.Naming.numbers c.args.hub.now w c.invariant.ensures of here none) c.in-Nothing.ensures.nothing)

pub returns-in-Closing-clause-stands : goal.returns-in-Closing-clause-stands
returns-in-Closing-clause-stands g c =
    let w : WorkerSeen = record { number = c.self.inside.number; held = held_in c.self.inside.hands; over = c.self.inside.over } in
    let of : IsWorkerOf g.N.Naming.numbers c.args.hub.now w = subst (λ (u : WorkerSeen). IsWorkerOf g.N.Naming.numbers c.args.hub.now u) (sym c.self.view_is) c.requires.stands in
    let here : c.self.inside.over ≡ false = ap (λ (u : WorkerSeen). u.over) c.self.view_is ∙ c.requires.there in
    let none : held_in c.self.inside.hands ≡ NoWork = ap (λ (u : WorkerSeen). u.held) c.self.view_is ∙ c.requires.free in
    let idle : IsWorkerOf g.N.Naming.numbers c.args.hub.now (record w { held = NoWork; over = false }) =
    subst (λ (b : Bool). IsWorkerOf g.N.Naming.numbers c.args.hub.now (record w { held = NoWork; over = b })) here
    (subst (λ (h : HeldWork). IsWorkerOf g.N.Naming.numbers c.args.hub.now (record w { held = h })) none of) in
    subst (λ (h : HeldWork). IsWorkerOf g.N.Naming.numbers c.actor_end.new.self (record w { held = h; over = true })) (sym none)
    (makes-end g.N.Naming.numbers c.start.new.self c.actor_end.new.self c.self.inside.number
    (subst (λ (s : HubSeen). IsWorkerOf g.N.Naming.numbers s (record w { held = NoWork; over = false })) (sym c.in-Closing.ensures.event) idle) c.actor_end.ensures.next)
