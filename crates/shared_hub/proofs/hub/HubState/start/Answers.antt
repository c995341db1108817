use Rattle.std.proofs.Common.{◌∙◌, ap, sym, refl}
use Rattle.napi_types.specs.declared.entry.Actor.TheVariants as actor
use Rattle.napi_types.specs.declared.entry.Duty.TheVariants as duty
use Rattle.napi_types.specs.declared.entry.HostStep.TheVariants as host
use Rattle.napi_types.specs.declared.entry.Out.TheVariants as out
use Rattle.napi_types.specs.parts.Pool.{with_started}
use Rattle.napi_types.specs.hub.Hub.{Hub}
use Rattle.napi_types.specs.hub.HubMoves.{in_pool}
use Rattle.napi_types.specs.hub.HubStep.{actor_told}
use Rattle.shared_hub.specs.HubStates.{led_by}
use Rattle.shared_hub.proofs.EventSteps.{picked-first, start-comes, pool-fields}
use Rattle.shared_hub.proofs.HubHistories.{ComesNext, event-kept, adds-next, keeps-on}
use Rattle.shared_hub.proofs.hub.HubState.start.Goals as goal
use Rattle.shared_hub.proofs.hub.HubState.start.Goals.{After-push_reserved}

comes : (g : _) (c : After-push_reserved g)
    → ComesNext (led_by g.N.Naming.numbers c.self.inside.entries.items) (actor_told (actor.Worker c.args.worker) host.Start (out.Duty (duty.Work c.in-Job.running.number)))
    (in_pool (with_started c.args.worker) (led_by g.N.Naming.numbers c.self.inside.entries.items))
comes g c =
    let s = c.self.inside in
    let h : Hub = led_by g.N.Naming.numbers s.entries.items in
    let first = picked-first s.parts.pool c.in-Job.running c.in-Job.ensures.job in
    start-comes h c.args.worker c.in-Job.running.number first.0 (ap (λ p. p.queued) c.self.invariant.1.pool ∙ first.1) (rw (← c.self.view_is) at c.requires.there)
    (ap (λ p. p.closing) c.self.invariant.1.pool ∙ sym c.in-Job.ensures.closing) (rw (← c.self.view_is) at c.requires.free)

pub invariant_of-self : goal.invariant_of-self
invariant_of-self g c =
    let s = c.self.inside in
    let h : Hub = led_by g.N.Naming.numbers s.entries.items in
    rw (c.push_reserved.ensures.items, c.actor_entry.ensures, c.push_reserved.ensures.capacity, c.number.ensures, c.start.ensures.started)
    (event-kept g.N.Naming.numbers s.entries.items s.limit _ (actor_told (actor.Worker c.args.worker) host.Start (out.Duty (duty.Work c.in-Job.running.number))) (in_pool (with_started c.args.worker) h) _ s.progress
    c.self.invariant.0 (comes g c) refl (pool-fields h s.parts s.progress (with_started c.args.worker) c.self.invariant.1))

pub returns-in-Job-clause-event : goal.returns-in-Job-clause-event
returns-in-Job-clause-event g c =
    rw (c.push_reserved.ensures.items, c.actor_entry.ensures, c.number.ensures, ← c.self.view_is)
    (adds-next g.N.Naming.numbers c.self.inside.entries.items (actor_told (actor.Worker c.args.worker) host.Start (out.Duty (duty.Work c.in-Job.running.number))) (comes g c).next)

pub returns-in-Job-clause-keeps : goal.returns-in-Job-clause-keeps
returns-in-Job-clause-keeps g c =
    let h : Hub = led_by g.N.Naming.numbers c.self.inside.entries.items in
    rw (c.push_reserved.ensures.items, c.actor_entry.ensures, c.number.ensures, ← c.self.view_is)
    (keeps-on g.N.Naming.numbers c.self.inside.entries.items (actor_told (actor.Worker c.args.worker) host.Start (out.Duty (duty.Work c.in-Job.running.number))) (in_pool (with_started c.args.worker) h)
    (comes g c) (record { stage = refl; standing = refl; threads = refl; workers = refl }))
