use Rattle.std.proofs.Common.{◌≡◌, ap, refl, Some, is_some}
use Rattle.napi_types.specs.declared.entry.Actor.TheVariants as actor
use Rattle.napi_types.specs.declared.entry.HostStep.TheVariants as host
use Rattle.napi_types.specs.declared.entry.Out.TheVariants as out
use Rattle.napi_types.specs.parts.Pool.{executed_by, with_finished}
use Rattle.napi_types.specs.hub.Hub.{Hub}
use Rattle.napi_types.specs.hub.HubMoves.{in_pool}
use Rattle.napi_types.specs.hub.HubStep.{actor_told}
use Rattle.napi_types.proofs.hub.ServingWorkers.{executing-workers-are-there}
use Rattle.shared_hub.specs.HubStates.{led_by}
use Rattle.shared_hub.proofs.EventSteps.{finished-comes, pool-fields}
use Rattle.shared_hub.proofs.HubHistories.{ComesNext, event-kept, adds-next, keeps-on, leads}
use Rattle.shared_hub.proofs.hub.HubState.finish.Goals as goal
use Rattle.shared_hub.proofs.hub.HubState.finish.Goals.{After-push_reserved}

comes : (g : _) (c : After-push_reserved g) → ComesNext (led_by g.N.Naming.numbers c.self.inside.entries.items) (actor_told (actor.Worker c.args.worker) host.Finish (out.Unsigned c.args.ran.value))
    (in_pool (with_finished c.args.worker) (led_by g.N.Naming.numbers c.self.inside.entries.items))
comes g c =
    let s = c.self.inside in
    let n = g.N.Naming.numbers in
    let h : Hub = led_by n s.entries.items in
    let runs : executed_by h.pool c.args.worker ≡ Some c.args.ran.number = rw (← c.self.view_is) at c.requires.executed in
    finished-comes h c.args.worker c.args.ran.number c.args.ran.value runs (rw (← c.self.view_is) at c.requires.value)
    (executing-workers-are-there n.limits.history n.threads n.workers c.args.worker s.entries.items h (leads n s.entries.items s.limit _ c.self.invariant.0) (ap is_some runs))

pub invariant_of-self : goal.invariant_of-self
invariant_of-self g c =
    let s = c.self.inside in
    let h : Hub = led_by g.N.Naming.numbers s.entries.items in
    rw (c.push_reserved.ensures.items, c.actor_entry.ensures, c.push_reserved.ensures.capacity, c.value-value.ensures, c.finish.ensures)
    (event-kept g.N.Naming.numbers s.entries.items s.limit _ (actor_told (actor.Worker c.args.worker) host.Finish (out.Unsigned c.args.ran.value)) (in_pool (with_finished c.args.worker) h) _ s.progress
    c.self.invariant.0 (comes g c) refl (pool-fields h s.parts s.progress (with_finished c.args.worker) c.self.invariant.1))

pub returns-clause-next : goal.returns-clause-next
returns-clause-next g c =
    rw (c.push_reserved.ensures.items, c.actor_entry.ensures, c.value-value.ensures, ← c.self.view_is)
    (adds-next g.N.Naming.numbers c.self.inside.entries.items (actor_told (actor.Worker c.args.worker) host.Finish (out.Unsigned c.args.ran.value)) (comes g c).next)

pub returns-clause-keeps : goal.returns-clause-keeps
returns-clause-keeps g c =
    let h : Hub = led_by g.N.Naming.numbers c.self.inside.entries.items in
    rw (c.push_reserved.ensures.items, c.actor_entry.ensures, c.value-value.ensures, ← c.self.view_is)
    (keeps-on g.N.Naming.numbers c.self.inside.entries.items (actor_told (actor.Worker c.args.worker) host.Finish (out.Unsigned c.args.ran.value)) (in_pool (with_finished c.args.worker) h)
    (comes g c) (record { stage = refl; standing = refl; threads = refl; workers = refl }))
