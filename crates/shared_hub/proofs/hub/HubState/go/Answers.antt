use Rattle.std.proofs.Common.{refl}
use Rattle.napi_types.specs.declared.entry.HostStep.TheVariants as host
use Rattle.napi_types.specs.declared.entry.Out.TheVariants as out
use Rattle.napi_types.specs.plain.Entries.{host_entry}
use Rattle.napi_types.specs.hub.Hub.{Hub}
use Rattle.napi_types.specs.hub.HubEvents.{staged}
use Rattle.shared_hub.specs.declared.progress.HubStage.TheVariants as code
use Rattle.shared_hub.specs.HubStates.{led_by}
use Rattle.shared_hub.proofs.EventSteps.{go-comes, staged-fields}
use Rattle.shared_hub.proofs.HubHistories.{ComesNext, event-kept, adds-next}
use Rattle.shared_hub.proofs.hub.HubState.go.Goals as goal
use Rattle.shared_hub.proofs.hub.HubState.go.Goals.{After-push_reserved}

comes : (g : _) (c : After-push_reserved g) → ComesNext (led_by g.N.Naming.numbers c.self.inside.entries.items) (host_entry host.Go out.Nothing) (staged host.Go (led_by g.N.Naming.numbers c.self.inside.entries.items))
comes g c = go-comes _ (rw (← c.self.view_is) at c.requires.first) (rw (← c.self.view_is) at c.requires.alone)

pub invariant_of-self : goal.invariant_of-self
invariant_of-self g c =
    let s = c.self.inside in
    let h : Hub = led_by g.N.Naming.numbers s.entries.items in
    rw (c.push_reserved.ensures.items, c.host_entry.ensures, c.push_reserved.ensures.capacity)
    (event-kept g.N.Naming.numbers s.entries.items s.limit _ (host_entry host.Go out.Nothing) (staged host.Go h) s.parts _ c.self.invariant.0 (comes g c) refl
    (staged-fields h host.Go code.Live s.parts s.progress (rw (rw (← c.self.view_is) at c.requires.first) refl) c.self.invariant.1))

pub returns : goal.returns
returns g c =
    rw (c.push_reserved.ensures.items, c.host_entry.ensures, ← c.self.view_is)
    (adds-next g.N.Naming.numbers c.self.inside.entries.items (host_entry host.Go out.Nothing) (comes g c).next)
