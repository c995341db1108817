use Rattle.std.proofs.Common.{ap, refl, None}
use Rattle.napi_types.specs.hub.Hub.{Hub}
use Rattle.shared_hub.specs.HubStates.{led_by}
use Rattle.shared_hub.proofs.HubHistories.{ComesNext, event-kept, adds-next, led-on, keeps-stage-on}
use Rattle.napi_types.specs.declared.entry.HostStep.TheVariants as host
use Rattle.napi_types.specs.plain.Entries.{host_entry}
use Rattle.shared_hub.proofs.EventSteps.{end-comes, ended-fields}
use Rattle.shared_hub.proofs.hub.HubState.end_frame.Goals as goal
use Rattle.shared_hub.proofs.hub.HubState.end_frame.Goals.{After-push_reserved}

pub invariant_of-self : goal.invariant_of-self
invariant_of-self g c =
    let s = c.self.inside in
    let h : Hub = led_by g.N.Naming.numbers s.entries.items in
    rw (c.push_reserved.ensures.items, c.host_entry.ensures, c.push_reserved.ensures.capacity)
    (event-kept g.N.Naming.numbers s.entries.items s.limit _ (host_entry host.End c.args.told) _ s.parts _ c.self.invariant.0
    (end-comes h c.args.begun c.args.told (rw (← c.self.view_is) at c.requires.stands) c.requires.end) refl (ended-fields h s.parts s.progress c.self.invariant.1))

comes : (g : _) (c : After-push_reserved g) → ComesNext (led_by g.N.Naming.numbers c.self.inside.entries.items) (host_entry host.End c.args.told)
    (record (led_by g.N.Naming.numbers c.self.inside.entries.items) { standing = None })
comes g c = end-comes _ c.args.begun c.args.told (rw (← c.self.view_is) at c.requires.stands) c.requires.end

pub returns-clause-next : goal.returns-clause-next
returns-clause-next g c =
    rw (c.push_reserved.ensures.items, c.host_entry.ensures, ← c.self.view_is)
    (adds-next g.N.Naming.numbers c.self.inside.entries.items (host_entry host.End c.args.told) (comes g c).next)

pub returns-clause-keeps : goal.returns-clause-keeps
returns-clause-keeps g c =
    rw (c.push_reserved.ensures.items, c.host_entry.ensures, ← c.self.view_is)
    (keeps-stage-on g.N.Naming.numbers c.self.inside.entries.items (host_entry host.End c.args.told) _ (comes g c) (record { stage = refl; threads = refl; workers = refl }))

pub returns-clause-alone : goal.returns-clause-alone
returns-clause-alone g c =
    rw (c.push_reserved.ensures.items, c.host_entry.ensures)
    (ap (λ (h : Hub). h.standing) (led-on g.N.Naming.numbers c.self.inside.entries.items (host_entry host.End c.args.told) _ (comes g c)))
