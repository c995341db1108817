use Rattle.std.proofs.Common.{refl}
use Rattle.napi_types.specs.hub.Hub.{Hub}
use Rattle.shared_hub.specs.HubStates.{led_by}
use Rattle.shared_hub.proofs.HubHistories.{event-kept, adds-next}
use Rattle.std.proofs.Common.{◌≡◌, ◌∙◌, ap, length, sym}
use Rattle.napi_types.specs.declared.entry.HostStep.TheVariants as host
use Rattle.napi_types.specs.declared.entry.Out.TheVariants as out
use Rattle.napi_types.specs.plain.Entries.{host_entry}
use Rattle.napi_types.specs.hub.HubEvents.{staged, drained_hub}
use Rattle.shared_hub.specs.declared.progress.HubStage.TheVariants as code
use Rattle.shared_hub.specs.HubParts.{drained_parts}
use Rattle.shared_hub.proofs.EventSteps.{drain-comes, drain-follows, staged-fields, drained-fields}
use Rattle.shared_hub.proofs.hub.HubState.drain.Goals as goal
use Rattle.shared_hub.proofs.hub.HubState.drain.Goals.{After-push_reserved}

count-is : (g : _) (c : After-push_reserved g) → c.drain-count.result ≡ length (led_by g.N.Naming.numbers c.self.inside.entries.items).pool.queued
count-is g c = c.drain-count.ensures.count ∙ sym (ap (λ p. length p.queued) c.self.invariant.1.pool)

pub invariant_of-self : goal.invariant_of-self
invariant_of-self g c =
    let s = c.self.inside in
    let h : Hub = led_by g.N.Naming.numbers s.entries.items in
    rw (c.push_reserved.ensures.items, c.host_entry.ensures, c.push_reserved.ensures.capacity, count-is g c, c.drain-count.ensures.drained)
    (event-kept g.N.Naming.numbers s.entries.items s.limit _ (host_entry host.Drain (out.Unsigned (length h.pool.queued))) (staged host.Drain (drained_hub h)) (drained_parts s.parts) _ c.self.invariant.0
    (drain-comes h (rw (← c.self.view_is) at c.requires.looped) (rw (← c.self.view_is) at c.requires.alone)) refl
    (staged-fields (drained_hub h) host.Drain code.Drained (drained_parts s.parts) s.progress (drain-follows h.stage (rw (← c.self.view_is) at c.requires.looped))
    (drained-fields h s.parts s.progress c.self.invariant.1)))

pub returns-clause-drained : goal.returns-clause-drained
returns-clause-drained g c =
    let h : Hub = led_by g.N.Naming.numbers c.self.inside.entries.items in
    rw (c.push_reserved.ensures.items, c.host_entry.ensures, count-is g c, ← c.self.view_is)
    (adds-next g.N.Naming.numbers c.self.inside.entries.items (host_entry host.Drain (out.Unsigned (length h.pool.queued)))
    (drain-comes h (rw (← c.self.view_is) at c.requires.looped) (rw (← c.self.view_is) at c.requires.alone)).next)
