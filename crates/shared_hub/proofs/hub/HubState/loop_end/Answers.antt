use Rattle.std.proofs.Common.{refl}
use Rattle.napi_types.specs.declared.entry.HostStep.TheVariants as host
use Rattle.napi_types.specs.declared.entry.Out.TheVariants as out
use Rattle.napi_types.specs.plain.Entries.{host_entry}
use Rattle.napi_types.specs.hub.Hub.{Hub}
use Rattle.napi_types.specs.hub.HubEvents.{staged}
use Rattle.shared_hub.specs.declared.progress.HubStage.TheVariants as code
use Rattle.shared_hub.specs.HubStates.{led_by}
use Rattle.shared_hub.proofs.EventSteps.{loop-ends, staged-fields}
use Rattle.shared_hub.proofs.HubHistories.{ComesNext, event-kept, adds-next}
use Rattle.shared_hub.proofs.hub.HubState.loop_end.Goals as goal
use Rattle.shared_hub.proofs.hub.HubState.loop_end.Goals.{After-push_reserved}

comes : (g : _) (c : After-push_reserved g) → ComesNext (led_by g.N.Naming.numbers c.self.inside.entries.items) (host_entry host.LoopEnd (out.Ended c.in-Some.why))
    (staged host.LoopEnd (led_by g.N.Naming.numbers c.self.inside.entries.items))
comes g c =
    loop-ends _ c.in-Some.why (rw (← c.self.view_is) at c.requires.going) (rw (← c.self.view_is) at c.requires.alone)

pub invariant_of-self-2 : goal.invariant_of-self-2
invariant_of-self-2 g c =
    let s = c.self.inside in
    let h : Hub = led_by g.N.Naming.numbers s.entries.items in
    rw (c.push_reserved.ensures.items, c.host_entry.ensures, c.push_reserved.ensures.capacity)
    (event-kept g.N.Naming.numbers s.entries.items s.limit _ (host_entry host.LoopEnd (out.Ended c.in-Some.why)) (staged host.LoopEnd h) s.parts _ c.self.invariant.0 (comes g c) refl
    (staged-fields h host.LoopEnd code.LoopEnded s.parts s.progress (rw (rw (← c.self.view_is) at c.requires.going) refl) c.self.invariant.1))

pub returns-clause-ended : goal.returns-clause-ended
returns-clause-ended g c =
    rw (c.push_reserved.ensures.items, c.host_entry.ensures, ← c.self.view_is)
    (adds-next g.N.Naming.numbers c.self.inside.entries.items (host_entry host.LoopEnd (out.Ended c.in-Some.why)) (comes g c).next)
