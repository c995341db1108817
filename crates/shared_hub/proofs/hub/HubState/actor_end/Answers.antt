use Rattle.std.proofs.Common.{refl}
use Rattle.napi_types.specs.hub.Hub.{Hub}
use Rattle.shared_hub.specs.HubStates.{led_by}
use Rattle.shared_hub.proofs.HubHistories.{event-kept, adds-next, keeps-on}
use Rattle.napi_types.specs.declared.entry.HostStep.TheVariants as host
use Rattle.napi_types.specs.hub.HubStep.{actor_told}
use Rattle.shared_hub.specs.SharedTries.{MayEnd, actor_end_told}
use Rattle.shared_hub.proofs.EventSteps.{actor_ended, actor-end-comes, actor-is-left, actor-ended-fields, actor-ended-keeps}
use Rattle.shared_hub.proofs.hub.HubState.actor_end.Goals as goal

pub end-requires : goal.end-requires
end-requires g c =
    let s = c.self.inside in
    actor-is-left (led_by g.N.Naming.numbers s.entries.items) c.args.actor c.args.cut s.parts s.progress (rw (← c.self.view_is) at c.requires) c.self.invariant.1

pub invariant_of-self : goal.invariant_of-self
invariant_of-self g c =
    let s = c.self.inside in
    let h : Hub = led_by g.N.Naming.numbers s.entries.items in
    let may : MayEnd h c.args.actor c.args.cut = rw (← c.self.view_is) at c.requires in
    rw (c.push_reserved.ensures.items, c.actor_entry.ensures, c.end_told.ensures, c.end.ensures, c.push_reserved.ensures.capacity)
    (event-kept g.N.Naming.numbers s.entries.items s.limit _ (actor_told c.args.actor host.ActorEnd (actor_end_told c.args.cut)) (actor_ended c.args.actor h) s.parts _ c.self.invariant.0
    (actor-end-comes h c.args.actor c.args.cut may) refl (actor-ended-fields h c.args.actor c.args.cut s.parts s.progress may c.self.invariant.1))

pub returns-clause-next : goal.returns-clause-next
returns-clause-next g c =
    let s = c.self.inside in
    let h : Hub = led_by g.N.Naming.numbers s.entries.items in
    rw (c.push_reserved.ensures.items, c.actor_entry.ensures, c.end_told.ensures, ← c.self.view_is)
    (adds-next g.N.Naming.numbers s.entries.items (actor_told c.args.actor host.ActorEnd (actor_end_told c.args.cut))
    (actor-end-comes h c.args.actor c.args.cut (rw (← c.self.view_is) at c.requires)).next)

pub returns-clause-keeps : goal.returns-clause-keeps
returns-clause-keeps g c =
    let h : Hub = led_by g.N.Naming.numbers c.self.inside.entries.items in
    rw (c.push_reserved.ensures.items, c.actor_entry.ensures, c.end_told.ensures, ← c.self.view_is)
    (keeps-on g.N.Naming.numbers c.self.inside.entries.items (actor_told c.args.actor host.ActorEnd (actor_end_told c.args.cut)) (actor_ended c.args.actor h)
    (actor-end-comes h c.args.actor c.args.cut (rw (← c.self.view_is) at c.requires)) (actor-ended-keeps h c.args.actor))
