use Rattle.std.proofs.Common.{◌≡◌, ◌∙◌, sym, subst, refl, true}
use Rattle.napi_types.specs.declared.entry.HostStep.TheVariants as host
use Rattle.napi_types.specs.declared.entry.Out.TheVariants as out
use Rattle.napi_types.specs.plain.Entries.{host_entry}
use Rattle.napi_types.specs.hub.Hub.{Hub}
use Rattle.napi_types.specs.hub.HubEvents.{staged, is_still}
use Rattle.shared_hub.specs.declared.progress.HubStage.TheVariants as code
use Rattle.shared_hub.specs.HubStates.{HubSeen, led_by}
use Rattle.shared_hub.proofs.EventSteps.{abandon-comes, staged-fields}
use Rattle.shared_hub.proofs.HubHistories.{ComesNext, event-kept, adds-next}
use Rattle.shared_hub.proofs.hub.HubState.abandon.Goals as goal
use Rattle.shared_hub.proofs.hub.HubState.abandon.Goals.{After-push_reserved}

comes : (g : _) (c : After-push_reserved g) → ComesNext (led_by g.N.Naming.numbers c.self.inside.entries.items) (host_entry host.Abandon (out.Unsigned c.args.waiting))
    (staged host.Abandon (led_by g.N.Naming.numbers c.self.inside.entries.items))
comes g c =
    abandon-comes _ c.args.waiting (rw (← c.self.view_is) at c.requires.looped) (rw (← c.self.view_is) at c.requires.alone)
    (subst (λ (s : HubSeen). is_still s.hub ≡ true) (sym c.self.view_is) (sym c.is_still.ensures ∙ c.if-not-is_still.false))

pub invariant_of-self-2 : goal.invariant_of-self-2
invariant_of-self-2 g c =
    let s = c.self.inside in
    let h : Hub = led_by g.N.Naming.numbers s.entries.items in
    rw (c.push_reserved.ensures.items, c.host_entry.ensures, c.push_reserved.ensures.capacity)
    (event-kept g.N.Naming.numbers s.entries.items s.limit _ (host_entry host.Abandon (out.Unsigned c.args.waiting)) (staged host.Abandon h) s.parts _ c.self.invariant.0 (comes g c) refl
    (staged-fields h host.Abandon code.HooksAbandoned s.parts s.progress (rw (rw (← c.self.view_is) at c.requires.looped) refl) c.self.invariant.1))

pub returns-clause-comes : goal.returns-clause-comes
returns-clause-comes g c =
    rw (c.push_reserved.ensures.items, c.host_entry.ensures, ← c.self.view_is)
    (adds-next g.N.Naming.numbers c.self.inside.entries.items (host_entry host.Abandon (out.Unsigned c.args.waiting)) (comes g c).next)
