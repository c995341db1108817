use Rattle.std.proofs.Common.{◌≡◌, ◌∙◌, ap, sym, subst, refl, true, false, is_some}
use Rattle.napi_types.specs.declared.entry.HostStep.TheVariants as host
use Rattle.napi_types.specs.declared.entry.Out.TheVariants as out
use Rattle.napi_types.specs.plain.Entries.{host_entry}
use Rattle.napi_types.specs.hub.Hub.{Hub}
use Rattle.napi_types.specs.hub.HubEvents.{staged}
use Rattle.napi_types.specs.hub.HubMoves.{hub_move, is_spent}
use Rattle.shared_hub.specs.declared.progress.HubStage.TheVariants as code
use Rattle.shared_hub.specs.HubStates.{HubSeen, led_by}
use Rattle.shared_hub.proofs.EventSteps.{finals-come, staged-fields, hub-of_fields}
use Rattle.shared_hub.proofs.HubHistories.{event-kept, adds-next}
use Rattle.shared_hub.proofs.LoopReasons.{move-comes-first, unspent-waits, spent-comes}
use Rattle.shared_hub.proofs.hub.HubState.finals.Goals as goal
use Rattle.shared_hub.proofs.hub.HubState.finals.Goals.{then-has_move-via-then-has_move, then-has_move-via-else-has_move+then-not-is_spent}

pub returns-then-has_move-clause-may : goal.returns-then-has_move-clause-may
returns-then-has_move-clause-may g c =
    let h : Hub = led_by g.N.Naming.numbers c.self.inside.entries.items in
    let same = hub-of_fields h c.self.inside.parts c.self.inside.progress c.self.invariant.1 in
    rw (← c.self.view_is)
    (elim c.then-has_move.branch [
      | then-has_move-via-then-has_move w ↦ move-comes-first (hub_move h) (is_spent h)
          (ap (λ (k : Hub). is_some (hub_move k)) (sym same) ∙ sym (c.has_move.ensures h) ∙ w.if-has_move.true)
      | then-has_move-via-else-has_move+then-not-is_spent w ↦ unspent-waits (hub_move h) (is_spent h) (subst (λ (s : HubSeen). is_spent s.hub ≡ false) (sym c.self.view_is) (sym w.is_spent.ensures ∙ w.if-not-is_spent.true))
    ])

pub invariant_of-self-2 : goal.invariant_of-self-2
invariant_of-self-2 g c =
    let s = c.self.inside in
    let h : Hub = led_by g.N.Naming.numbers s.entries.items in
    rw (c.push_reserved.ensures.items, c.host_entry.ensures, c.push_reserved.ensures.capacity)
    (event-kept g.N.Naming.numbers s.entries.items s.limit _ (host_entry host.Finals out.Nothing) (staged host.Finals h) s.parts _ c.self.invariant.0
    (finals-come h (rw (← c.self.view_is) at c.requires.drained) (rw (← c.self.view_is) at c.requires.alone)) refl
    (staged-fields h host.Finals code.Final s.parts s.progress (rw (rw (← c.self.view_is) at c.requires.drained) refl) c.self.invariant.1))

pub returns-clause-may : goal.returns-clause-may
returns-clause-may g c =
    let h : Hub = led_by g.N.Naming.numbers c.self.inside.entries.items in
    let same = hub-of_fields h c.self.inside.parts c.self.inside.progress c.self.invariant.1 in
    rw (← c.self.view_is)
    (spent-comes (hub_move h) (is_spent h) (ap (λ (k : Hub). is_some (hub_move k)) (sym same) ∙ sym (c.if-has_move.ensures h)) (subst (λ (s : HubSeen). is_spent s.hub ≡ true) (sym c.self.view_is) (sym c.is_spent.ensures ∙ c.if-not-is_spent.false)))

pub returns-clause-comes : goal.returns-clause-comes
returns-clause-comes g c =
    let h : Hub = led_by g.N.Naming.numbers c.self.inside.entries.items in
    rw (c.push_reserved.ensures.items, c.host_entry.ensures, ← c.self.view_is)
    (adds-next g.N.Naming.numbers c.self.inside.entries.items (host_entry host.Finals out.Nothing)
    (finals-come h (rw (← c.self.view_is) at c.requires.drained) (rw (← c.self.view_is) at c.requires.alone)).next)
