use Rattle.std.proofs.Common.{◌≡◌, ◌∙◌, ap, sym, refl, IsTrue, Some, None}
use Rattle.napi_types.specs.declared.entry.HostStep.TheVariants as host
use Rattle.napi_types.specs.declared.entry.Out.TheVariants as out
use Rattle.napi_types.specs.plain.Entries.{host_entry}
use Rattle.napi_types.specs.hub.Hub.{Hub}
use Rattle.napi_types.specs.hub.HubEvents.{may_move, delivery_entry}
use Rattle.napi_types.specs.hub.HubMoves.{Delivers, Closes, Finishes, hub_move, with_delivered, without_duty}
use Rattle.shared_hub.specs.HubParts.{after_move}
use Rattle.shared_hub.specs.HubStates.{led_by}
use Rattle.shared_hub.proofs.EventSteps.{hub-of_fields, delivery-comes, close-comes, finish-comes, delivered-fields, delivered-keeps, moved-fields, mover-is-alone}
use Rattle.shared_hub.proofs.HubHistories.{event-kept, adds-next, begun-stands, led-on, keeps-stage-on}
use Rattle.shared_hub.proofs.hub.HubState.poll.Goals as goal

pub invariant_of-self : goal.invariant_of-self
invariant_of-self g c =
    let s = c.self.inside in
    let h : Hub = led_by g.N.Naming.numbers s.entries.items in
    let is : hub_move h ≡ Some (Delivers c.in-Begin.due) = sym (c.in-Begin.ensures.told h ∙ ap hub_move (hub-of_fields h s.parts s.progress c.self.invariant.1)) in
    rw (c.push_reserved.ensures.items, c.delivery_entry.ensures, c.info.ensures, c.push_reserved.ensures.capacity)
    (event-kept g.N.Naming.numbers s.entries.items s.limit _ (delivery_entry c.in-Begin.due) (with_delivered c.in-Begin.due h) _ _ c.self.invariant.0
    (delivery-comes h c.in-Begin.due is (rw (← c.self.view_is) at c.requires)) refl
    (delivered-fields h s.parts c.take_move.new.self s.progress c.in-Begin.due c.self.invariant.1 (c.in-Begin.ensures.left h)))

pub invariant_of-self-in-Closed : goal.invariant_of-self-in-Closed
invariant_of-self-in-Closed g c =
    let s = c.self.inside in
    let h : Hub = led_by g.N.Naming.numbers s.entries.items in
    let is : hub_move h ≡ Some (Closes c.in-Closed.id.0) = sym (c.in-Closed.ensures.told h ∙ ap hub_move (hub-of_fields h s.parts s.progress c.self.invariant.1)) in
    rw (c.push_reserved-in-Closed.ensures.items, c.host_entry.ensures, c.push_reserved-in-Closed.ensures.capacity)
    (event-kept g.N.Naming.numbers s.entries.items s.limit _ (host_entry host.CloseTsfn (out.Function c.in-Closed.id)) (after_move (Some (Closes c.in-Closed.id.0)) h) _ _ c.self.invariant.0
    (close-comes h c.in-Closed.id is (rw (← c.self.view_is) at c.requires)) refl
    (moved-fields h s.parts c.take_move.new.self s.progress (Some (Closes c.in-Closed.id.0)) c.self.invariant.1 (c.in-Closed.ensures.left h)))

pub invariant_of-self-in-Finished : goal.invariant_of-self-in-Finished
invariant_of-self-in-Finished g c =
    let s = c.self.inside in
    let h : Hub = led_by g.N.Naming.numbers s.entries.items in
    let is : hub_move h ≡ Some (Finishes c.in-Finished.id.0) = sym (c.in-Finished.ensures.told h ∙ ap hub_move (hub-of_fields h s.parts s.progress c.self.invariant.1)) in
    rw (c.push_reserved-in-Finished.ensures.items, c.host_entry-in-Finished.ensures, c.push_reserved-in-Finished.ensures.capacity)
    (event-kept g.N.Naming.numbers s.entries.items s.limit _ (host_entry host.FinishTsfn (out.Function c.in-Finished.id)) (after_move (Some (Finishes c.in-Finished.id.0)) h) _ _ c.self.invariant.0
    (finish-comes h c.in-Finished.id is (rw (← c.self.view_is) at c.requires)) refl
    (moved-fields h s.parts c.take_move.new.self s.progress (Some (Finishes c.in-Finished.id.0)) c.self.invariant.1 (c.in-Finished.ensures.left h)))

pub invariant_of-self-in-Nothing : goal.invariant_of-self-in-Nothing
invariant_of-self-in-Nothing g c =
    let s = c.self.inside in
    let h : Hub = led_by g.N.Naming.numbers s.entries.items in
    (c.self.invariant.0, moved-fields h s.parts c.take_move.new.self s.progress None c.self.invariant.1 (c.in-Nothing.ensures.left h))

pub returns-in-Begin-clause-taken : goal.returns-in-Begin-clause-taken
returns-in-Begin-clause-taken g c =
    let s = c.self.inside in
    let h : Hub = led_by g.N.Naming.numbers s.entries.items in
    rw (← c.self.view_is) (c.in-Begin.ensures.told h ∙ ap hub_move (hub-of_fields h s.parts s.progress c.self.invariant.1))

pub returns-in-Begin-clause-event : goal.returns-in-Begin-clause-event
returns-in-Begin-clause-event g c =
    let s = c.self.inside in
    let h : Hub = led_by g.N.Naming.numbers s.entries.items in
    let is : hub_move h ≡ Some (Delivers c.in-Begin.due) = sym (c.in-Begin.ensures.told h ∙ ap hub_move (hub-of_fields h s.parts s.progress c.self.invariant.1)) in
    rw (c.push_reserved.ensures.items, c.delivery_entry.ensures, c.info.ensures, ← c.self.view_is)
    (adds-next g.N.Naming.numbers s.entries.items (delivery_entry c.in-Begin.due) (delivery-comes h c.in-Begin.due is (rw (← c.self.view_is) at c.requires)).next)

pub returns-in-Closed-clause-taken : goal.returns-in-Closed-clause-taken
returns-in-Closed-clause-taken g c =
    let s = c.self.inside in
    let h : Hub = led_by g.N.Naming.numbers s.entries.items in
    rw (← c.self.view_is) (c.in-Closed.ensures.told h ∙ ap hub_move (hub-of_fields h s.parts s.progress c.self.invariant.1))

pub returns-in-Closed-clause-event : goal.returns-in-Closed-clause-event
returns-in-Closed-clause-event g c =
    let s = c.self.inside in
    let h : Hub = led_by g.N.Naming.numbers s.entries.items in
    let is : hub_move h ≡ Some (Closes c.in-Closed.id.0) = sym (c.in-Closed.ensures.told h ∙ ap hub_move (hub-of_fields h s.parts s.progress c.self.invariant.1)) in
    rw (c.push_reserved-in-Closed.ensures.items, c.host_entry.ensures, ← c.self.view_is)
    (adds-next g.N.Naming.numbers s.entries.items (host_entry host.CloseTsfn (out.Function c.in-Closed.id)) (close-comes h c.in-Closed.id is (rw (← c.self.view_is) at c.requires)).next)

pub returns-in-Finished-clause-taken : goal.returns-in-Finished-clause-taken
returns-in-Finished-clause-taken g c =
    let s = c.self.inside in
    let h : Hub = led_by g.N.Naming.numbers s.entries.items in
    rw (← c.self.view_is) (c.in-Finished.ensures.told h ∙ ap hub_move (hub-of_fields h s.parts s.progress c.self.invariant.1))

pub returns-in-Finished-clause-event : goal.returns-in-Finished-clause-event
returns-in-Finished-clause-event g c =
    let s = c.self.inside in
    let h : Hub = led_by g.N.Naming.numbers s.entries.items in
    let is : hub_move h ≡ Some (Finishes c.in-Finished.id.0) = sym (c.in-Finished.ensures.told h ∙ ap hub_move (hub-of_fields h s.parts s.progress c.self.invariant.1)) in
    rw (c.push_reserved-in-Finished.ensures.items, c.host_entry-in-Finished.ensures, ← c.self.view_is)
    (adds-next g.N.Naming.numbers s.entries.items (host_entry host.FinishTsfn (out.Function c.in-Finished.id)) (finish-comes h c.in-Finished.id is (rw (← c.self.view_is) at c.requires)).next)

pub returns-in-Nothing-clause-taken : goal.returns-in-Nothing-clause-taken
returns-in-Nothing-clause-taken g c =
    let s = c.self.inside in
    let h : Hub = led_by g.N.Naming.numbers s.entries.items in
    rw (← c.self.view_is) (c.in-Nothing.ensures.told h ∙ ap hub_move (hub-of_fields h s.parts s.progress c.self.invariant.1))

pub returns-in-Begin-clause-stands : goal.returns-in-Begin-clause-stands
returns-in-Begin-clause-stands g c =
    let s = c.self.inside in
    let h : Hub = led_by g.N.Naming.numbers s.entries.items in
    let is : hub_move h ≡ Some (Delivers c.in-Begin.due) = sym (c.in-Begin.ensures.told h ∙ ap hub_move (hub-of_fields h s.parts s.progress c.self.invariant.1)) in
    rw (c.push_reserved.ensures.items, c.delivery_entry.ensures, c.info.ensures)
    (begun-stands g.N.Naming.numbers s.entries.items (delivery_entry c.in-Begin.due) (without_duty c.in-Begin.due.duty h) c.in-Begin.due (delivery-comes h c.in-Begin.due is (rw (← c.self.view_is) at c.requires)))

pub returns-in-Begin-clause-keeps : goal.returns-in-Begin-clause-keeps
returns-in-Begin-clause-keeps g c =
    let s = c.self.inside in
    let h : Hub = led_by g.N.Naming.numbers s.entries.items in
    let is : hub_move h ≡ Some (Delivers c.in-Begin.due) = sym (c.in-Begin.ensures.told h ∙ ap hub_move (hub-of_fields h s.parts s.progress c.self.invariant.1)) in
    rw (c.push_reserved.ensures.items, c.delivery_entry.ensures, c.info.ensures, ← c.self.view_is)
    (keeps-stage-on g.N.Naming.numbers s.entries.items (delivery_entry c.in-Begin.due) _ (delivery-comes h c.in-Begin.due is (rw (← c.self.view_is) at c.requires)) (delivered-keeps h c.in-Begin.due c.in-Begin.due.duty))

pub returns-in-Closed-clause-keeps : goal.returns-in-Closed-clause-keeps
returns-in-Closed-clause-keeps g c =
    let s = c.self.inside in
    let h : Hub = led_by g.N.Naming.numbers s.entries.items in
    let is : hub_move h ≡ Some (Closes c.in-Closed.id.0) = sym (c.in-Closed.ensures.told h ∙ ap hub_move (hub-of_fields h s.parts s.progress c.self.invariant.1)) in
    rw (c.push_reserved-in-Closed.ensures.items, c.host_entry.ensures, ← c.self.view_is)
    (keeps-stage-on g.N.Naming.numbers s.entries.items (host_entry host.CloseTsfn (out.Function c.in-Closed.id)) _ (close-comes h c.in-Closed.id is (rw (← c.self.view_is) at c.requires)) (record { stage = refl; threads = refl; workers = refl }))

pub returns-in-Closed-clause-alone : goal.returns-in-Closed-clause-alone
returns-in-Closed-clause-alone g c =
    let s = c.self.inside in
    let h : Hub = led_by g.N.Naming.numbers s.entries.items in
    let is : hub_move h ≡ Some (Closes c.in-Closed.id.0) = sym (c.in-Closed.ensures.told h ∙ ap hub_move (hub-of_fields h s.parts s.progress c.self.invariant.1)) in
    let may : IsTrue (may_move h) = rw (← c.self.view_is) at c.requires in
    rw (c.push_reserved-in-Closed.ensures.items, c.host_entry.ensures)
    (ap (λ (k : Hub). k.standing) (led-on g.N.Naming.numbers s.entries.items (host_entry host.CloseTsfn (out.Function c.in-Closed.id)) _ (close-comes h c.in-Closed.id is may)) ∙ mover-is-alone h may)

pub returns-in-Finished-clause-keeps : goal.returns-in-Finished-clause-keeps
returns-in-Finished-clause-keeps g c =
    let s = c.self.inside in
    let h : Hub = led_by g.N.Naming.numbers s.entries.items in
    let is : hub_move h ≡ Some (Finishes c.in-Finished.id.0) = sym (c.in-Finished.ensures.told h ∙ ap hub_move (hub-of_fields h s.parts s.progress c.self.invariant.1)) in
    rw (c.push_reserved-in-Finished.ensures.items, c.host_entry-in-Finished.ensures, ← c.self.view_is)
    (keeps-stage-on g.N.Naming.numbers s.entries.items (host_entry host.FinishTsfn (out.Function c.in-Finished.id)) _ (finish-comes h c.in-Finished.id is (rw (← c.self.view_is) at c.requires)) (record { stage = refl; threads = refl; workers = refl }))

pub returns-in-Finished-clause-alone : goal.returns-in-Finished-clause-alone
returns-in-Finished-clause-alone g c =
    let s = c.self.inside in
    let h : Hub = led_by g.N.Naming.numbers s.entries.items in
    let is : hub_move h ≡ Some (Finishes c.in-Finished.id.0) = sym (c.in-Finished.ensures.told h ∙ ap hub_move (hub-of_fields h s.parts s.progress c.self.invariant.1)) in
    let may : IsTrue (may_move h) = rw (← c.self.view_is) at c.requires in
    rw (c.push_reserved-in-Finished.ensures.items, c.host_entry-in-Finished.ensures)
    (ap (λ (k : Hub). k.standing) (led-on g.N.Naming.numbers s.entries.items (host_entry host.FinishTsfn (out.Function c.in-Finished.id)) _ (finish-comes h c.in-Finished.id is may)) ∙ mover-is-alone h may)

pub returns-in-Nothing-clause-alone : goal.returns-in-Nothing-clause-alone
returns-in-Nothing-clause-alone g c =
    let h : Hub = led_by g.N.Naming.numbers c.self.inside.entries.items in
    let may : IsTrue (may_move h) = rw (← c.self.view_is) at c.requires in
    mover-is-alone h may
