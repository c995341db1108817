use Rattle.std.proofs.Common.{◌≡◌, ◌≤◌, ℕ, arith, refl}
use Rattle.napi_types.specs.declared.entry.Actor.TheVariants as actor
use Rattle.napi_types.specs.environment.SharedCalls.{handed_entry}
use Rattle.napi_types.specs.hub.Hub.{Hub}
use Rattle.napi_types.specs.hub.HistoryRoom.{reserved_history}
use Rattle.shared_hub.specs.HubParts.{hub_with}
use Rattle.shared_hub.specs.HubStates.{led_by}
use Rattle.shared_hub.specs.SharedTries.{given_by}
use Rattle.shared_hub.proofs.EventSteps.{parts-changed}
use Rattle.shared_hub.proofs.HubHistories.{ComesNext, call-kept, call-keeps, adds-next}
use Rattle.shared_hub.proofs.HubPlaces.{parts-fit}
use Rattle.shared_hub.proofs.HandedCalls.{shared-comes, led-queues, finds-none}
use Rattle.shared_hub.proofs.hub.HubState.env_shared.Goals as goal
use Rattle.shared_hub.proofs.hub.HubState.env_shared.Goals.{After-push_reserved}

pub reply_to-requires-clause-within : goal.reply_to-requires-clause-within
reply_to-requires-clause-within g c = λ κs out. let s = c.self.inside in parts-fit g.N.Naming.numbers s.entries.items s.limit _ s.parts s.progress c.self.invariant.0 c.self.invariant.1

pub reply_to-requires-clause-queueing : goal.reply_to-requires-clause-queueing
reply_to-requires-clause-queueing g c = λ κs out none.
    let s = c.self.inside in
    led-queues g.N.Naming.numbers s.entries.items s.limit _ s.parts s.progress c.args.call.now c.self.invariant.0 c.self.invariant.1 none (rw (← c.self.view_is) at c.requires.timely)

pub returns-in_err-reply-clause-memory : goal.returns-in_err-reply-clause-memory
returns-in_err-reply-clause-memory g c = λ stops.
    let s = c.self.inside in
    let h : Hub = led_by g.N.Naming.numbers s.entries.items in
    let reserved : c.reserved-reserved.result ≡ reserved_history h = rw (← c.self.view_is) at c.reserved-reserved.ensures in
    rw (← c.self.view_is)
    (finds-none g.N.Naming.numbers s.entries.items s.limit _ s.parts s.progress actor.Env (given_by c.args.call.now) c.args.call.now.call c.self.invariant.0 c.self.invariant.1
    (rw (c.facts-facts.ensures.places, reserved) at c.in_ok-make_room.ensures.room) c.in_err-reply.ensures.grows c.in_err-reply.ensures.unrefused c.in_err-reply.ensures.accepted)

comes : (g : _) (c : After-push_reserved g) → ComesNext (led_by g.N.Naming.numbers c.self.inside.entries.items) (handed_entry c.args.call.now c.in_ok-reply.reply)
    (hub_with c.reply_to.new.parts (led_by g.N.Naming.numbers c.self.inside.entries.items))
comes g c =
    let s = c.self.inside in
    shared-comes (led_by g.N.Naming.numbers s.entries.items) c.args.call.now c.in_ok-reply.reply s.parts c.reply_to.new.parts s.progress c.self.invariant.1 c.requires.shared
    (rw (← c.self.view_is) at c.requires.timely) c.in_ok-reply.ensures.ok

far : (a b d : ℕ) → a ≤ b → b ≤ d → a ≤ d
far a b d ab bd = omega (arith, ab, bd)

pub invariant_of-self-2 : goal.invariant_of-self-2
invariant_of-self-2 g c =
    let s = c.self.inside in
    let h : Hub = led_by g.N.Naming.numbers s.entries.items in
    let reserved : c.reserved-reserved.result ≡ reserved_history h = rw (← c.self.view_is) at c.reserved-reserved.ensures in
    rw (c.push_reserved.ensures.items, c.make_room.ensures.items, c.handed_entry.ensures)
    (call-kept g.N.Naming.numbers s.entries.items s.limit _ _ (handed_entry c.args.call.now c.in_ok-reply.reply) c.args.call.now.call (hub_with c.reply_to.new.parts h) c.reply_to.new.parts s.progress
    c.self.invariant.0 (comes g c) refl (parts-changed h s.parts c.reply_to.new.parts s.progress c.self.invariant.1)
    (rw (c.facts-facts.ensures.places, reserved) at c.in_ok-make_room.ensures.room)
    (rw (c.facts-facts.ensures.places, reserved, ← c.push_reserved.ensures.capacity) at c.in_ok-make_room.ensures.memory)
    (rw c.push_reserved.ensures.capacity (far _ _ _ c.self.invariant.0.first c.make_room.ensures.capacity)))

pub returns-clause-next : goal.returns-clause-next
returns-clause-next g c =
    rw (c.push_reserved.ensures.items, c.make_room.ensures.items, c.handed_entry.ensures, ← c.self.view_is)
    (adds-next g.N.Naming.numbers c.self.inside.entries.items (handed_entry c.args.call.now c.in_ok-reply.reply) (comes g c).next)

pub returns-clause-keeps : goal.returns-clause-keeps
returns-clause-keeps g c =
    rw (c.push_reserved.ensures.items, c.make_room.ensures.items, c.handed_entry.ensures, ← c.self.view_is)
    (call-keeps g.N.Naming.numbers c.self.inside.entries.items (handed_entry c.args.call.now c.in_ok-reply.reply) c.reply_to.new.parts (comes g c))
