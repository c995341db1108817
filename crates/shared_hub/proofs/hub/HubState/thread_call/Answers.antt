use Rattle.std.proofs.Common.{◌≡◌, ◌≤◌, ℕ, arith, refl}
use Rattle.napi_types.specs.declared.entry.Actor.TheVariants as actor
use Rattle.napi_types.specs.hub.Hub.{Hub}
use Rattle.napi_types.specs.hub.HistoryRoom.{reserved_history}
use Rattle.napi_types.specs.hub.ThreadSteps.{nothing_given}
use Rattle.shared_hub.specs.HubParts.{hub_with}
use Rattle.shared_hub.specs.HubStates.{led_by}
use Rattle.shared_hub.specs.SharedTries.{thread_entry}
use Rattle.shared_hub.proofs.EventSteps.{parts-changed}
use Rattle.shared_hub.proofs.HubHistories.{ComesNext, call-kept, call-keeps, adds-next}
use Rattle.shared_hub.proofs.HubPlaces.{parts-fit}
use Rattle.shared_hub.proofs.HandedCalls.{thread-comes, thread-waits, finds-none}
use Rattle.shared_hub.proofs.hub.HubState.thread_call.Goals as goal
use Rattle.shared_hub.proofs.hub.HubState.thread_call.Goals.{After-push_reserved}

pub answer-requires-clause-within : goal.answer-requires-clause-within
answer-requires-clause-within g c = λ κs out. let s = c.self.inside in parts-fit g.N.Naming.numbers s.entries.items s.limit _ s.parts s.progress c.self.invariant.0 c.self.invariant.1

comes : (g : _) (c : After-push_reserved g) → ComesNext (led_by g.N.Naming.numbers c.self.inside.entries.items) (thread_entry c.args.thread c.args.step c.args.call.now c.in-Ok-Some.reply)
    (hub_with c.answer.new.self (led_by g.N.Naming.numbers c.self.inside.entries.items))
comes g c =
    let s = c.self.inside in
    thread-comes (led_by g.N.Naming.numbers s.entries.items) c.args.thread c.args.step c.args.call.now c.in-Ok-Some.reply s.parts c.answer.new.self s.progress c.self.invariant.1 c.requires.threads
    (rw (← c.self.view_is) at c.requires.there) (rw c.in-Ok-Some.field-0-is at c.in-Ok-Some.ensures.ok)

far : (a b d : ℕ) → a ≤ b → b ≤ d → a ≤ d
far a b d ab bd = omega (arith, ab, bd)

pub invariant_of-self-in-Ok-Some : goal.invariant_of-self-in-Ok-Some
invariant_of-self-in-Ok-Some g c =
    let s = c.self.inside in
    let h : Hub = led_by g.N.Naming.numbers s.entries.items in
    let reserved : c.reserved-reserved.result ≡ reserved_history h = rw (← c.self.view_is) at c.reserved-reserved.ensures in
    rw (c.push_reserved.ensures.items, c.make_room.ensures.items, c.thread_entry.ensures)
    (call-kept g.N.Naming.numbers s.entries.items s.limit _ _ (thread_entry c.args.thread c.args.step c.args.call.now c.in-Ok-Some.reply) c.args.call.now (hub_with c.answer.new.self h) c.answer.new.self s.progress
    c.self.invariant.0 (comes g c) refl (parts-changed h s.parts c.answer.new.self s.progress c.self.invariant.1)
    (rw (c.facts-facts.ensures.places, reserved) at c.in_default.ensures.room)
    (rw (c.facts-facts.ensures.places, reserved, ← c.push_reserved.ensures.capacity) at c.in_default.ensures.memory)
    (rw c.push_reserved.ensures.capacity (far _ _ _ c.self.invariant.0.first c.make_room.ensures.capacity)))

pub returns-in-Ok-Some-clause-reply : goal.returns-in-Ok-Some-clause-reply
returns-in-Ok-Some-clause-reply g c =
    rw (c.push_reserved.ensures.items, c.make_room.ensures.items, c.thread_entry.ensures, ← c.self.view_is)
    (adds-next g.N.Naming.numbers c.self.inside.entries.items (thread_entry c.args.thread c.args.step c.args.call.now c.in-Ok-Some.reply) (comes g c).next)

pub returns-in-Ok-Some-clause-keeps : goal.returns-in-Ok-Some-clause-keeps
returns-in-Ok-Some-clause-keeps g c =
    rw (c.push_reserved.ensures.items, c.make_room.ensures.items, c.thread_entry.ensures, ← c.self.view_is)
    (call-keeps g.N.Naming.numbers c.self.inside.entries.items (thread_entry c.args.thread c.args.step c.args.call.now c.in-Ok-Some.reply) c.answer.new.self (comes g c))

pub returns-in-Ok-None-clause-waits : goal.returns-in-Ok-None-clause-waits
returns-in-Ok-None-clause-waits g c =
    let s = c.self.inside in
    rw (← c.self.view_is) (thread-waits (led_by g.N.Naming.numbers s.entries.items) c.args.thread c.args.call.now s.parts c.answer.new.self s.progress c.self.invariant.1
    (rw c.in-Ok-None.field-0-is at c.in-Ok-None.ensures.ok))

pub returns-in-Err-answer-clause-memory : goal.returns-in-Err-answer-clause-memory
returns-in-Err-answer-clause-memory g c = λ stops.
    let s = c.self.inside in
    let h : Hub = led_by g.N.Naming.numbers s.entries.items in
    let reserved : c.reserved-reserved.result ≡ reserved_history h = rw (← c.self.view_is) at c.reserved-reserved.ensures in
    rw (← c.self.view_is)
    (finds-none g.N.Naming.numbers s.entries.items s.limit _ s.parts s.progress (actor.Thread c.args.thread) nothing_given c.args.call.now c.self.invariant.0 c.self.invariant.1
    (rw (c.facts-facts.ensures.places, reserved) at c.in_default.ensures.room) c.in-Err-answer.ensures.grows refl c.in-Err-answer.ensures.accepted)
