-- The calls on promises and deferreds: what they answer and leave where nothing refuses them, and their own refusals.
use Rattle.std.specs.Prelude.{ℕ, zero, suc, ◌+◌, Option, Some, None, is_some}
use Rattle.std.specs.Option.{option_and_then}
use Rattle.napi_types.specs.declared.call.Call.{Call}
use Rattle.napi_types.specs.declared.call.Call.TheVariants as call
use Rattle.napi_types.specs.declared.entry.Cause.TheVariants as cause
use Rattle.napi_types.specs.declared.entry.Out.TheVariants as out
use Rattle.napi_types.specs.declared.status.Status.{Status}
use Rattle.napi_types.specs.declared.status.Status.TheVariants as status
use Rattle.napi_types.specs.plain.Lists.{unless}
use Rattle.napi_types.specs.plain.Replies.{Answer, accepts}
use Rattle.napi_types.specs.parts.Bodies.{promise_tag}
use Rattle.napi_types.specs.parts.Book.{Registration, TicketState, Registered, Due, new_ticket}
use Rattle.napi_types.specs.parts.Frames.{caller_of, duty_of, ticket_of}
use Rattle.napi_types.specs.parts.Heap.{Heap, handle_value}
use Rattle.napi_types.specs.parts.HeapChanges.{handle_of, with_handle, with_linked}
use Rattle.napi_types.specs.parts.Promises.{Promises, promise_state, state_now, reactions_of, reaction_promise, deferred_promise, with_promise, with_settled, with_reaction, reactions_settled}
use Rattle.napi_types.specs.parts.Values.{value_changed, with_link, link_of}
use Rattle.napi_types.specs.environment.Environment.{Environment, in_heap}
use Rattle.napi_types.specs.environment.Group.{Group}
use Rattle.napi_types.specs.environment.Registering.{registering}

-- an environment with another heap and other promises
abbrev pub with_promises : Heap → Promises → Environment → Environment
with_promises heap p e = record e { heap = heap; promises = p }

-- a heap with a new promise, and a handle of it
abbrev pub with_new_promise : Heap → Heap
with_new_promise heap = with_handle (heap.made + 1) (with_linked promise_tag None heap)

-- `create_promise` makes a promise, which is pending, and its deferred, of the number n
abbrev pub promising : Environment → ℕ → Answer Environment
promising e n =
    accepts (out.Promise (record { 0 = n }) (record { 0 = e.heap.handles + 1 }))
    (with_promises (with_new_promise e.heap) (with_promise (e.heap.made + 1) n e.promises) e)

-- a heap where this value settled a promise: it is the promise's child
abbrev pub with_settler : ℕ → ℕ → Heap → Heap
with_settler p v heap = record heap { values = value_changed p (with_link v) heap.values }

-- a promise is settled through its deferred of the number n: it has the value as its child, and the new state; and so have those of its reactions that are
-- registered, which then fall due
abbrev pub with_settlement : ℕ → ℕ → ℕ → ℕ → Environment → Environment
with_settlement n p v state e = record e {
  heap = with_settler p v e.heap;
  promises = with_settled n p state e.promises;
  book = reactions_settled state (reactions_of e.promises p) e.book;
}

-- the deferred of this number is settled with a value, where it is one that was not
abbrev pub settling : Environment → ℕ → ℕ → ℕ → Option ℕ → Answer Environment
settling e n v state None = accepts out.Nothing e
settling e n v state (Some p) = accepts out.Nothing (with_settlement n p v state e)

-- a promise that is settled is resolved or rejected
abbrev pub resolved : ℕ
resolved = 1

abbrev pub rejected : ℕ
rejected = 2

-- REACTIONS
-- how far the ticket of a reaction has come as it is registered: one to a promise that is settled is due at once
abbrev pub reaction_state : ℕ → TicketState
reaction_state zero = Registered
reaction_state (suc n) = Due

-- a reaction as it is registered: its frame will run this entry of the addon, and be given this data and the state of its promise
abbrev pub reaction_of : ℕ → ℕ → ℕ → ℕ → Registration
reaction_of addon entry payload state =
    record { cause = cause.Reaction; addon = addon; entry = entry; payload = payload; hint = state; state = reaction_state state }

-- an environment where a promise has a reaction more: that of the ticket which the next registration gets
abbrev pub with_reaction_to : ℕ → Environment → Environment
with_reaction_to v e = record e { promises = with_reaction v (new_ticket e.book) e.promises }

-- `add_reaction` adds a reaction of the addon that makes the call to a promise, and registers it
abbrev pub reacting : Environment → ℕ → ℕ → ℕ → Answer Environment
reacting e v entry payload =
    registering (reaction_of (caller_of e.frames) entry payload (state_now e.promises v)) (accepts out.Nothing (with_reaction_to v e))

-- the promise of which the innermost frame is a reaction
abbrev pub reacted_promise : Environment → Option ℕ
reacted_promise e = option_and_then (reaction_promise e.promises) (ticket_of (duty_of e.frames))

-- the value that settled it: none before it is settled
abbrev pub reaction_value : Environment → Option ℕ
reaction_value e = option_and_then (link_of e.heap.values) (reacted_promise e)

-- `get_reaction_value` gives it a new handle
abbrev pub reaction_told : Environment → Option ℕ → Answer Environment
reaction_told e None = accepts out.Nothing e
reaction_told e (Some v) = in_heap e (handle_of v e.heap)

-- THE CALLS
-- `resolve_deferred` and `reject_deferred` settle a deferred with the value of a handle
abbrev pub on_promises : Environment → Call → ℕ → Option (Answer Environment)
on_promises e call.CreatePromise n = Some (promising e n)
on_promises e (call.ResolveDeferred d h) n = Some (settling e d.0 (handle_value e.heap h.0) resolved (deferred_promise e.promises d.0))
on_promises e (call.RejectDeferred d h) n = Some (settling e d.0 (handle_value e.heap h.0) rejected (deferred_promise e.promises d.0))
on_promises e (call.AddReaction h entry payload) n = Some (reacting e (handle_value e.heap h.0) entry payload)
on_promises e call.GetReactionValue n = Some (reaction_told e (reaction_value e))
on_promises e _ n = None

-- THEIR OWN REFUSALS
-- a deferred is settled once: one that was settled is as unknown as one that was never made. A reaction is added to a promise alone, and only the frame of a
-- reaction has the value that settled its promise, where that is settled
abbrev pub promise_refusal : Environment → Call → Option Status
promise_refusal e (call.ResolveDeferred d _) = unless (is_some (deferred_promise e.promises d.0)) status.InvalidArg
promise_refusal e (call.RejectDeferred d _) = unless (is_some (deferred_promise e.promises d.0)) status.InvalidArg
promise_refusal e (call.AddReaction h _ _) = unless (is_some (promise_state e.promises (handle_value e.heap h.0))) status.InvalidArg
promise_refusal e call.GetReactionValue = unless (is_some (reaction_value e)) status.InvalidArg
promise_refusal e _ = None

-- what the environment tells of these calls
abbrev pub promise_calls : Group
promise_calls = record { refuses = promise_refusal; answers = on_promises }
