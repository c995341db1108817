-- What a turn leaves of the hub's state.
use Rattle.std.specs.Prelude.{◌≡◌, ℕ, IsTrue}
use Rattle.napi_types.specs.declared.call.Call.{Call}
use Rattle.napi_types.specs.declared.entry.Actor.TheVariants as actor
use Rattle.napi_types.specs.declared.status.Status.{Status}
use Rattle.napi_types.specs.declared.status.Status.TheVariants as status
use Rattle.napi_types.specs.hub.ThreadSteps.{nothing_given}
use Rattle.napi_types.specs.plain.Room.{is_full}
use Rattle.shared_hub.specs.declared.naming.Numbers.{Numbers}
use Rattle.shared_hub.specs.declared.tries.ThreadTried.{ThreadTried}
use Rattle.shared_hub.specs.declared.tries.ThreadTried.TheVariants as tried
use Rattle.shared_hub.specs.HubStates.{HubSeen, AddsEntry, hub_room}
use Rattle.shared_hub.specs.SharedTries.{thread_entry, MayFindNoMemory}

-- why a thread's call stops at a hub: the history is full for it, or it may find no memory there
abbrev pub StopsFor : Numbers → ℕ → Call → Status → HubSeen → Type 0
StopsFor n t c status.TraceFull s = IsTrue (is_full (hub_room n s) c)
StopsFor n t c status.NoMemory s = MayFindNoMemory (hub_room n s) s.hub (actor.Thread t) nothing_given c
StopsFor n t c _ s = ⊥

-- a thread's call adds its entry, or changes nothing
abbrev pub AfterCall : Numbers → ℕ → ℕ → Call → HubSeen → ThreadTried → HubSeen → Type 0
AfterCall n t k c old (tried.Reply r) new = AddsEntry old (thread_entry t k c r) new
AfterCall n t k c old tried.Wait new = new ≡ old
AfterCall n t k c old (tried.Stop s) new = (new ≡ old) × StopsFor n t c s old
