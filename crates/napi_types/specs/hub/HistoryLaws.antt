-- Laws over all histories of the hub.
use Rattle.std.specs.Prelude.{◌≡◌, ℕ, ◌+◌, ◌≤◌, true, false, List, [], ◌++◌, length, Some, is_some, is_none}
use Rattle.std.specs.List.{All}
use Rattle.napi_types.specs.declared.call.Call.{Call}
use Rattle.napi_types.specs.declared.call.Call.TheVariants as call
use Rattle.napi_types.specs.declared.call.Mode.{Mode}
use Rattle.napi_types.specs.declared.entry.Actor.{Actor}
use Rattle.napi_types.specs.declared.entry.Entry.{Entry}
use Rattle.napi_types.specs.declared.entry.Given.{Given}
use Rattle.napi_types.specs.declared.ids.TsfnId.{TsfnId}
use Rattle.napi_types.specs.plain.Entries.{is_environment}
use Rattle.napi_types.specs.plain.Lists.{has_number}
use Rattle.napi_types.specs.plain.Room.{is_full, may_want_memory}
use Rattle.napi_types.specs.parts.Functions.{accepted_items}
use Rattle.napi_types.specs.parts.Pool.{work_numbered, executed_by, value_of_work}
use Rattle.napi_types.specs.hub.Actors.{left_along, is_worker, Free, worker_along}
use Rattle.napi_types.specs.hub.HistoryRoom.{history_room, reserved_history}
use Rattle.napi_types.specs.hub.Hub.{Hub, new_hub, is_past_drain}
use Rattle.napi_types.specs.hub.HubCalls.{hub_answer}
use Rattle.napi_types.specs.hub.HubOwners.{IsOwnedHub}
use Rattle.napi_types.specs.hub.HubSteps.{IsHubNext, hub_step, hub_along}
use Rattle.napi_types.specs.hub.Replays.{HubReplays}
use Rattle.napi_types.specs.hub.WorkerSteps.{is_worker_there}

-- how far the hub is, the duty whose frame stands, and how many threads and workers there are
pub record KeepsStanding (old new : Hub) : Type 0 where
  pub stage : new.stage ≡ old.stage
  pub standing : new.standing ≡ old.standing
  pub threads : new.threads ≡ old.threads
  pub workers : new.workers ≡ old.workers

-- an entry of a thread or a worker keeps these, and works and functions of the script's addons stay such
pub record KeepsHub (old new : Hub) : Type 0 where
  pub standing : KeepsStanding old new
  pub owned : (count : ℕ) → IsOwnedHub count old → IsOwnedHub count new

abbrev pub OthersKeepTheHub : Type 0
OthersKeepTheHub = (h : Hub) (x : Entry) → is_environment x.actor ≡ false → IsHubNext h x → KeepsHub h (hub_step h x).after

-- a history that replays from a hub as it opens, for so many threads and workers, has led to this hub
pub record LeadsTo (limit threads workers : ℕ) (history : List Entry) (h : Hub) : Type 0 where
  pub replays : HubReplays limit (new_hub threads workers) 0 history
  pub hub : hub_along (new_hub threads workers) history ≡ h

-- a history in two parts: its prefix has led to a hub, and what stands behind it replays from there on, to this hub
pub record GoesOnBehind (limit threads workers : ℕ) (prefix rest : List Entry) (h : Hub) : Type 0 where
  pub leads : LeadsTo limit threads workers prefix (hub_along (new_hub threads workers) prefix)
  pub replays : HubReplays limit (hub_along (new_hub threads workers) prefix) (length prefix) rest
  pub hub : hub_along (hub_along (new_hub threads workers) prefix) rest ≡ h

-- a history that leads to a hub splits at each prefix: the prefix leads to a hub, and the rest from there
abbrev pub PrefixesReplay : Type 0
PrefixesReplay = (limit threads workers : ℕ) (prefix rest : List Entry) (h : Hub) → LeadsTo limit threads workers (prefix ++ rest) h
    → GoesOnBehind limit threads workers prefix rest h

-- there no entry of a thread or a worker lowers the sum of the history's entries and reserved places
abbrev pub OthersLowerNothing : Type 0
OthersLowerNothing = (limit threads workers : ℕ) (history : List Entry) (h : Hub) (x : Entry) → LeadsTo limit threads workers history h
    → is_environment x.actor ≡ false
    → IsHubNext h x → reserved_history h ≤ reserved_history (hub_step h x).after + 1

-- so the places of a history that are taken do not become fewer as others go on
abbrev pub OthersOccupyNoLess : Type 0
OthersOccupyNoLess = (limit threads workers : ℕ) (history rest : List Entry) (h : Hub) → LeadsTo limit threads workers history h
    → All (λ x. is_environment x.actor ≡ false) rest → HubReplays limit h (length history) rest
    → (history_room h (length history) limit).occupied ≤ (history_room (hub_along h rest) (length history + length rest) limit).occupied

-- a call that is full in a history of n entries stays full as these come behind it, and one that may want memory still may
pub record StaysPressed (limit : ℕ) (h : Hub) (n : ℕ) (rest : List Entry) (c : Call) : Type 0 where
  pub full : is_full (history_room h n limit) c ≡ true → is_full (history_room (hub_along h rest) (n + length rest) limit) c ≡ true
  pub wants : may_want_memory (history_room h n limit) c ≡ true → may_want_memory (history_room (hub_along h rest) (n + length rest) limit) c ≡ true

-- so each call stays pressed as others go on
abbrev pub CallsStayPressed : Type 0
CallsStayPressed = (limit threads workers : ℕ) (history rest : List Entry) (h : Hub) (c : Call) → LeadsTo limit threads workers history h
    → All (λ x. is_environment x.actor ≡ false) rest → HubReplays limit h (length history) rest → StaysPressed limit h (length history) rest c

-- the pool is closing from the drain on
abbrev pub PoolsCloseAtTheDrain : Type 0
PoolsCloseAtTheDrain = (limit threads workers : ℕ) (history : List Entry) (h : Hub) → LeadsTo limit threads workers history h → h.pool.closing ≡ is_past_drain h.stage

-- before the drain no worker has ended
abbrev pub WorkersEndAfterTheDrain : Type 0
WorkersEndAfterTheDrain = (limit threads workers : ℕ) (history : List Entry) (h : Hub) → LeadsTo limit threads workers history h
    → is_past_drain h.stage ≡ false → h.ended_workers ≡ []

-- a worker that executes a work has not ended
abbrev pub ExecutingWorkersAreThere : Type 0
ExecutingWorkersAreThere = (limit threads workers w : ℕ) (history : List Entry) (h : Hub) → LeadsTo limit threads workers history h
    → is_some (executed_by h.pool w) ≡ true → is_worker_there h w ≡ true

-- a hub has no more works that were created, no more that were queued and no more functions than so many, and none of these accepted more items
pub record IsHubWithin (n : ℕ) (h : Hub) : Type 0 where
  pub issued : length h.pool.issued ≤ n
  pub numbered : h.pool.numbered ≤ n
  pub functions : length h.functions ≤ n
  pub items : All (λ f. accepted_items f ≤ n) h.functions

-- it is within the entries of the history that led to it
abbrev pub HubsAreWithin : Type 0
HubsAreWithin = (limit threads workers : ℕ) (history : List Entry) (h : Hub) → LeadsTo limit threads workers history h → IsHubWithin (length history) h

-- the entries of each worker come by turns: it starts a work and finishes it, as often as it will, and then it ends
abbrev pub WorkersTakeTurns : Type 0
WorkersTakeTurns = (limit threads workers w : ℕ) (xs : List Entry) → HubReplays limit (new_hub threads workers) 0 xs
    → is_some (worker_along w (Some Free) xs) ≡ true

-- from the drain on no call of a thread-safe function waits, whoever makes it
abbrev pub NoCallWaitsFromTheDrainOn : Type 0
NoCallWaitsFromTheDrainOn = (limit threads workers : ℕ) (history : List Entry) (h : Hub) (who : Actor) (g : Given) (f : TsfnId) (payload : ℕ) (m : Mode)
    → LeadsTo limit threads workers history h → is_past_drain h.stage ≡ true → is_some (hub_answer h who g (call.CallThreadsafeFunction f payload m) 0) ≡ true

-- a thread has ended exactly where none of its calls is left to speak of
abbrev pub EndedThreadsHaveNoneLeft : Type 0
EndedThreadsHaveNoneLeft = (limit threads workers t : ℕ) (calls : List Call) (history : List Entry) (h : Hub) → LeadsTo limit threads workers history h
    → is_none (left_along t (Some calls) history) ≡ has_number t h.ended_threads

-- a worker still executes the work of this number, which is there as it was, with its value
pub record StaysRunning (w n : ℕ) (old new : Hub) : Type 0 where
  pub executed : executed_by new.pool w ≡ Some n
  pub there : is_some (work_numbered new.pool n) ≡ true
  pub work : work_numbered new.pool n ≡ work_numbered old.pool n
  pub value : value_of_work new.pool n ≡ value_of_work old.pool n

-- while a worker executes a work, no entry that another actor makes next changes that
abbrev pub RunningStaysRunning : Type 0
RunningStaysRunning = (limit threads workers w n : ℕ) (history : List Entry) (h : Hub) (x : Entry) → LeadsTo limit threads workers history h → IsHubNext h x
    → is_worker w x.actor ≡ false → executed_by h.pool w ≡ Some n → StaysRunning w n h (hub_step h x).after
