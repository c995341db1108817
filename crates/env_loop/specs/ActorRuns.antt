-- The run of a thread and that of a worker: what they are, how they stand to the hub, and when they wait.
use Rattle.std.specs.Prelude.{◌≡◌, ◌⊎◌, ℕ, ◌+◌, ◌<◌, ◌≤◌, Bool, true, false, cond, drop, List, ◌∷◌, length, Option, Some, None, IsTrue}
use Rattle.std.specs.List.{All}
use Rattle.napi_types.specs.declared.call.Call.{Call}
use Rattle.napi_types.specs.declared.entry.Actor.{Actor}
use Rattle.napi_types.specs.declared.entry.Actor.TheVariants as actor
use Rattle.napi_types.specs.declared.entry.Entry.{Entry}
use Rattle.napi_types.specs.declared.op.Op.{Op}
use Rattle.napi_types.specs.declared.op.Op.TheVariants as op
use Rattle.napi_types.specs.plain.Room.{Room, one_if, is_full}
use Rattle.napi_types.specs.parts.Jobs.{job_value}
use Rattle.napi_types.specs.parts.Pool.{WorkPool, executed_by, value_of_work}
use Rattle.napi_types.specs.hub.ActorLaws.{ThreadStands}
use Rattle.napi_types.specs.hub.Actors.{is_thread, thread_calls, is_worker, WorkerState, Free, Working, Over, worker_along}
use Rattle.napi_types.specs.hub.Hub.{Hub}
use Rattle.napi_types.specs.hub.ThreadSteps.{is_gone_on, nothing_given}
use Rattle.napi_types.specs.hub.Waits.{waits_at}
use Rattle.async_work.specs.Executing.{StartedWork, ExecutedWork}
use Rattle.shared_hub.specs.HubStates.{HubSeen, AddsEntry}
use Rattle.shared_hub.specs.SharedTries.{MayFindNoMemory}
use Rattle.shared_hub.specs.KeptHubs.{IsLedHub}
use Rattle.shared_hub.specs.declared.naming.Numbers.{Numbers}

-- one entry more, which this actor made
pub record AddsEntryOf (who : Actor) (old new : HubSeen) : Type 0 where
  pub entry : Entry
  pub by : entry.actor ≡ who
  pub adds : AddsEntry old entry new

-- THREADS
-- an operation of the three kinds that threads make
abbrev pub IsOperationOfThread : Op → Type 0
IsOperationOfThread (op.ThreadCall f payload m) = Unit {0}
IsOperationOfThread (op.ThreadAcquire f) = Unit {0}
IsOperationOfThread (op.ThreadRelease f m) = Unit {0}
IsOperationOfThread _ = ⊥

-- a thread: its number, the operations of its script, how many of them it made, and whether it has ended
pub record ThreadSeen : Type 0 where
  pub number : ℕ
  pub operations : List Op
  pub made : ℕ
  pub over : Bool

abbrev pub new_thread : ℕ → List Op → ThreadSeen
new_thread number operations = record { number = number; operations = operations; made = 0; over = false }

-- how many entries it made: its calls, and its end
abbrev pub entries_made : ThreadSeen → ℕ
entries_made t = t.made + one_if t.over

-- the calls that are left of its script; none to speak of once it has ended
abbrev pub calls_left : ThreadSeen → Option (List Call)
calls_left t = cond t.over None (Some (drop t.made (thread_calls t.operations)))

-- the operations are a thread's, few enough, and it made no more than there are
pub record IsThreadRun (operations : List Op) (made : ℕ) : Type 0 where
  pub kinds : All IsOperationOfThread operations
  pub few : length operations ≤ 16384
  pub within : made ≤ length operations

-- it is one of the hub's threads. The history has exactly the entries that it made: the calls of its script one after another, and its end, if it has ended
pub record IsThreadOf (n : Numbers) (s : HubSeen) (t : ThreadSeen) : Type 0 where
  pub there : t.number < n.threads
  pub stands : ThreadStands n.limits.history n.threads n.workers t.number (thread_calls t.operations) s.history (entries_made t) (calls_left t)

-- it is the same thread, with the same script
pub record SameThread (old new : ThreadSeen) : Type 0 where
  pub number : new.number ≡ old.number
  pub operations : new.operations ≡ old.operations

-- its next call waits at the hub: the history has room for it, and the hub does not answer it yet
abbrev pub NextWaits : Room → Hub → ℕ → Option (List Call) → Type 0
NextWaits r h t (Some (c ∷ later)) = (is_full r c ≡ false) × (waits_at h t c ≡ true)
NextWaits r h t _ = ⊥

-- it waits: for `go`, or at its next call
abbrev pub ThreadBlocked : Room → Hub → ThreadSeen → Type 0
ThreadBlocked r h t = (is_gone_on h.stage ≡ false) ⊎ NextWaits r h t.number (calls_left t)

-- a thread that ends with calls left was stopped at the next one: the history has no room for it, or the hub, which would accept it, may find no memory for it
abbrev pub StoppedAt : Room → Hub → ℕ → Option (List Call) → Type 0
StoppedAt r h t (Some (c ∷ later)) = IsTrue (is_full r c) ⊎ MayFindNoMemory r h (actor.Thread t) nothing_given c
StoppedAt r h t _ = Unit {0}

-- WORKERS
-- what a worker holds: nothing, a work that it started, or one that it executed
pub data HeldWork : Type 0 where
  NoWork : HeldWork
  Started : StartedWork → HeldWork
  Executed : ExecutedWork → HeldWork

-- a worker: its number, what it holds, and whether it has ended
pub record WorkerSeen : Type 0 where
  pub number : ℕ
  pub held : HeldWork
  pub over : Bool

abbrev pub new_worker : ℕ → WorkerSeen
new_worker number = record { number = number; held = NoWork; over = false }

-- where it stands by that
abbrev pub held_state : HeldWork → WorkerState
held_state NoWork = Free
held_state _ = Working

abbrev pub worker_state : WorkerSeen → WorkerState
worker_state w = cond w.over Over (held_state w.held)

-- the pool says that the worker of this number executes what it holds, and the value is that work's
abbrev pub IsHeld : WorkPool → ℕ → HeldWork → Type 0
IsHeld p w NoWork = Unit {0}
IsHeld p w (Started s) = (executed_by p w ≡ Some s.number) × (job_value s.spec ≡ value_of_work p s.number)
IsHeld p w (Executed r) = (executed_by p w ≡ Some r.number) × (r.value ≡ value_of_work p r.number)

-- it is one of the hub's workers. Its entries in the history come by turns and leave it where it stands, and the pool says of it what it holds
pub record IsWorkerOf (n : Numbers) (s : HubSeen) (w : WorkerSeen) : Type 0 where
  pub there : w.number < n.workers
  pub stands : worker_along w.number (Some Free) s.history ≡ Some (worker_state w)
  pub held : IsHeld s.hub.pool w.number w.held

-- no work that it started is still to be executed
abbrev pub IsHandsReady : HeldWork → Type 0
IsHandsReady (Started s) = ⊥
IsHandsReady _ = Unit {0}

-- no work that it holds is executed yet
abbrev pub IsUnexecuted : HeldWork → Type 0
IsUnexecuted (Executed r) = ⊥
IsUnexecuted _ = Unit {0}

-- it holds no work
abbrev pub IsHandsFree : HeldWork → Type 0
IsHandsFree NoWork = Unit {0}
IsHandsFree _ = ⊥

-- the work that it started is executed
abbrev pub held_executed : HeldWork → HeldWork
held_executed (Started s) = Executed (record { number = s.number; value = job_value s.spec })
held_executed held = held

-- AS OTHERS GO ON
-- an entry of another actor leaves a thread's run one of the hub's, ..
abbrev pub ThreadRunsStand : Type 0
ThreadRunsStand = (n : Numbers) (s new : HubSeen) (t : ThreadSeen) (x : Entry) → IsLedHub n s → IsThreadOf n s t → AddsEntry s x new → is_thread t.number x.actor ≡ false
    → IsThreadOf n new t

-- .. and a worker's
abbrev pub WorkerRunsStand : Type 0
WorkerRunsStand = (n : Numbers) (s new : HubSeen) (w : WorkerSeen) (x : Entry) → IsLedHub n s → IsWorkerOf n s w → AddsEntry s x new → is_worker w.number x.actor ≡ false
    → IsWorkerOf n new w

-- and so does the execution of the work that the worker started
abbrev pub ExecutedWorksStand : Type 0
ExecutedWorksStand = (n : Numbers) (s : HubSeen) (w : WorkerSeen) → IsWorkerOf n s w → IsWorkerOf n s (record w { held = held_executed w.held })
