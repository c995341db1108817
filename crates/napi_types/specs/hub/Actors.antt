-- The entries of threads and workers along a history: a thread makes the calls of its script, one after another, and then ends; a worker starts and finishes works
-- by turns, and then ends.
use Rattle.std.specs.Prelude.{◌≡◌, ℕ, ◌+◌, ◌==◌, Bool, true, false, cond, ◌||◌, List, [], ◌∷◌, filter_map, Option, Some, None, IsTrue}
use Rattle.napi_types.specs.declared.call.Ask.{Ask}
use Rattle.napi_types.specs.declared.call.Ask.TheVariants as ask
use Rattle.napi_types.specs.declared.call.Call.{Call}
use Rattle.napi_types.specs.declared.entry.Actor.{Actor}
use Rattle.napi_types.specs.declared.entry.Actor.TheVariants as actor
use Rattle.napi_types.specs.declared.entry.Entry.{Entry}
use Rattle.napi_types.specs.declared.entry.HostStep.TheVariants as host
use Rattle.napi_types.specs.declared.entry.Out.{Out}
use Rattle.napi_types.specs.declared.entry.Out.TheVariants as out
use Rattle.napi_types.specs.declared.entry.What.{What}
use Rattle.napi_types.specs.declared.entry.What.TheVariants as what
use Rattle.napi_types.specs.declared.entry.Why.TheVariants as why
use Rattle.napi_types.specs.declared.op.Op.{Op}
use Rattle.napi_types.specs.plain.Lists.{tail}
use Rattle.napi_types.specs.plain.Room.{Room, is_full, may_want_memory}
use Rattle.napi_types.specs.scripts.Registers.{operation_ask, blank_registers}
use Rattle.napi_types.specs.hub.HistoryRoom.{history_room}
use Rattle.napi_types.specs.hub.Hub.{Hub}
use Rattle.napi_types.specs.hub.HubSteps.{hub_step}

-- THREADS
abbrev pub is_thread : ℕ → Actor → Bool
is_thread t (actor.Thread u) = u == t
is_thread t _ = false

-- the call of an operation: those of threads are filled from no registers
abbrev pub asked_call : Ask → Option Call
asked_call (ask.Do c) = Some c
asked_call (ask.Leave v) = None

-- the calls of a thread's script, in their order
abbrev pub thread_calls : List Op → List Call
thread_calls operations = filter_map (λ o. asked_call (operation_ask o blank_registers)) operations

-- how a thread ends that has these calls left, where the history has this room: with nothing once none is left; else it is cut at the next one. It is cut as full
-- exactly where that call is full, and for want of memory only where it may want it
abbrev pub EndsThread : Room → List Call → Out → Type 0
EndsThread r [] o = o ≡ out.Nothing
EndsThread r (c ∷ later) o = (o ≡ out.Cut (cond (is_full r c) why.Full why.Memory)) × IsTrue (is_full r c || may_want_memory r c)

-- the entry of a thread that made so many calls and has these left: the next call, with its number in the script, or its end. A thread that has ended has none left
-- to speak of, and makes no entry
abbrev pub IsNextOfThread : Room → ℕ → Option (List Call) → Entry → What → Type 0
IsNextOfThread r made (Some (c ∷ later)) x (what.Call d) = (d ≡ c) × (x.step ≡ made)
IsNextOfThread r made (Some left) x (what.Host host.ActorEnd) = EndsThread r left x.reply.out
IsNextOfThread r made left x w = ⊥

-- the calls that are left after it
abbrev pub left_after : Option (List Call) → What → Option (List Call)
left_after (Some left) (what.Call c) = Some (tail left)
left_after left w = None

-- along a history, from a hub and a length on: each entry of the thread is its next one. That the thread comes to its end says `finals`, which waits for it
abbrev pub KeepsScriptFrom : ℕ → ℕ → Hub → ℕ → ℕ → Option (List Call) → List Entry → Type 0
KeepsScriptFrom limit t h n made left [] = Unit {0}
KeepsScriptFrom limit t h n made left (x ∷ xs) =
    (is_thread t x.actor ≡ true → IsNextOfThread (history_room h n limit) made left x x.what)
    × KeepsScriptFrom limit t (hub_step h x).after (n + 1) (cond (is_thread t x.actor) (made + 1) made) (cond (is_thread t x.actor) (left_after left x.what) left) xs

-- the calls that are left of a thread after a history, where these were left before it; none to speak of once it has ended
abbrev pub left_along : ℕ → Option (List Call) → List Entry → Option (List Call)
left_along t left [] = left
left_along t left (x ∷ xs) = left_along t (cond (is_thread t x.actor) (left_after left x.what) left) xs

-- WORKERS
abbrev pub is_worker : ℕ → Actor → Bool
is_worker w (actor.Worker v) = v == w
is_worker w _ = false

-- a worker is free, has a work, or has ended
pub data WorkerState : Type 0 where
  Free : WorkerState
  Working : WorkerState
  Over : WorkerState

-- what a worker does next: a free one starts a work or ends, and one that has a work finishes it
abbrev pub worker_after : WorkerState → What → Option WorkerState
worker_after Free (what.Host host.Start) = Some Working
worker_after Working (what.Host host.Finish) = Some Free
worker_after Free (what.Host host.ActorEnd) = Some Over
worker_after _ _ = None

-- the entries of a worker along a history
abbrev pub does_next : ℕ → Entry → Option WorkerState → Option WorkerState
does_next w x None = None
does_next w x (Some s) = cond (is_worker w x.actor) (worker_after s x.what) (Some s)

-- where a worker stands after a history; none where an entry of it came out of turn
abbrev pub worker_along : ℕ → Option WorkerState → List Entry → Option WorkerState
worker_along w s [] = s
worker_along w s (x ∷ xs) = worker_along w (does_next w x s) xs
