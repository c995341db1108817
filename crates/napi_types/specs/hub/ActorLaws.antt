-- Laws on how far one thread, or one worker, is along a history that grows at its end.
use Rattle.std.specs.Prelude.{◌≡◌, ◌<◌, ℕ, ◌+◌, true, false, cond, count_by, List, ◌++◌, length, Option, Some, is_some}
use Rattle.std.specs.List.{All}
use Rattle.napi_types.specs.declared.call.Call.{Call}
use Rattle.napi_types.specs.declared.entry.Entry.{Entry}
use Rattle.napi_types.specs.plain.Lists.{singleton}
use Rattle.napi_types.specs.parts.Pool.{executed_by}
use Rattle.napi_types.specs.hub.Actors.{is_thread, IsNextOfThread, left_after, KeepsScriptFrom, left_along, is_worker, WorkerState, Free, Working, Over, worker_after, worker_along}
use Rattle.napi_types.specs.hub.HistoryLaws.{LeadsTo}
use Rattle.napi_types.specs.hub.HistoryRoom.{history_room}
use Rattle.napi_types.specs.hub.Hub.{Hub, new_hub}
use Rattle.napi_types.specs.hub.HubSteps.{hub_along}
use Rattle.napi_types.specs.hub.WorkerSteps.{is_worker_there}

-- THREADS
-- how many entries of the thread a history has
abbrev pub entries_of_thread : ℕ → List Entry → ℕ
entries_of_thread t xs = count_by (λ x. is_thread t x.actor) xs

-- where a thread with these calls stands after a history: each of its entries was its next one, it made so many, and these calls are left
pub record ThreadStands (limit threads workers t : ℕ) (calls : List Call) (history : List Entry) (made : ℕ) (left : Option (List Call)) : Type 0 where
  pub keeps : KeepsScriptFrom limit t (new_hub threads workers) 0 0 (Some calls) history
  pub made_is : entries_of_thread t history ≡ made
  pub left_is : left_along t (Some calls) history ≡ left

-- it makes its next entry: a call that is the next of those that are left, or its end, by itself or cut. So it made one more, and what is left then is left
abbrev pub ThreadsGoOn : Type 0
ThreadsGoOn = (limit threads workers t made : ℕ) (calls : List Call) (left : Option (List Call)) (history : List Entry) (x : Entry)
    → ThreadStands limit threads workers t calls history made left → is_thread t x.actor ≡ true
    → IsNextOfThread (history_room (hub_along (new_hub threads workers) history) (length history) limit) made left x x.what
    → ThreadStands limit threads workers t calls (history ++ singleton x) (made + 1) (left_after left x.what)

-- entries of other actors leave where it stands
abbrev pub ThreadsStandAsOthersGoOn : Type 0
ThreadsStandAsOthersGoOn = (limit threads workers t made : ℕ) (calls : List Call) (left : Option (List Call)) (history rest : List Entry)
    → ThreadStands limit threads workers t calls history made left → All (λ x. is_thread t x.actor ≡ false) rest
    → ThreadStands limit threads workers t calls (history ++ rest) made left

-- WORKERS
-- a worker makes its next entry, a start, a finish or its end: where it stands then follows from where it stood
abbrev pub WorkersGoOn : Type 0
WorkersGoOn = (w : ℕ) (s : WorkerState) (history : List Entry) (x : Entry) → worker_along w (Some Free) history ≡ Some s → is_worker w x.actor ≡ true
    → worker_along w (Some Free) (history ++ singleton x) ≡ worker_after s x.what

-- entries of other actors leave where it stands
abbrev pub WorkersStandAsOthersGoOn : Type 0
WorkersStandAsOthersGoOn = (w : ℕ) (history rest : List Entry) → All (λ x. is_worker w x.actor ≡ false) rest
    → worker_along w (Some Free) (history ++ rest) ≡ worker_along w (Some Free) history

-- where the hub says that a worker stands: it has ended, it executes a work, or it is free
abbrev pub worker_at : Hub → ℕ → WorkerState
worker_at h w = cond (is_worker_there h w) (cond (is_some (executed_by h.pool w)) Working Free) Over

-- over every history that replays its entries say the same
abbrev pub WorkersStandAsTheHubSays : Type 0
WorkersStandAsTheHubSays = (limit threads workers w : ℕ) (history : List Entry) (h : Hub) → LeadsTo limit threads workers history h → w < workers
    → worker_along w (Some Free) history ≡ Some (worker_at h w)
