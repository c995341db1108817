-- Laws over all runs, whatever threads and workers do: each duty begins exactly once or is withdrawn, and what works, items and workers come to.
use Rattle.std.specs.Prelude.{◌≡◌, ◌≢◌, ℕ, ◌<◌, ◌≤◌, ◌==◌, ◌&&◌, Bool, true, List, ◌∷◌, ◌++◌, Some}
use Rattle.std.specs.List.{list_any}
use Rattle.napi_types.specs.declared.call.Ask.{Ask}
use Rattle.napi_types.specs.declared.call.Call.{Call}
use Rattle.napi_types.specs.declared.call.Call.TheVariants as call
use Rattle.napi_types.specs.declared.entry.Duty.{Duty}
use Rattle.napi_types.specs.declared.entry.Duty.TheVariants as duty
use Rattle.napi_types.specs.declared.entry.Entry.{Entry}
use Rattle.napi_types.specs.declared.entry.What.TheVariants as what
use Rattle.napi_types.specs.declared.ids.WorkId.{WorkId}
use Rattle.napi_types.specs.declared.status.Status.TheVariants as status
use Rattle.napi_types.specs.parts.Pool.{number_of_work}
use Rattle.napi_types.specs.parts.Works.{is_cancelled}
use Rattle.napi_types.specs.environment.Environment.{Environment}
use Rattle.napi_types.specs.environment.Refusals.{refusal}
use Rattle.napi_types.specs.hub.Actors.{Free, Over, worker_along}
use Rattle.napi_types.specs.hub.HistoryLaws.{LeadsTo}
use Rattle.napi_types.specs.hub.Hub.{Hub}
use Rattle.napi_types.specs.runs.Machine.{Machine}
use Rattle.napi_types.specs.runs.Run.{IsRunBy}
use Rattle.napi_types.specs.runs.Setting.{Setting, RunsBy, EndsBy, opening_of, final_of}
use Rattle.napi_types.specs.all_runs.Cancels.{IsCancelledOnce, CancelsHold}
use Rattle.napi_types.specs.all_runs.Counts.{IsOnce, TellsStarts}
use Rattle.napi_types.specs.all_runs.DutyPlaces.{places_in_pool, places_in_machine, HasOnePlace}
use Rattle.napi_types.specs.all_runs.ItemOrder.{CountItems}

-- PLACES
-- after each entry of a run each duty that was made and not withdrawn has exactly one place, or its frame began once
abbrev pub EachDutyHasOnePlace : Type 0
EachDutyHasOnePlace = (s : Setting) (bs : List Ask) (xs : List Entry) (d : Duty) → RunsBy s bs xs → HasOnePlace (final_of s bs xs) d xs

-- once the environment is gone no place is left
abbrev pub NoPlaceIsLeft : Type 0
NoPlaceIsLeft = (s : Setting) (bs : List Ask) (xs : List Entry) (d : Duty) → EndsBy s bs xs → places_in_machine (final_of s bs xs) d ≡ 0

-- a duty that has one place at most, and of which none is left, is once
abbrev pub OnePlaceGivesOnce : Type 0
OnePlaceGivesOnce = (m : Machine) (d : Duty) (xs : List Entry) → HasOnePlace m d xs → places_in_machine m d ≡ 0 → IsOnce d xs

-- WORKS
-- in every hub to which a history leads no work stands twice among those that are queued, executed and finished
abbrev pub WorksStandOnce : Type 0
WorksStandOnce = (limit threads workers n : ℕ) (history : List Entry) (h : Hub) → LeadsTo limit threads workers history h → places_in_pool n h.pool ≤ 1

-- in every run to its end the completion of each work tells whether the work started
abbrev pub CompletionsTellStarts : Type 0
CompletionsTellStarts = (s : Setting) (bs : List Ask) (xs : List Entry) (n : ℕ) → EndsBy s bs xs → TellsStarts (duty.Work n) xs

-- in this hub the work of a number is finished as one that was cancelled
abbrev pub is_cancelled_in : ℕ → Hub → Bool
is_cancelled_in n h = list_any (λ o. (n == o.work) && is_cancelled o.status) h.pool.finished

-- a work that at any moment of a run to its end is finished as a cancelled one, by an accepted cancel or by the drain, is so
abbrev pub CancelledWorksNeverStart : Type 0
CancelledWorksNeverStart = (s : Setting) (bs cs : List Ask) (xs ys : List Entry) (n : ℕ) → IsRunBy (opening_of s) bs xs → EndsBy s (bs ++ cs) (xs ++ ys)
    → is_cancelled_in n (final_of s bs xs).hub ≡ true → IsCancelledOnce n (xs ++ ys)

-- the work of this id had a number where these entries end. That work never starts along the whole run, and its completion begins as cancelled, once
pub record LeadsToCancelled (s : Setting) (bs : List Ask) (xs : List Entry) (w : WorkId) (whole : List Entry) : Type 0 where
  pub number : ℕ
  pub queued : number_of_work (final_of s bs xs).hub.pool w.0 ≡ Some number
  pub once : IsCancelledOnce number whole

-- in every run to its end each accepted `cancel_async_work` leads to that
abbrev pub AcceptedCancelsCancel : Type 0
AcceptedCancelsCancel = (s : Setting) (bs cs : List Ask) (a : Ask) (xs ys : List Entry) (x : Entry) (w : WorkId) → IsRunBy (opening_of s) bs xs
    → EndsBy s (bs ++ a ∷ cs) (xs ++ x ∷ ys) → x.what ≡ what.Call (call.CancelAsyncWork w) → x.reply.status ≡ status.Ok
    → LeadsToCancelled s bs xs w (xs ++ x ∷ ys)

-- in the entries of every run to its end each accepted `cancel_async_work` cancels the work that was last queued under its id
abbrev pub CancelsAreTold : Type 0
CancelsAreTold = (s : Setting) (bs : List Ask) (xs : List Entry) → EndsBy s bs xs → CancelsHold xs

-- ITEMS
-- in every run the items of each function count from 1 as they are accepted, and begin in that order
abbrev pub ItemsBeginInOrder : Type 0
ItemsBeginInOrder = (s : Setting) (bs : List Ask) (xs : List Entry) (f : ℕ) → RunsBy s bs xs → CountItems f xs

-- WORKERS
-- along every run to its end each worker starts a work and finishes it, by turns, and then ends: so each start is followed by one finish of the same worker
abbrev pub WorkersFinishWhatTheyStart : Type 0
WorkersFinishWhatTheyStart = (s : Setting) (bs : List Ask) (xs : List Entry) (w : ℕ) → w < s.workers → EndsBy s bs xs
    → worker_along w (Some Free) xs ≡ Some Over

-- EVENTS
-- no call is refused with the status of an accepted one
abbrev pub NoRefusalAccepts : Type 0
NoRefusalAccepts = (e : Environment) (c : Call) → refusal e c ≢ Some status.Ok
