-- Near misses of what becomes of works, items and functions: entries as those of a worked run in which one duty begins otherwise.
use Rattle.std.specs.Prelude.{List, ◌∷◌, ◌++◌, set, take, drop}
use Rattle.napi_types.specs.declared.call.Call.TheVariants as call
use Rattle.napi_types.specs.declared.entry.Cause.TheVariants as cause
use Rattle.napi_types.specs.declared.entry.Duty.TheVariants as duty
use Rattle.napi_types.specs.declared.entry.Entry.{Entry}
use Rattle.napi_types.specs.declared.status.Status.TheVariants as status
use Rattle.napi_types.specs.all_runs.Counts.{Once, TellsStarts}
use Rattle.napi_types.specs.all_runs.ItemOrder.{CountItems}
use Rattle.napi_types.specs.all_runs.Cancels.{IsCancelledOnce, CancelsHold}
use Rattle.machine_laws.specs.Abort as abort
use Rattle.machine_laws.specs.CancelAfterStart as cancel_after_start
use Rattle.machine_laws.specs.CancelBeforeStart as cancel_before_start
use Rattle.machine_laws.specs.HubWords.{item_begins, completion_begins, shared_at, shared_making, worker_starts, work, work_duty}
use Rattle.machine_laws.specs.ReleaseToZero as release_to_zero
use Rattle.machine_laws.specs.RunWords.{left_out}
use Rattle.machine_laws.specs.WorkWithoutWorkers as work_without_workers

-- where a function is released to 0, its first item begins again in place of the second, ..
abbrev pub first_twice : List Entry
first_twice = set release_to_zero.trace 11 (item_begins cause.Item 1)

-- .. or the second one begins before the first
abbrev pub second_first : List Entry
second_first = set (set release_to_zero.trace 9 (item_begins cause.Item 2)) 11 (item_begins cause.Item 1)

-- where a function is aborted, the frame of its finalizer is left out
abbrev pub unfinalized : List Entry
unfinalized = left_out 21 (left_out 21 abort.trace)

-- the completion of a work that started begins with 11, ..
abbrev pub started_and_cancelled : List Entry
started_and_cancelled = set cancel_after_start.trace 9 (completion_begins 1 status.Cancelled 1)

-- .. that of one which no worker started begins with 0, ..
abbrev pub never_started_but_done : List Entry
never_started_but_done = set work_without_workers.trace 8 (completion_begins 1 status.Ok 1)

-- .. and so does that of one whose cancelling was accepted, ..
abbrev pub cancelled_but_done : List Entry
cancelled_but_done = set cancel_before_start.trace 9 (completion_begins 1 status.Ok 1)

-- .. or a worker starts it right behind the cancelling
abbrev pub cancelled_and_started : List Entry
cancelled_and_started = take 5 cancel_before_start.trace ++ worker_starts 0 1 ∷ drop 5 cancel_before_start.trace

-- the accepted cancel names a work that was never queued, ..
abbrev pub another_cancelled : List Entry
another_cancelled = set cancel_before_start.trace 4 (shared_at 2 (call.CancelAsyncWork (work 2)) status.Ok)

-- .. or comes before the work is queued
abbrev pub cancelled_first : List Entry
cancelled_first =
    take 3 cancel_before_start.trace ++ shared_at 1 (call.CancelAsyncWork (work 1)) status.Ok ∷ shared_making 2 (call.QueueAsyncWork (work 1)) status.Ok (work_duty 1)
    ∷ drop 5 cancel_before_start.trace

-- each duty is once in the runs of those two functions; ..
pub record OnceOfTheHubIsStrict : Type 0 where
  pub items : Once release_to_zero.trace
  pub finalizer : Once abort.trace
  -- .. it is not where an item begins twice, nor where a finalizer never begins
  pub twice : Once first_twice → ⊥
  pub never : Once unfinalized → ⊥

-- items count from 1 and begin in that order; ..
pub record ItemOrderIsStrict : Type 0 where
  pub run : CountItems 1 release_to_zero.trace
  -- .. they do not where one begins before an earlier one, or twice
  pub earlier : CountItems 1 second_first → ⊥
  pub twice : CountItems 1 first_twice → ⊥

-- the completion of a work that started tells so, and that of one that was cancelled, by a call or by the drain, tells that it never did; ..
pub record CompletionsAreStrict : Type 0 where
  pub started : TellsStarts (duty.Work 1) cancel_after_start.trace
  pub cancelled : IsCancelledOnce 1 cancel_before_start.trace
  pub drained : IsCancelledOnce 1 work_without_workers.trace
  -- .. it does not with 11 where the work started, ..
  pub eleven : TellsStarts (duty.Work 1) started_and_cancelled → ⊥
  -- .. nor with 0 where no worker started it, or its cancelling was accepted; ..
  pub zero : TellsStarts (duty.Work 1) never_started_but_done → ⊥
  pub accepted : IsCancelledOnce 1 cancelled_but_done → ⊥
  -- .. nor is a work cancelled that starts behind its cancelling
  pub late : IsCancelledOnce 1 cancelled_and_started → ⊥

-- an accepted cancel cancels the work that was last queued under its id; ..
pub record CancelsAreStrict : Type 0 where
  pub run : CancelsHold cancel_before_start.trace
  -- .. it does not where the completion begins with 0, or a worker starts the work, ..
  pub done : CancelsHold cancelled_but_done → ⊥
  pub late : CancelsHold cancelled_and_started → ⊥
  -- .. nor where no work was queued under that id, or only behind the cancel
  pub another : CancelsHold another_cancelled → ⊥
  pub first : CancelsHold cancelled_first → ⊥
