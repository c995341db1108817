-- A work is queued where there is no worker: the loop ends, the drain cancels it, and its completion says so. In it no further work is created.
use Rattle.std.specs.Prelude.{◌≡◌, ℕ, List, [], ◌∷◌, ◌++◌, codes}
use Rattle.napi_types.specs.declared.call.Call.{Call}
use Rattle.napi_types.specs.declared.call.Call.TheVariants as call
use Rattle.napi_types.specs.declared.call.JobSpec.TheVariants as job
use Rattle.napi_types.specs.declared.entry.Entry.{Entry}
use Rattle.napi_types.specs.declared.entry.Local.{Local}
use Rattle.napi_types.specs.declared.entry.LoopEnd.{LoopEnd}
use Rattle.napi_types.specs.declared.entry.LoopEnd.TheVariants as loop_end
use Rattle.napi_types.specs.declared.op.Op.TheVariants as op
use Rattle.napi_types.specs.declared.status.Status.{Status}
use Rattle.napi_types.specs.declared.status.Status.TheVariants as status
use Rattle.napi_types.specs.plain.Texts.{fixed_texts}
use Rattle.napi_types.specs.plain.Weave.{weave}
use Rattle.napi_types.specs.scripts.Text.{text}
use Rattle.napi_types.specs.runs.Setting.{Setting}
use Rattle.machine_laws.specs.HubWords.{work_lines, shared_journal, script_for, next_after, work_duty, work, shared_at, shared_making, shared_refused, work_created, completion_begins, drains, finals, worker_starts}
use Rattle.machine_laws.specs.RunWords.{frame_end, loop_ended, go_entry}
use Rattle.machine_laws.specs.LegalRuns.{IsRun}

-- the script, for so many workers: a work is created and queued, and its completion asks to create another, and deletes it
abbrev pub setting_for : ℕ → Setting
setting_for workers = script_for 0 workers (
    (op.CreateAsyncWork (job.Sum 3) 1 7 0 ∷ op.QueueAsyncWork 0 ∷ [])
    ∷ (op.CreateAsyncWork (job.Sum 3) 1 8 1 ∷ op.DeleteAsyncWork 0 ∷ [])
    ∷ []
    )

-- without a worker
abbrev pub setting : Setting
setting = setting_for 0

-- the call that creates another
abbrev pub creates_late : Call
creates_late = call.CreateAsyncWork (job.Sum 3) 1 8

-- the history
abbrev pub history : List Entry
history =
    work_created 0 (call.CreateAsyncWork (job.Sum 3) 1 7) 1
    ∷ shared_making 1 (call.QueueAsyncWork (work 1)) status.Ok (work_duty 1)
    ∷ go_entry
    ∷ loop_ended loop_end.Quiet
    ∷ drains 1
    ∷ completion_begins 1 status.Cancelled 1
    ∷ shared_refused 0 creates_late status.GenericFailure
    ∷ shared_at 1 (call.DeleteAsyncWork (work 1)) status.Ok
    ∷ frame_end
    ∷ finals
    ∷ []

-- the journal
abbrev pub journal : List Local
journal = shared_journal 2 10

-- the whole run
abbrev pub trace : List Entry
trace = weave journal history

-- its text is these 14 lines
abbrev pub Prints : Type 0
Prints = text fixed_texts trace ≡
    work_lines
    ++ codes "5 env end 0 -\n"
    ++ codes "6 env go 0 -\n"
    ++ codes "7 env loop_end 0 quiet\n"
    ++ codes "8 env drain 0 1\n"
    ++ codes "9 env begin 11 complete:0.1:j1\n"
    ++ codes "10 env create_async_work 9 -\n"
    ++ codes "11 env delete_async_work 0 -\n"
    ++ codes "12 env end 0 -\n"
    ++ codes "13 env finals 0 -\n"
    ++ codes "14 env gone 0 -\n"

-- NEAR MISSES
pub record IsStrict : Type 0 where
  -- the loop ends for no other reason; with one worker it would wait for the work
  pub reason : (r : LoopEnd) → IsRun setting (next_after 6 trace (loop_ended r)) → r ≡ loop_end.Quiet
  pub worker : (r : LoopEnd) → IsRun (setting_for 1) (next_after 6 trace (loop_ended r)) → ⊥
  -- a worker that is not there starts nothing
  pub start : IsRun setting (next_after 4 trace (worker_starts 0 1)) → ⊥
  -- the drain tells how many works it cancelled
  pub drain : (n : ℕ) → IsRun setting (next_after 7 trace (drains n)) → n ≡ 1
  -- its completion tells that it was cancelled, and not that it ran, since no worker started it
  pub completion : (s : Status) → IsRun setting (next_after 8 trace (completion_begins 1 s 1)) → s ≡ status.Cancelled
  -- `finals` does not come before the completion
  pub finals : IsRun setting (next_after 8 trace finals) → ⊥
  -- from the end of the loop on no work is created: the environment refuses that, and does not leave it to the hub
  pub late : (n : ℕ) → IsRun setting (next_after 9 trace (work_created 0 creates_late n)) → ⊥
  pub refused : (s : Status) → IsRun setting (next_after 9 trace (shared_at 0 creates_late s)) → ⊥
