-- A work is cancelled while another one is finished: its completion begins behind that of the finished one.
use Rattle.std.specs.Prelude.{◌≡◌, ℕ, List, [], ◌∷◌, ◌++◌, codes}
use Rattle.napi_types.specs.declared.call.Call.TheVariants as call
use Rattle.napi_types.specs.declared.call.JobSpec.TheVariants as job
use Rattle.napi_types.specs.declared.entry.Entry.{Entry}
use Rattle.napi_types.specs.declared.entry.Local.{Local}
use Rattle.napi_types.specs.declared.entry.LoopEnd.TheVariants as loop_end
use Rattle.napi_types.specs.declared.op.Op.TheVariants as op
use Rattle.napi_types.specs.declared.status.Status.{Status}
use Rattle.napi_types.specs.declared.status.Status.TheVariants as status
use Rattle.napi_types.specs.plain.Texts.{fixed_texts}
use Rattle.napi_types.specs.plain.Weave.{weave}
use Rattle.napi_types.specs.scripts.Text.{text}
use Rattle.napi_types.specs.runs.Setting.{Setting}
use Rattle.machine_laws.specs.HubWords.{work_lines, shared_journal, script_for, next_after, work_duty, work, shared_at, shared_making, work_created, completion_begins, runs_empty, drains, finals, worker_starts, worker_finishes, worker_ends}
use Rattle.machine_laws.specs.RunWords.{loop_ended, go_entry}
use Rattle.machine_laws.specs.LegalRuns.{IsRun}

-- the script, with one worker: a work is created and queued, and then another one, which is cancelled
abbrev pub setting : Setting
setting = script_for 0 1 (
    (op.CreateAsyncWork (job.Sum 4) 1 8 0
    ∷ op.QueueAsyncWork 0
    ∷ op.CreateAsyncWork (job.Sum 3) 1 9 1
    ∷ op.QueueAsyncWork 1
    ∷ op.CancelAsyncWork 1
    ∷ [])
    ∷ []
    ∷ []
    )

-- the history: the worker finishes the first work before the second is created
abbrev pub history : List Entry
history =
    work_created 0 (call.CreateAsyncWork (job.Sum 4) 1 8) 1
    ∷ shared_making 1 (call.QueueAsyncWork (work 1)) status.Ok (work_duty 1)
    ∷ worker_starts 0 1
    ∷ worker_finishes 0 10
    ∷ work_created 2 (call.CreateAsyncWork (job.Sum 3) 1 9) 2
    ∷ shared_making 3 (call.QueueAsyncWork (work 2)) status.Ok (work_duty 2)
    ∷ shared_at 4 (call.CancelAsyncWork (work 2)) status.Ok
    ∷ go_entry
    ∷ runs_empty (completion_begins 1 status.Ok 1)
    ++ runs_empty (completion_begins 1 status.Cancelled 2)
    ++ loop_ended loop_end.Idle
    ∷ drains 0
    ∷ worker_ends 0
    ∷ finals
    ∷ []

-- the journal
abbrev pub journal : List Local
journal = shared_journal 7 16

-- the whole run
abbrev pub trace : List Entry
trace = weave journal history

-- its text is these 20 lines
abbrev pub Prints : Type 0
Prints = text fixed_texts trace ≡
    work_lines
    ++ codes "5 w0 start 0 j1\n"
    ++ codes "6 w0 finish 0 10\n"
    ++ codes "7 env create_async_work 0 work\n"
    ++ codes "8 env queue_async_work 0 - +j2\n"
    ++ codes "9 env cancel_async_work 0 -\n"
    ++ codes "10 env end 0 -\n"
    ++ codes "11 env go 0 -\n"
    ++ codes "12 env begin 0 complete:0.1:j1\n"
    ++ codes "13 env end 0 -\n"
    ++ codes "14 env begin 11 complete:0.1:j2\n"
    ++ codes "15 env end 0 -\n"
    ++ codes "16 env loop_end 0 idle\n"
    ++ codes "17 env drain 0 0\n"
    ++ codes "18 w0 actor_end 0 -\n"
    ++ codes "19 env finals 0 -\n"
    ++ codes "20 env gone 0 -\n"

-- NEAR MISSES
pub record IsStrict : Type 0 where
  -- the worker, which is free, does not start the cancelled work
  pub start : IsRun setting (next_after 9 trace (worker_starts 0 2)) → ⊥
  -- the completion of the work that finished begins first, and as one that ran, ..
  pub first : (s : Status) (n : ℕ) → IsRun setting (next_after 11 trace (completion_begins 1 s n)) → (s ≡ status.Ok) × (n ≡ 1)
  -- .. and that of the cancelled one behind it, as cancelled
  pub second : (s : Status) (n : ℕ) → IsRun setting (next_after 13 trace (completion_begins 1 s n)) → (s ≡ status.Cancelled) × (n ≡ 2)
