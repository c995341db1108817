-- Exit is asked while one work is finished and another one waits: the drain cancels that one, and its completion begins behind that of the finished one.
use Rattle.std.specs.Prelude.{◌≡◌, ℕ, List, [], ◌∷◌, ◌++◌, codes}
use Rattle.napi_types.specs.declared.call.Call.TheVariants as call
use Rattle.napi_types.specs.declared.call.JobSpec.TheVariants as job
use Rattle.napi_types.specs.declared.entry.Entry.{Entry}
use Rattle.napi_types.specs.declared.entry.Local.{Local}
use Rattle.napi_types.specs.declared.entry.LoopEnd.TheVariants as loop_end
use Rattle.napi_types.specs.declared.entry.Out.TheVariants as out
use Rattle.napi_types.specs.declared.op.Op.TheVariants as op
use Rattle.napi_types.specs.declared.status.Status.{Status}
use Rattle.napi_types.specs.declared.status.Status.TheVariants as status
use Rattle.napi_types.specs.plain.Texts.{fixed_texts}
use Rattle.napi_types.specs.plain.Weave.{weave}
use Rattle.napi_types.specs.scripts.Text.{text}
use Rattle.napi_types.specs.runs.Setting.{Setting}
use Rattle.machine_laws.specs.HubWords.{work_lines, script_for, at_length, next_after, work_duty, work, shared_making, work_created, completion_begins, runs_empty, drains, finals, worker_starts, worker_finishes, worker_ends}
use Rattle.machine_laws.specs.RunWords.{call_at, opening_entries, frame_end, loop_ended, go_entry, gone_entry}
use Rattle.machine_laws.specs.LegalRuns.{IsRun}

-- the script, with one worker: two works are created and queued, and exit is asked
abbrev pub setting : Setting
setting = script_for 0 1 (
    (op.CreateAsyncWork (job.Sum 4) 1 8 0
    ∷ op.QueueAsyncWork 0
    ∷ op.CreateAsyncWork (job.Sum 3) 1 9 1
    ∷ op.QueueAsyncWork 1
    ∷ op.Exit
    ∷ [])
    ∷ []
    ∷ []
    )

-- the history: the worker finishes the first work, and starts no other
abbrev pub history : List Entry
history =
    work_created 0 (call.CreateAsyncWork (job.Sum 4) 1 8) 1
    ∷ shared_making 1 (call.QueueAsyncWork (work 1)) status.Ok (work_duty 1)
    ∷ work_created 2 (call.CreateAsyncWork (job.Sum 3) 1 9) 2
    ∷ shared_making 3 (call.QueueAsyncWork (work 2)) status.Ok (work_duty 2)
    ∷ worker_starts 0 1
    ∷ worker_finishes 0 10
    ∷ go_entry
    ∷ loop_ended loop_end.Exit
    ∷ drains 1
    ∷ runs_empty (completion_begins 1 status.Ok 1)
    ++ runs_empty (completion_begins 1 status.Cancelled 2)
    ++ worker_ends 0
    ∷ finals
    ∷ []

-- the journal: the exit and the end of the init frame behind the shared calls
abbrev pub journal : List Local
journal = at_length 0 opening_entries ++ at_length 6 (call_at 4 call.Exit status.Ok out.Nothing ∷ frame_end ∷ []) ++ at_length 15 (gone_entry ∷ [])

-- the whole run
abbrev pub trace : List Entry
trace = weave journal history

-- its text is these 20 lines
abbrev pub Prints : Type 0
Prints = text fixed_texts trace ≡
    work_lines
    ++ codes "5 env create_async_work 0 work\n"
    ++ codes "6 env queue_async_work 0 - +j2\n"
    ++ codes "7 w0 start 0 j1\n"
    ++ codes "8 w0 finish 0 10\n"
    ++ codes "9 env exit 0 -\n"
    ++ codes "10 env end 0 -\n"
    ++ codes "11 env go 0 -\n"
    ++ codes "12 env loop_end 0 exit\n"
    ++ codes "13 env drain 0 1\n"
    ++ codes "14 env begin 0 complete:0.1:j1\n"
    ++ codes "15 env end 0 -\n"
    ++ codes "16 env begin 11 complete:0.1:j2\n"
    ++ codes "17 env end 0 -\n"
    ++ codes "18 w0 actor_end 0 -\n"
    ++ codes "19 env finals 0 -\n"
    ++ codes "20 env gone 0 -\n"

-- NEAR MISSES
pub record IsStrict : Type 0 where
  -- the drain cancels one work: the finished one is none of those that wait
  pub drain : (n : ℕ) → IsRun setting (next_after 12 trace (drains n)) → n ≡ 1
  -- behind it no worker starts the one that was cancelled
  pub start : IsRun setting (next_after 13 trace (worker_starts 0 2)) → ⊥
  -- the completion of the work that finished begins first, and as one that ran, ..
  pub first : (s : Status) (n : ℕ) → IsRun setting (next_after 13 trace (completion_begins 1 s n)) → (s ≡ status.Ok) × (n ≡ 1)
  -- .. and that of the cancelled one behind it, as cancelled
  pub second : (s : Status) (n : ℕ) → IsRun setting (next_after 15 trace (completion_begins 1 s n)) → (s ≡ status.Cancelled) × (n ≡ 2)
