-- A work is cancelled before it starts: it never starts, its completion says so, and only then is it deleted.
use Rattle.std.specs.Prelude.{◌≡◌, List, [], ◌∷◌, ◌++◌, replicate, Option, None, codes}
use Rattle.napi_types.specs.declared.call.Call.TheVariants as call
use Rattle.napi_types.specs.declared.call.JobSpec.TheVariants as job
use Rattle.napi_types.specs.declared.entry.Duty.{Duty}
use Rattle.napi_types.specs.declared.entry.Entry.{Entry}
use Rattle.napi_types.specs.declared.entry.Local.{Local}
use Rattle.napi_types.specs.declared.entry.LoopEnd.TheVariants as loop_end
use Rattle.napi_types.specs.declared.op.Op.TheVariants as op
use Rattle.napi_types.specs.declared.status.Status.{Status}
use Rattle.napi_types.specs.declared.status.Status.TheVariants as status
use Rattle.napi_types.specs.plain.Texts.{fixed_texts}
use Rattle.napi_types.specs.plain.Weave.{weave}
use Rattle.napi_types.specs.scripts.Plans.{registers_of}
use Rattle.napi_types.specs.scripts.Summary.{summary}
use Rattle.napi_types.specs.scripts.Text.{text}
use Rattle.napi_types.specs.runs.Setting.{Setting, final_registers}
use Rattle.machine_laws.specs.HubWords.{work_lines, shared_journal, script_for, next_after, work_duty, work, shared_at, shared_making, work_created, completion_begins, drains, finals, worker_starts, worker_ends}
use Rattle.machine_laws.specs.RunWords.{frame_end, loop_ended, go_entry}
use Rattle.machine_laws.specs.LegalRuns.{IsRun, told_asks}

-- the script, with one worker: a work is created, queued and cancelled; then it is queued again, and deleted, and deleted in its completion
abbrev pub setting : Setting
setting = script_for 0 1 (
    (op.CreateAsyncWork (job.Sum 4) 1 9 0
    ∷ op.QueueAsyncWork 0
    ∷ op.CancelAsyncWork 0
    ∷ op.QueueAsyncWork 0
    ∷ op.DeleteAsyncWork 0
    ∷ [])
    ∷ (op.DeleteAsyncWork 0 ∷ [])
    ∷ []
    )

-- the second queueing, with a status and the completion that it makes, where it makes one
abbrev pub queued_again : Status → Option Duty → Entry
queued_again s d = shared_making 3 (call.QueueAsyncWork (work 1)) s d

-- the history
abbrev pub history : List Entry
history =
    work_created 0 (call.CreateAsyncWork (job.Sum 4) 1 9) 1
    ∷ shared_making 1 (call.QueueAsyncWork (work 1)) status.Ok (work_duty 1)
    ∷ shared_at 2 (call.CancelAsyncWork (work 1)) status.Ok
    ∷ queued_again status.GenericFailure None
    ∷ shared_at 4 (call.DeleteAsyncWork (work 1)) status.GenericFailure
    ∷ go_entry
    ∷ completion_begins 1 status.Cancelled 1
    ∷ shared_at 0 (call.DeleteAsyncWork (work 1)) status.Ok
    ∷ frame_end
    ∷ loop_ended loop_end.Idle
    ∷ drains 0
    ∷ worker_ends 0
    ∷ finals
    ∷ []

-- the journal
abbrev pub journal : List Local
journal = shared_journal 5 13

-- the whole run
abbrev pub trace : List Entry
trace = weave journal history

-- its text is these 17 lines
abbrev pub Prints : Type 0
Prints = text fixed_texts trace ≡
    work_lines
    ++ codes "5 env cancel_async_work 0 -\n"
    ++ codes "6 env queue_async_work 9 -\n"
    ++ codes "7 env delete_async_work 9 -\n"
    ++ codes "8 env end 0 -\n"
    ++ codes "9 env go 0 -\n"
    ++ codes "10 env begin 11 complete:0.1:j1\n"
    ++ codes "11 env delete_async_work 0 -\n"
    ++ codes "12 env end 0 -\n"
    ++ codes "13 env loop_end 0 idle\n"
    ++ codes "14 env drain 0 0\n"
    ++ codes "15 w0 actor_end 0 -\n"
    ++ codes "16 env finals 0 -\n"
    ++ codes "17 env gone 0 -\n"

-- its summary counts the work and its completion, and no start
abbrev pub SumsUp : Type 0
SumsUp = summary trace ≡ codes "entries 17\ncalls 6\naccepted 0\nitems 0\nworks 1\nstarted 0\n"
    ++ codes "completions 1\nfinalizers 0\nhooks 0\nwithdrawn 0\nrefused 2\npayload 0\n"

-- the addon keeps the work's number, and the gifts of the completion: 11, the value 0, and the payload
abbrev pub Keeps : Type 0
Keeps = registers_of (final_registers setting (told_asks setting trace) trace) 0 ≡ 1 ∷ replicate 23 0 ++ 11 ∷ 0 ∷ 9 ∷ replicate 5 0

-- NEAR MISSES
pub record IsStrict : Type 0 where
  -- it is not queued again: the call is refused so
  pub again : (s : Status) (d : Option Duty) → IsRun setting (next_after 5 trace (queued_again s d)) → (s ≡ status.GenericFailure) × (d ≡ None)
  -- no worker starts it
  pub start : IsRun setting (next_after 5 trace (worker_starts 0 1)) → ⊥
  -- its completion begins with no other status: not with that of a work that ran
  pub completion : (s : Status) → IsRun setting (next_after 9 trace (completion_begins 1 s 1)) → s ≡ status.Cancelled
  -- `finals` does not come before the worker has ended
  pub finals : IsRun setting (next_after 14 trace finals) → ⊥
