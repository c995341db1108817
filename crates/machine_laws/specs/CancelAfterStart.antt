-- A work is cancelled after its start: too late. It runs to its finish, and its completion has its value.
use Rattle.std.specs.Prelude.{◌≡◌, ℕ, true, false, List, [], ◌∷◌, ◌++◌, take, replicate, codes}
use Rattle.napi_types.specs.declared.call.Call.TheVariants as call
use Rattle.napi_types.specs.declared.call.JobSpec.TheVariants as job
use Rattle.napi_types.specs.declared.entry.Actor.TheVariants as actor
use Rattle.napi_types.specs.declared.entry.Entry.{Entry}
use Rattle.napi_types.specs.declared.entry.Local.{Local}
use Rattle.napi_types.specs.declared.entry.LoopEnd.TheVariants as loop_end
use Rattle.napi_types.specs.declared.op.Op.TheVariants as op
use Rattle.napi_types.specs.declared.status.Status.{Status}
use Rattle.napi_types.specs.declared.status.Status.TheVariants as status
use Rattle.napi_types.specs.plain.Texts.{fixed_texts}
use Rattle.napi_types.specs.plain.Weave.{weave}
use Rattle.napi_types.specs.scripts.Plans.{registers_of}
use Rattle.napi_types.specs.scripts.Text.{text}
use Rattle.napi_types.specs.hub.ActorLaws.{worker_at}
use Rattle.napi_types.specs.hub.Actors.{Free, Working, Over}
use Rattle.napi_types.specs.hub.Waits.{worker_waits}
use Rattle.napi_types.specs.runs.Setting.{Setting, final_registers}
use Rattle.machine_laws.specs.HubWords.{work_lines, shared_journal, script_for, hub_behind, next_after, work_duty, work, shared_at, shared_making, work_created, completion_begins, runs_empty, drains, finals, worker_starts, worker_finishes, worker_ends}
use Rattle.machine_laws.specs.RunWords.{loop_ended, go_entry}
use Rattle.machine_laws.specs.LegalRuns.{IsRun, told_asks}

-- the script, with one worker: a work is created, queued and cancelled
abbrev pub setting : Setting
setting = script_for 0 1 (
    (op.CreateAsyncWork (job.Sum 4) 1 9 0 ∷ op.QueueAsyncWork 0 ∷ op.CancelAsyncWork 0 ∷ [])
    ∷ []
    ∷ []
    )

-- the cancelling, with a status
abbrev pub cancelled : Status → Entry
cancelled s = shared_at 2 (call.CancelAsyncWork (work 1)) s

-- the history: the worker starts before it
abbrev pub history : List Entry
history =
    work_created 0 (call.CreateAsyncWork (job.Sum 4) 1 9) 1
    ∷ shared_making 1 (call.QueueAsyncWork (work 1)) status.Ok (work_duty 1)
    ∷ worker_starts 0 1
    ∷ cancelled status.GenericFailure
    ∷ worker_finishes 0 10
    ∷ go_entry
    ∷ runs_empty (completion_begins 1 status.Ok 1)
    ++ loop_ended loop_end.Idle
    ∷ drains 0
    ∷ worker_ends 0
    ∷ finals
    ∷ []

-- the journal
abbrev pub journal : List Local
journal = shared_journal 4 12

-- the whole run
abbrev pub trace : List Entry
trace = weave journal history

-- its text is these 16 lines
abbrev pub Prints : Type 0
Prints = text fixed_texts trace ≡
    work_lines
    ++ codes "5 w0 start 0 j1\n"
    ++ codes "6 env cancel_async_work 9 -\n"
    ++ codes "7 env end 0 -\n"
    ++ codes "8 w0 finish 0 10\n"
    ++ codes "9 env go 0 -\n"
    ++ codes "10 env begin 0 complete:0.1:j1\n"
    ++ codes "11 env end 0 -\n"
    ++ codes "12 env loop_end 0 idle\n"
    ++ codes "13 env drain 0 0\n"
    ++ codes "14 w0 actor_end 0 -\n"
    ++ codes "15 env finals 0 -\n"
    ++ codes "16 env gone 0 -\n"

-- the addon keeps the work's number, and the gifts of the completion: 0, the value, and the payload
abbrev pub Keeps : Type 0
Keeps = registers_of (final_registers setting (told_asks setting trace) trace) 0 ≡ 1 ∷ replicate 23 0 ++ 0 ∷ 10 ∷ 9 ∷ replicate 5 0

-- NEAR MISSES
pub record IsStrict : Type 0 where
  -- behind the start no cancelling is accepted
  pub late : (s : Status) → IsRun setting (next_after 5 trace (cancelled s)) → s ≡ status.GenericFailure
  -- the work finishes with no other value
  pub value : (n : ℕ) → IsRun setting (next_after 7 trace (worker_finishes 0 n)) → n ≡ 10
  -- while it runs, nothing comes of the environment behind `go`: no completion, and no end of the loop
  pub runs : (x : Entry) → IsRun setting (take 7 trace ++ go_entry ∷ record x { actor = actor.Env } ∷ []) → ⊥
  -- its completion tells that it ran, and not that it was cancelled, since it started
  pub completion : (s : Status) → IsRun setting (next_after 9 trace (completion_begins 1 s 1)) → s ≡ status.Ok
  -- the worker executes it between these two, and then waits until the drain comes
  pub working : worker_at (hub_behind setting 3 history) 0 ≡ Working
  pub free : worker_at (hub_behind setting 5 history) 0 ≡ Free
  pub idle : worker_waits (hub_behind setting 9 history) 0 ≡ true
  pub woken : worker_waits (hub_behind setting 10 history) 0 ≡ false
  pub over : worker_at (hub_behind setting 11 history) 0 ≡ Over
  -- it does not end before the drain
  pub end : IsRun setting (next_after 12 trace (worker_ends 0)) → ⊥
