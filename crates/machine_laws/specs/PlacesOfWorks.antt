-- The places that works take in the history: a queued one has four reserved, of which a cancelled one gives two back.
use Rattle.std.specs.Prelude.{ℕ, List, [], ◌∷◌, ◌++◌, ◌≡◌, Some}
use Rattle.napi_types.specs.declared.call.Call.TheVariants as call
use Rattle.napi_types.specs.declared.call.JobSpec.TheVariants as job
use Rattle.napi_types.specs.declared.entry.Entry.{Entry}
use Rattle.napi_types.specs.declared.entry.Local.{Local}
use Rattle.napi_types.specs.declared.entry.LoopEnd.TheVariants as loop_end
use Rattle.napi_types.specs.declared.entry.Out.TheVariants as out
use Rattle.napi_types.specs.declared.entry.Why.TheVariants as why
use Rattle.napi_types.specs.declared.op.Op.TheVariants as op
use Rattle.napi_types.specs.declared.status.Status.TheVariants as status
use Rattle.napi_types.specs.plain.Weave.{weave}
use Rattle.napi_types.specs.hub.Actors.{Free, Over, worker_along}
use Rattle.napi_types.specs.runs.Setting.{Setting}
use Rattle.napi_types.specs.all_runs.HubLaws.{ThreadsKeep}
use Rattle.machine_laws.specs.HubWords.{script_for, within, at_length, next_after, work_duty, work, shared_at, shared_making, work_created, completion_begins, runs_empty, drains, finals, thread_ends, worker_starts, worker_finishes, worker_ends}
use Rattle.machine_laws.specs.RunWords.{frame_ends, opening_entries, loop_ended, go_entry, gone_entry}
use Rattle.machine_laws.specs.LegalRuns.{IsRun}

-- QUEUEING
-- the script, with one thread, which makes no call, and one worker: a work is created and queued, and another created. The history has room for so many entries
abbrev pub setting_within : ℕ → Setting
setting_within places = within 100 places (script_for 1 1 (
    (op.CreateAsyncWork (job.Sum 1) 1 0 0 ∷ op.QueueAsyncWork 0 ∷ op.CreateAsyncWork (job.Sum 2) 1 0 1 ∷ [])
    ∷ []
    ∷ []
    ))

-- the first work is created, one is queued, and a second is created
abbrev pub created : Entry
created = work_created 0 (call.CreateAsyncWork (job.Sum 1) 1 0) 1

abbrev pub queued : ℕ → Entry
queued n = shared_making 1 (call.QueueAsyncWork (work n)) status.Ok (work_duty n)

abbrev pub second_created : ℕ → ℕ → Entry
second_created n id = work_created n (call.CreateAsyncWork (job.Sum 2) 1 0) id

-- the end of a frame that is cut so
abbrev pub cut_full : Entry
cut_full = frame_ends (out.Cut why.Full)

-- seven places are taken from the start; so with thirteen the work is created and queued, and no second one is created. All of them are then taken by entries,
-- but that of `abandon`, which the drain gives back
abbrev pub setting : Setting
setting = setting_within 13

-- the history
abbrev pub history : List Entry
history =
    created
    ∷ queued 1
    ∷ worker_starts 0 1
    ∷ worker_finishes 0 1
    ∷ go_entry
    ∷ thread_ends 0 out.Nothing
    ∷ runs_empty (completion_begins 1 status.Ok 1)
    ++ loop_ended loop_end.Idle
    ∷ drains 0
    ∷ worker_ends 0
    ∷ finals
    ∷ []

-- the journal
abbrev pub journal : List Local
journal = at_length 0 opening_entries ++ at_length 2 (cut_full ∷ []) ++ at_length 12 (gone_entry ∷ [])

-- the whole run
abbrev pub trace : List Entry
trace = weave journal history

-- the thread has no call in its script, and ends; the worker makes its entries by turns
pub record ActInOrder : Type 0 where
  pub threads : ThreadsKeep setting ([] ∷ []) history
  pub worker : worker_along 0 (Some Free) history ≡ Some Over

-- CANCELLING
-- the script, without threads and workers: a work is created, queued and cancelled, and another created and queued
abbrev pub cancelling_within : ℕ → Setting
cancelling_within places = within 100 places (script_for 0 0 (
    (op.CreateAsyncWork (job.Sum 1) 1 0 0
    ∷ op.QueueAsyncWork 0
    ∷ op.CancelAsyncWork 0
    ∷ op.CreateAsyncWork (job.Sum 2) 1 0 1
    ∷ op.QueueAsyncWork 1
    ∷ [])
    ∷ []
    ∷ []
    ))

-- the entries up to the second queueing
abbrev pub queued_twice : List Entry
queued_twice =
    opening_entries
    ++ created
    ∷ queued 1
    ∷ shared_at 2 (call.CancelAsyncWork (work 1)) status.Ok
    ∷ second_created 3 2
    ∷ shared_making 4 (call.QueueAsyncWork (work 2)) status.Ok (work_duty 2)
    ∷ []

pub record IsStrict : Type 0 where
  -- with thirteen places the second work is not created, whatever its number; with fourteen it would be
  pub second : (n : ℕ) → IsRun setting (next_after 4 trace (second_created 2 n)) → ⊥
  pub room : IsRun (setting_within 14) (next_after 4 trace (second_created 2 2))
  -- with twelve the first is not queued, and the frame is cut there
  pub queued : IsRun (setting_within 12) (next_after 3 trace (queued 1)) → ⊥
  pub cut : IsRun (setting_within 12) (next_after 3 trace cut_full)
  -- five places are taken from the start. A cancelled work keeps two: so with sixteen another is queued, and with fifteen it is not
  pub cancelled : IsRun (cancelling_within 16) queued_twice
  pub kept : IsRun (cancelling_within 15) queued_twice → ⊥
