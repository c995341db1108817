-- Two works wait: they start in the order of queueing, and one worker executes one at a time.
use Rattle.std.specs.Prelude.{◌≡◌, ℕ, List, [], ◌∷◌, ◌++◌}
use Rattle.napi_types.specs.declared.call.Call.TheVariants as call
use Rattle.napi_types.specs.declared.call.JobSpec.TheVariants as job
use Rattle.napi_types.specs.declared.entry.Entry.{Entry}
use Rattle.napi_types.specs.declared.op.Op.TheVariants as op
use Rattle.napi_types.specs.declared.status.Status.TheVariants as status
use Rattle.napi_types.specs.runs.Setting.{Setting}
use Rattle.machine_laws.specs.HubWords.{script_for, next_after, work_duty, work, shared_making, work_created, worker_starts, worker_finishes}
use Rattle.machine_laws.specs.RunWords.{opening_entries}
use Rattle.machine_laws.specs.LegalRuns.{IsRun}

-- the script, for so many workers: two works are created and queued
abbrev pub setting_for : ℕ → Setting
setting_for workers = script_for 0 workers (
    (op.CreateAsyncWork (job.Sum 4) 1 0 0
    ∷ op.QueueAsyncWork 0
    ∷ op.CreateAsyncWork (job.Mix 1 1) 1 0 1
    ∷ op.QueueAsyncWork 1
    ∷ [])
    ∷ []
    ∷ []
    )

-- the entries up to the second queueing
abbrev pub prefix : List Entry
prefix =
    opening_entries
    ++ work_created 0 (call.CreateAsyncWork (job.Sum 4) 1 0) 1
    ∷ shared_making 1 (call.QueueAsyncWork (work 1)) status.Ok (work_duty 1)
    ∷ work_created 2 (call.CreateAsyncWork (job.Mix 1 1) 1 0) 2
    ∷ shared_making 3 (call.QueueAsyncWork (work 2)) status.Ok (work_duty 2)
    ∷ []

-- two workers execute both at once, and the one that started last finishes first; their values
abbrev pub both : List Entry
both = prefix ++ worker_starts 1 1 ∷ worker_starts 0 2 ∷ worker_finishes 0 7806831264735756412 ∷ worker_finishes 1 10 ∷ []

pub record IsStrict : Type 0 where
  pub both : IsRun (setting_for 2) both
  -- the work that was queued first starts first
  pub first : (n : ℕ) → IsRun (setting_for 2) (prefix ++ worker_starts 0 n ∷ []) → n ≡ 1
  -- a worker that executes one starts no other, ..
  pub twice : IsRun (setting_for 1) (prefix ++ worker_starts 0 1 ∷ worker_starts 0 2 ∷ []) → ⊥
  -- .. and finishes only the one that it executes
  pub other : (n : ℕ) → IsRun (setting_for 2) (prefix ++ worker_starts 0 1 ∷ worker_finishes 1 n ∷ []) → ⊥
  -- no call has a work's number that was issued before
  pub number : IsRun (setting_for 2) (next_after 4 prefix (work_created 2 (call.CreateAsyncWork (job.Mix 1 1) 1 0) 1)) → ⊥
