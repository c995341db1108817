-- Asynchronous works (the manual's `napi_async_work`), and how far each may have come.
use Rattle.std.specs.Prelude.{ℕ, ◌==◌, Bool, true, false, Option, Some, None}
use Rattle.napi_types.specs.declared.call.JobSpec.{JobSpec}
use Rattle.napi_types.specs.declared.status.Status.{Status}
use Rattle.napi_types.specs.declared.status.Status.TheVariants as status

-- a work: its id, what it computes, the addon and the entry of its completion and the payload that this is given, and its number in the order of queueing,
-- which names its duty; none until it is queued
pub record Work : Type 0 where
  pub id : ℕ
  pub spec : JobSpec
  pub addon : ℕ
  pub entry : ℕ
  pub payload : ℕ
  pub number : Option ℕ

-- how far a work has come: it is completed from the moment its completion begins
pub data WorkState : Type 0 where
  Created : WorkState
  Queued : WorkState
  Running : WorkState
  Finished : WorkState
  Completed : WorkState

abbrev pub is_created : WorkState → Bool
is_created Created = true
is_created _ = false

abbrev pub is_queued : WorkState → Bool
is_queued Queued = true
is_queued _ = false

-- a work may be deleted before it is queued, and once it is completed
abbrev pub is_deletable : WorkState → Bool
is_deletable Created = true
is_deletable Completed = true
is_deletable _ = false

-- a worker that executes the work of this number
pub record Execution : Type 0 where
  pub worker : ℕ
  pub work : ℕ

-- how the work of this number ended: its status, and its value
pub record Outcome : Type 0 where
  pub work : ℕ
  pub status : Status
  pub value : ℕ

-- one that was cancelled before it started
abbrev pub cancelled_outcome : ℕ → Outcome
cancelled_outcome n = record { work = n; status = status.Cancelled; value = 0 }

abbrev pub is_cancelled : Status → Bool
is_cancelled status.Cancelled = true
is_cancelled _ = false

-- the number is this one
abbrev pub is_this_number : ℕ → Option ℕ → Bool
is_this_number n None = false
is_this_number n (Some m) = m == n

-- a work was queued under this number
abbrev pub has_work_number : ℕ → Work → Bool
has_work_number n w = is_this_number n w.number
