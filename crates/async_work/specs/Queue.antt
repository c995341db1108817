-- The works that were queued, by their numbers. A job is seen as what it computes.
use Rattle.std.specs.Prelude.{ℕ, zero, suc, ◌-◌, Bool, true, false, List, ◌∷◌, map, Option, Some, None, is_some, option_map, slice_index_or, slice_set}
use Rattle.std.specs.Option.{option_map_or}
use Rattle.napi_types.specs.declared.call.JobSpec.{JobSpec}
use Rattle.napi_types.specs.declared.status.Status.{Status}
use Rattle.napi_types.specs.declared.status.Status.TheVariants as status
use Rattle.napi_types.specs.plain.Lists.{as_map}
use Rattle.napi_types.specs.parts.Works.{WorkState, Queued, Running, Finished, Completed, Execution, Outcome}
use Rattle.napi_types.specs.plain.Counted.{element, listed}
use Rattle.async_work.specs.declared.queue.Ending.{Ending}
use Rattle.async_work.specs.declared.queue.Ending.TheVariants as ending
use Rattle.async_work.specs.declared.queue.Numbered.{Numbered}
use Rattle.async_work.specs.declared.queue.EndedWork as code
use Rattle.async_work.specs.declared.queue.WorkStage.{WorkStage}
use Rattle.async_work.specs.declared.queue.WorkStage.TheVariants as stage

-- how far a work that was queued has come: it is still queued with a job that computes this, a worker runs it, it has ended, or its completion has begun
pub data QueueStage : Type 0 where
  StillQueued : JobSpec → QueueStage
  Runs : ℕ → QueueStage
  Ended : QueueStage
  Done : QueueStage

-- the id of a work, 0 once its completion has begun, and how far it has come
pub record NumberedWork : Type 0 where
  pub id : ℕ
  pub stage : QueueStage

-- all works that were queued, each at the place of its number less one, and for how many more there is room
pub record QueueSeen : Type 0 where
  pub works : List NumberedWork
  pub room : ℕ

-- a work of this id that has come so far
abbrev pub numbered_work : ℕ → QueueStage → NumberedWork
numbered_work id Done = record { id = 0; stage = Done }
numbered_work id s = record { id = id; stage = s }

-- a queue behind so many works whose completion has begun
abbrev pub behind : ℕ → List NumberedWork → List NumberedWork
behind zero line = line
behind (suc n) line = numbered_work 0 Done ∷ behind n line

-- a work that has ended: its number, what its job computes, where that did not run, and its value
pub record EndedWorkSeen : Type 0 where
  pub number : ℕ
  pub unspent : Option JobSpec
  pub value : ℕ

module _ {J : Type 0} (spec : J → JobSpec) where
  abbrev pub stage_seen : WorkStage J → QueueStage
  stage_seen (stage.Queued job slip) = StillQueued (spec job)
  stage_seen (stage.Running worker slip) = Runs worker
  stage_seen stage.Finished = Ended
  stage_seen stage.Completed = Done

  abbrev pub entry_seen : Numbered J → NumberedWork
  entry_seen n = numbered_work n.id (stage_seen n.stage)

  -- where so many works in front are no longer kept
  abbrev pub queue_seen : ℕ → List (Numbered J) → List NumberedWork
  queue_seen dropped line = behind dropped (map entry_seen line)

  abbrev pub ending_job : Ending J → Option JobSpec
  ending_job (ending.Ran value) = None
  ending_job (ending.Cancelled job) = Some (spec job)

  abbrev pub ending_value : Ending J → ℕ
  ending_value (ending.Ran value) = value
  ending_value (ending.Cancelled job) = 0

  abbrev pub outcome_seen : code.EndedWork J → EndedWorkSeen
  outcome_seen o = record { number = o.number; unspent = ending_job o.ending; value = ending_value o.ending }

  abbrev pub outcomes_seen : List (code.EndedWork J) → List EndedWorkSeen
  outcomes_seen outcomes = map outcome_seen outcomes

abbrev pub ran_outcome : ℕ → ℕ → EndedWorkSeen
ran_outcome n value = record { number = n; unspent = None; value = value }

abbrev pub unstarted_outcome : ℕ → Option JobSpec → EndedWorkSeen
unstarted_outcome n job = record { number = n; unspent = job; value = 0 }

-- a work whose job did not run was cancelled
abbrev pub outcome_status : Option JobSpec → Status
outcome_status None = status.Ok
outcome_status (Some spec) = status.Cancelled

abbrev pub outcome_of : EndedWorkSeen → Outcome
outcome_of o = record { work = o.number; status = outcome_status o.unspent; value = o.value }

-- STAGES
abbrev pub waiting_job : QueueStage → Option JobSpec
waiting_job (StillQueued spec) = Some spec
waiting_job _ = None

abbrev pub runner : QueueStage → Option ℕ
runner (Runs worker) = Some worker
runner _ = None

abbrev pub has_ended : QueueStage → Bool
has_ended Ended = true
has_ended _ = false

abbrev pub is_done_in_queue : QueueStage → Bool
is_done_in_queue Done = true
is_done_in_queue _ = false

abbrev pub stage_state : QueueStage → WorkState
stage_state (StillQueued spec) = Queued
stage_state (Runs worker) = Running
stage_state Ended = Finished
stage_state Done = Completed

abbrev pub with_stage : QueueStage → NumberedWork → NumberedWork
with_stage s e = numbered_work e.id s

-- THE LINE
-- the work of a number
abbrev pub queue_work_at : List NumberedWork → ℕ → Option NumberedWork
queue_work_at line n = element line n

abbrev pub queue_stage_at : List NumberedWork → ℕ → QueueStage
queue_stage_at line n = option_map_or (λ (e : NumberedWork). e.stage) (queue_work_at line n) Done

abbrev pub queue_id_at : List NumberedWork → ℕ → Option ℕ
queue_id_at line n = option_map (λ (e : NumberedWork). e.id) (queue_work_at line n)

-- the work of a number has come so far
abbrev pub with_stage_at : ℕ → QueueStage → List NumberedWork → List NumberedWork
with_stage_at n s line = slice_set line (n - 1) (with_stage s (slice_index_or line (n - 1) (numbered_work 0 Done)))

-- it waits for a worker
abbrev pub queued_at : List NumberedWork → ℕ → Bool
queued_at line n = is_some (waiting_job (queue_stage_at line n))

-- the worker that executes it
abbrev pub runner_at : List NumberedWork → ℕ → Option ℕ
runner_at line n = runner (queue_stage_at line n)

-- it has ended, and its completion has not begun
abbrev pub ended_at : List NumberedWork → ℕ → Bool
ended_at line n = has_ended (queue_stage_at line n)

-- the numbers of those that wait
abbrev pub listed_number : ℕ → NumberedWork → Option ℕ
listed_number n e = option_map (λ _. n) (waiting_job e.stage)

abbrev pub waiting_works : List NumberedWork → List ℕ
waiting_works line = listed listed_number 1 line

-- which worker executes which of them, as a finite map by the worker
abbrev pub listed_execution : ℕ → NumberedWork → Option Execution
listed_execution n e = option_map (λ worker. record { worker = worker; work = n }) (runner e.stage)

abbrev pub executions_listed : List NumberedWork → List Execution
executions_listed line = listed listed_execution 1 line

abbrev pub executions : List NumberedWork → List Execution
executions line = as_map (λ x. x.worker) (executions_listed line)
