-- The pool of asynchronous works: those that there are, those that wait for a worker, those that run, and those that are finished.
use Rattle.std.specs.Prelude.{ℕ, ◌+◌, ◌==◌, Bool, true, false, not, cond, List, [], ◌∷◌, ◌++◌, map, filter, find, Option, Some, None, option_map}
use Rattle.std.specs.Option.{option_and_then, option_map_or}
use Rattle.napi_types.specs.declared.call.JobSpec.{JobSpec}
use Rattle.napi_types.specs.declared.duties.DueInfo.{DueInfo}
use Rattle.napi_types.specs.declared.entry.Cause.TheVariants as cause
use Rattle.napi_types.specs.declared.entry.Duty.TheVariants as duty
use Rattle.napi_types.specs.declared.status.Status.{Status}
use Rattle.napi_types.specs.declared.status.Status.TheVariants as status
use Rattle.napi_types.specs.plain.Lists.{found, has, has_number, with_record, with_number, singleton, head, tail, unless}
use Rattle.napi_types.specs.plain.Numbers.{status_number}
use Rattle.napi_types.specs.parts.Jobs.{job_value}
use Rattle.napi_types.specs.parts.Works.{Work, WorkState, Created, Queued, Running, Finished, Completed, Execution, Outcome, cancelled_outcome, has_work_number}

pub record WorkPool : Type 0 where
  -- the works that were created and not deleted, and all ids that were issued, both as finite maps
  pub works : List Work
  pub issued : List ℕ
  -- how many works were queued so far: numbers count from 1 in the order of queueing
  pub numbered : ℕ
  -- the numbers of the works that wait for a worker, the first to start first
  pub queued : List ℕ
  -- which worker executes which work, as a finite map by the worker
  pub executions : List Execution
  -- those that have ended and whose completion has not begun, in the order of finishing
  pub finished : List Outcome
  -- whether no work starts any more
  pub closing : Bool

-- before the first work is created
abbrev pub new_pool : WorkPool
new_pool = record { works = []; issued = []; numbered = 0; queued = []; executions = []; finished = []; closing = false }

-- WHAT IS THERE
-- the work of an id, and that of a number
abbrev pub work_at : WorkPool → ℕ → Option Work
work_at p id = found (λ w. w.id) id p.works

abbrev pub work_numbered : WorkPool → ℕ → Option Work
work_numbered p n = find (has_work_number n) p.works

-- the number under which the work of an id was queued, where it was
abbrev pub number_of_work : WorkPool → ℕ → Option ℕ
number_of_work p id = option_and_then (λ w. w.number) (work_at p id)

-- the number of the work that a worker executes, where it executes one
abbrev pub executed_by : WorkPool → ℕ → Option ℕ
executed_by p worker = option_map (λ x. x.work) (found (λ x. x.worker) worker p.executions)

-- a work's state is where its number stands
abbrev pub standing_at : WorkPool → ℕ → WorkState
standing_at p n =
    cond (has_number n p.queued) Queued (cond (has (λ x. x.work) n p.executions) Running (cond (has (λ o. o.work) n p.finished) Finished Completed))

-- one without a number was created and not queued yet
abbrev pub work_state : WorkPool → Work → WorkState
work_state p w = option_map_or (standing_at p) w.number Created

-- REFUSALS
-- a call on a work, where one is there: refused with 9 unless its state passes the test
abbrev pub state_refusal : (WorkState → Bool) → WorkPool → Option Work → Option Status
state_refusal test p None = Some status.InvalidArg
state_refusal test p (Some w) = unless (test (work_state p w)) status.GenericFailure

-- it is refused with 1 where no work has the id
abbrev pub work_refusal : (WorkState → Bool) → WorkPool → ℕ → Option Status
work_refusal test p id = state_refusal test p (work_at p id)

-- CALLS
-- one work more, of this id
abbrev pub with_work : ℕ → JobSpec → ℕ → ℕ → ℕ → WorkPool → WorkPool
with_work id spec addon entry payload p = record p {
  works = with_record (λ w. w.id) (record { id = id; spec = spec; addon = addon; entry = entry; payload = payload; number = None }) p.works;
  issued = with_number id p.issued;
}

-- without the work of this id
abbrev pub without_work : ℕ → WorkPool → WorkPool
without_work id p = record p { works = filter (λ w. not (w.id == id)) p.works }

-- the number of the work that is queued next
abbrev pub new_number : WorkPool → ℕ
new_number p = p.numbered + 1

-- the work of this id waits, behind all others that wait
abbrev pub with_queued : ℕ → WorkPool → WorkPool
with_queued id p = record p {
  works = map (λ (w : Work). cond (w.id == id) (record w { number = Some (new_number p) }) w) p.works;
  numbered = new_number p;
  queued = p.queued ++ singleton (new_number p);
}

-- the work of this number no longer waits: it is the last of the finished ones, and will never start
abbrev pub cancelled_at : Option ℕ → WorkPool → WorkPool
cancelled_at None p = p
cancelled_at (Some n) p = record p { queued = filter (λ m. not (m == n)) p.queued; finished = p.finished ++ singleton (cancelled_outcome n) }

-- the same of the work of this id
abbrev pub with_cancelled : ℕ → WorkPool → WorkPool
with_cancelled id p = cancelled_at (number_of_work p id) p

-- WORKERS
-- a worker executes the work of this number
abbrev pub with_execution : ℕ → ℕ → WorkPool → WorkPool
with_execution worker n p = record p { executions = with_record (λ x. x.worker) (record { worker = worker; work = n }) p.executions }

-- a worker starts the first of the works that wait; where none waits, nothing changes
abbrev pub started_from : List ℕ → ℕ → WorkPool → WorkPool
started_from [] worker p = p
started_from (n ∷ ns) worker p = with_execution worker n (record p { queued = ns })

abbrev pub with_started : ℕ → WorkPool → WorkPool
with_started worker p = started_from p.queued worker p

-- the value that the work of this number computes
abbrev pub value_of_work : WorkPool → ℕ → ℕ
value_of_work p n = option_map_or (λ w. job_value w.spec) (work_numbered p n) 0

-- a worker no longer executes a work, which is the last of the finished ones
abbrev pub finished_at : ℕ → Option ℕ → WorkPool → WorkPool
finished_at worker None p = p
finished_at worker (Some n) p = record p {
  executions = filter (λ x. not (x.worker == worker)) p.executions;
  finished = p.finished ++ singleton (record { work = n; status = status.Ok; value = value_of_work p n });
}

-- a worker finishes the work that it executes
abbrev pub with_finished : ℕ → WorkPool → WorkPool
with_finished worker p = finished_at worker (executed_by p worker) p

-- COMPLETION, AND THE END
-- what the completion of a work that ended so tells as it begins: its status, its value, and the payload
abbrev pub completion_info : Work → Outcome → DueInfo
completion_info w o = record {
  duty = duty.Work o.work;
  cause = cause.Complete;
  addon = w.addon;
  entry = w.entry;
  status = o.status;
  gifts = status_number o.status ∷ o.value ∷ w.payload ∷ 0 ∷ 0 ∷ 0 ∷ 0 ∷ 0 ∷ [];
  runs = true;
}

-- that of the work that finished first, where one is finished
abbrev pub first_completion : WorkPool → Option DueInfo
first_completion p = option_and_then (λ o. option_map (λ w. completion_info w o) (work_numbered p o.work)) (head p.finished)

-- it begins
abbrev pub with_completed : WorkPool → WorkPool
with_completed p = record p { finished = tail p.finished }

-- no work starts any more, and those that wait are cancelled in their order
abbrev pub drained : WorkPool → WorkPool
drained p = record p { queued = []; finished = p.finished ++ map cancelled_outcome p.queued; closing = true }
