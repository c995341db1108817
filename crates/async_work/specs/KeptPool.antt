-- How the places, the queue and the list of what came out stand for the pool, and what holds of them.
use Rattle.std.specs.Prelude.{◌≡◌, ℕ, ◌+◌, ◌<◌, ◌≤◌, ◌^◌, ◌==◌, Bool, true, false, cond, List, [], map, length, count_by, Some, None, IfSome}
use Rattle.std.specs.List.{All}
use Rattle.generation_slab.specs.HeldPlaces.{HeldValue}
use Rattle.napi_types.specs.plain.Lists.{has_number}
use Rattle.napi_types.specs.parts.Pool.{WorkPool}
use Rattle.async_work.specs.WorkPlaces.{Placed, place_at, is_unqueued, works_of}
use Rattle.async_work.specs.Queue.{NumberedWork, EndedWorkSeen, outcome_of, is_done_in_queue, waiting_job, queue_work_at, queue_stage_at, queue_id_at, queued_at, runner_at, ended_at, waiting_works, executions}

abbrev pub pool_of : List (HeldValue Placed) → List ℕ → List NumberedWork → List EndedWorkSeen → Bool → WorkPool
pool_of places issued line finished closing = record {
  works = works_of places;
  issued = issued;
  numbered = length line;
  queued = waiting_works line;
  executions = executions line;
  finished = map outcome_of finished;
  closing = closing;
}

-- the work that stands in the queue under the number n stands at the place of its id, and the job that waits there computes what the work is to compute
pub record StandsInQueue (places : List (HeldValue Placed)) (n : ℕ) (e : NumberedWork) : Type 0 where
  pub place : Placed
  pub there : place_at places e.id ≡ Some place
  pub numbered : place.number ≡ Some n
  pub job : IfSome (waiting_job e.stage) (λ s. s ≡ place.spec)

-- a job that did not run computes what its work was to compute
abbrev pub KeepsJob : List (HeldValue Placed) → EndedWorkSeen → Type 0
KeepsJob places o = IfSome o.unspent (λ s. (id : ℕ) (p : Placed) → place_at places id ≡ Some p → p.number ≡ Some o.number → p.spec ≡ s)

-- a number is that of a work in the queue, which has this id as long as its completion has not begun
abbrev pub IsNumberOf : List NumberedWork → ℕ → ℕ → Type 0
IsNumberOf line id n = (n ≤ length line) × (is_done_in_queue (queue_stage_at line n) ≡ false → queue_id_at line n ≡ Some id)

-- places and queue name each other
pub record AreLinked (places : List (HeldValue Placed)) (line : List NumberedWork) : Type 0 where
  pub named : (id : ℕ) (p : Placed) → place_at places id ≡ Some p → IfSome p.number (λ n. IsNumberOf line id n)
  pub held : (id : ℕ) (p : Placed) → place_at places id ≡ Some p → p.number ≡ None → p.job ≡ Some p.spec
  pub placed : (n : ℕ) (e : NumberedWork) → queue_work_at line n ≡ Some e → is_done_in_queue e.stage ≡ false → StandsInQueue places n e

-- the id of each work was issued
abbrev pub HaveIssuedIds : List (HeldValue Placed) → List ℕ → Type 0
HaveIssuedIds places issued = (id : ℕ) (p : Placed) → place_at places id ≡ Some p → has_number id issued ≡ true

-- no worker executes two works, and none of the first works of the queue is still queued
pub record IsQueue (line : List NumberedWork) (first : ℕ) : Type 0 where
  pub apart : (n m worker : ℕ) → runner_at line n ≡ Some worker → runner_at line m ≡ Some worker → n ≡ m
  pub within : first ≤ length line
  pub passed : (n : ℕ) → n ≤ first → queued_at line n ≡ false

-- each work that has ended stands once in the list, with the job that it should have
pub record EndedOnce (places : List (HeldValue Placed)) (line : List NumberedWork) (finished : List EndedWorkSeen) : Type 0 where
  pub once : (n : ℕ) → count_by (λ o. o.number == n) finished ≡ cond (ended_at line n) 1 0
  pub told : All (KeepsJob places) finished

-- the counts, and there is room in the queue for each work that is not in it, and among those that have ended for each that has not
pub record PoolHasRoom (places : List (HeldValue Placed)) (issued : List ℕ) (line : List NumberedWork) (finished : List EndedWorkSeen)
    (created queued running spare finished_places : ℕ) : Type 0 where
  pub created_are : created ≡ count_by is_unqueued places
  pub queued_are : queued ≡ length (waiting_works line)
  pub running_are : running ≡ length (executions line)
  pub numbers : length line + created ≤ length issued
  pub few : length issued + 1 < 2 ^ 48
  pub queue_room : created ≤ spare
  pub finished_room : length finished + created + queued + running ≤ finished_places

pub record IsKeptPool (places : List (HeldValue Placed)) (issued : List ℕ) (line : List NumberedWork) (finished : List EndedWorkSeen)
    (first created queued running : ℕ)
    (closing : Bool) (spare finished_places : ℕ) : Type 0 where
  pub known : HaveIssuedIds places issued
  pub linked : AreLinked places line
  pub numbered_work : IsQueue line first
  pub ended_once : EndedOnce places line finished
  pub room : PoolHasRoom places issued line finished created queued running spare finished_places
  pub shut : closing ≡ true → waiting_works line ≡ []
