-- The threads and the workers of a script: how many there may be, how they begin, and what they have done at the end of a run.
use Rattle.std.specs.Prelude.{◌≡◌, ℕ, ◌+◌, ◌≤◌, List, [], ◌∷◌, length, map, Option, Some, None, IfSome}
use Rattle.std.specs.List.{All, range_with_len}
use Rattle.napi_types.specs.declared.entry.Actor.{Actor}
use Rattle.napi_types.specs.declared.entry.Entry.{Entry}
use Rattle.napi_types.specs.declared.op.Op.{Op}
use Rattle.napi_types.specs.hub.Actors.{thread_calls, left_along}
use Rattle.napi_types.specs.runs.Setting.{Setting}
use Rattle.napi_types.specs.all_runs.HubLaws.{KeepsScript}
use Rattle.env_loop.specs.ActorRuns.{IsOperationOfThread, new_thread, new_worker}
use Rattle.env_loop.specs.declared.actor.ActorRun.{ActorRun}
use Rattle.env_loop.specs.declared.actor.ActorRun.TheVariants as run
use Rattle.env_loop.specs.ActorTurns.{IsActorAt}
use Rattle.script_run.specs.Loading.{hub_numbers}

-- the operations of a thread, at most 16,384, are of the three kinds that threads make
pub record IsThreadScript (operations : List Op) : Type 0 where
  pub few : length operations ≤ 16384
  pub kinds : All IsOperationOfThread operations

-- there are at most 16 threads and 8 workers, and each word of the schedule is the environment or one of them
pub record AreActors (threads : List (List Op)) (workers : ℕ) (schedule : Option (List Actor)) : Type 0 where
  pub threads_few : length threads ≤ 16
  pub scripts : All IsThreadScript threads
  pub workers_few : workers ≤ 8
  pub words : IfSome schedule (All (IsActorAt (hub_numbers (length threads) workers)))

module _ {J : Type 0} where
  -- the runs of threads with these operations, from this number on, before their first turns
  abbrev pub thread_runs : ℕ → List (List Op) → List (ActorRun J)
  thread_runs t [] = []
  thread_runs t (operations ∷ later) = run.OfThread (new_thread t operations) ∷ thread_runs (t + 1) later

  -- those of so many workers
  abbrev pub worker_runs : ℕ → List (ActorRun J)
  worker_runs workers = map (λ w. run.OfWorker (new_worker w)) (range_with_len 0 workers)

-- the entries of a thread in a history are the calls of its script, in their order, each once, and then its end
pub record MadeItsScript (s : Setting) (t : ℕ) (operations : List Op) (history : List Entry) : Type 0 where
  pub keeps : KeepsScript s t operations history
  pub ended : left_along t (Some (thread_calls operations)) history ≡ None
