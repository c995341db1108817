-- The run of an actor beside the environment, a thread's or a worker's, and its turns.
use Rattle.std.specs.Prelude.{◌≡◌, ◌<◌, true, Bool, List, ◌++◌, map}
use Rattle.std.specs.List.{range_with_len}
use Rattle.napi_types.specs.declared.entry.Actor.{Actor}
use Rattle.napi_types.specs.declared.entry.Actor.TheVariants as actor
use Rattle.napi_types.specs.hub.Waits.{worker_waits}
use Rattle.shared_hub.specs.HubStates.{HubSeen, hub_room}
use Rattle.shared_hub.specs.declared.naming.Numbers.{Numbers}
use Rattle.env_loop.specs.ActorRuns.{new_thread, new_worker, calls_left, IsThreadOf, SameThread, ThreadBlocked, StoppedAt, IsWorkerOf, IsHandsReady, IsUnexecuted, IsHandsFree, held_executed}
use Rattle.env_loop.specs.declared.actor.ActorRun.{ActorRun}
use Rattle.env_loop.specs.declared.actor.ActorRun.TheVariants as run
use Rattle.env_loop.specs.declared.actor.unstarted.UnstartedActor.{UnstartedActor}
use Rattle.env_loop.specs.declared.actor.unstarted.UnstartedActor.TheVariants as idle

-- the environment, or one of the threads or of the workers
abbrev pub IsActorAt : Numbers → Actor → Type 0
IsActorAt n actor.Env = Unit {0}
IsActorAt n (actor.Thread t) = t < n.threads
IsActorAt n (actor.Worker w) = w < n.workers

-- the threads rising, and then the workers rising
abbrev pub actors_of : Numbers → List Actor
actors_of n = map (λ t. actor.Thread t) (range_with_len 0 n.threads) ++ map (λ w. actor.Worker w) (range_with_len 0 n.workers)

module _ {J : Type 0} where
  -- who it is, and whether it has ended
  abbrev pub actor_of : ActorRun J → Actor
  actor_of (run.OfThread t) = actor.Thread t.number
  actor_of (run.OfWorker w) = actor.Worker w.number

  abbrev pub is_over : ActorRun J → Bool
  is_over (run.OfThread t) = t.over
  is_over (run.OfWorker w) = w.over

  -- it is one of the hub's, whose history has exactly the entries that it made
  abbrev pub IsActorOf : Numbers → HubSeen → ActorRun J → Type 0
  IsActorOf n s (run.OfThread t) = IsThreadOf n s t
  IsActorOf n s (run.OfWorker w) = IsWorkerOf n s w

  -- no work that it started is still to be executed
  abbrev pub IsReady : ActorRun J → Type 0
  IsReady (run.OfThread t) = Unit {0}
  IsReady (run.OfWorker w) = IsHandsReady w.held

  -- it holds no work that is executed: what it has just started it executes later
  abbrev pub HoldsNoneExecuted : ActorRun J → Type 0
  HoldsNoneExecuted (run.OfThread t) = Unit {0}
  HoldsNoneExecuted (run.OfWorker w) = IsUnexecuted w.held

  -- it holds no work
  abbrev pub HoldsNoWork : ActorRun J → Type 0
  HoldsNoWork (run.OfThread t) = Unit {0}
  HoldsNoWork (run.OfWorker w) = IsHandsFree w.held

  -- with the work executed that it started, where it started one
  abbrev pub with_work_executed : ActorRun J → ActorRun J
  with_work_executed (run.OfThread t) = run.OfThread t
  with_work_executed (run.OfWorker w) = run.OfWorker (record w { held = held_executed w.held })

  -- it is the same thread with the same script, or the same worker
  abbrev pub IsSameActor : ActorRun J → ActorRun J → Type 0
  IsSameActor (run.OfThread old) (run.OfThread new) = SameThread old new
  IsSameActor (run.OfWorker old) (run.OfWorker new) = new.number ≡ old.number
  IsSameActor _ _ = ⊥

  -- it waits: a thread for `go` or at its next call, and a worker for a work or for the drain
  abbrev pub IsBlocked : Numbers → HubSeen → ActorRun J → Type 0
  IsBlocked n s (run.OfThread t) = ThreadBlocked (hub_room n s) s.hub t
  IsBlocked n s (run.OfWorker w) = worker_waits s.hub w.number ≡ true

  -- a thread that has ended was stopped at the call that was left before, if one was; a worker makes no calls
  abbrev pub StoppedSo : Numbers → HubSeen → ActorRun J → Type 0
  StoppedSo n s (run.OfThread t) = StoppedAt (hub_room n s) s.hub t.number (calls_left t)
  StoppedSo n s (run.OfWorker w) = Unit {0}

  -- no turn of it was made
  abbrev pub IsUnstartedActor : ActorRun J → Type 0
  IsUnstartedActor (run.OfThread t) = t ≡ new_thread t.number t.operations
  IsUnstartedActor (run.OfWorker w) = w ≡ new_worker w.number

  -- the run of an actor, before its first turn
  abbrev pub unstarted_run : UnstartedActor → ActorRun J
  unstarted_run (idle.Thread t) = run.OfThread t
  unstarted_run (idle.Worker w) = run.OfWorker (new_worker w)
