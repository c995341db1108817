-- What tests need to know of threads and workers as a hub goes on.
use Rattle.std.specs.Prelude.{◌≡◌, []}
use Rattle.napi_types.specs.hub.Hub.{Hub}

-- how many threads and workers there are, which have ended, and which works are executed
pub record KeepsActors (old new : Hub) : Type 0 where
  pub threads : new.threads ≡ old.threads
  pub workers : new.workers ≡ old.workers
  pub ended_threads : new.ended_threads ≡ old.ended_threads
  pub ended_workers : new.ended_workers ≡ old.ended_workers
  pub executions : new.pool.executions ≡ old.pool.executions

-- the one worker that there is has not ended, and executes nothing
pub record IsWorkerFree (h : Hub) : Type 0 where
  pub one : h.workers ≡ 1
  pub there : h.ended_workers ≡ []
  pub free : h.pool.executions ≡ []
