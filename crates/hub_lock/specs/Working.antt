-- What workers do at the lock, and how actors end there.
use Rattle.std.specs.Prelude.{◌≡◌, ℕ, ◌+◌, ◌-◌, ◌<◌, ◌≤◌, true, List, map, Some}
use Rattle.napi_types.specs.declared.entry.Actor.TheVariants as actor
use Rattle.napi_types.specs.declared.entry.Duty.TheVariants as duty
use Rattle.napi_types.specs.declared.entry.Entry.{Entry}
use Rattle.napi_types.specs.declared.entry.HostStep.TheVariants as host
use Rattle.napi_types.specs.declared.entry.Out.TheVariants as out
use Rattle.napi_types.specs.parts.Jobs.{job_value}
use Rattle.napi_types.specs.parts.Pool.{executed_by, value_of_work}
use Rattle.napi_types.specs.hub.Actors.{WorkerState, Free, worker_along}
use Rattle.napi_types.specs.hub.Hub.{Hub}
use Rattle.napi_types.specs.hub.HubStep.{actor_told}
use Rattle.turn_lock.specs.Passes.{PassState}
use Rattle.async_work.specs.declared.pool.Picked.{Picked}
use Rattle.async_work.specs.declared.pool.Picked.TheVariants as picked
use Rattle.shared_hub.specs.declared.naming.Numbers.{Numbers}
use Rattle.shared_hub.specs.HubRows.{rows_of}
use Rattle.shared_hub.specs.HubStates.{HubSeen, AddsEntry, led_by}
use Rattle.hub_lock.specs.SeenTurns.{Looked, Anything, Added}

-- WORKERS
-- the pass of a worker: the workers have the numbers behind those of the threads
abbrev pub IsOfWorker : Numbers → PassState → Type 0
IsOfWorker n p = (n.threads < p.number) × (p.number ≤ n.threads + n.workers)

-- the worker that has the pass of a number
abbrev pub worker_of : Numbers → ℕ → ℕ
worker_of n number = number - (1 + n.threads)

-- where a worker stands by its own rows
abbrev pub StandsAs : Numbers → WorkerState → PassState → Type 0
StandsAs n state p = worker_along (worker_of n p.number) (Some Free) (map (λ r. r.entry) p.own) ≡ Some state

-- of the hub to which that has led what the pass has seen
pub record HasSeenThat (n : Numbers) (p : PassState) (Shows : Hub → Type 0) : Type 0 where
  pub history : List Entry
  pub rows : p.seen ≡ rows_of n.threads history
  pub shows : Shows (led_by n history)

-- a worker executes the work of this number at the hub, whose value this is
abbrev pub Executes : ℕ → ℕ → ℕ → Hub → Type 0
Executes w number value h = (executed_by h.pool w ≡ Some number) × (value ≡ value_of_work h.pool number)

-- the worker that has the pass was seen to execute it
abbrev pub IsAtWork : Numbers → PassState → ℕ → ℕ → Type 0
IsAtWork n p number value = HasSeenThat n p (Executes (worker_of n p.number) number value)

abbrev pub start_entry : ℕ → ℕ → Entry
start_entry w number = actor_told (actor.Worker w) host.Start (out.Duty (duty.Work number))

abbrev pub finish_entry : ℕ → ℕ → Entry
finish_entry w value = actor_told (actor.Worker w) host.Finish (out.Unsigned value)

abbrev pub IsClosing : HubSeen → Type 0
IsClosing s = s.hub.pool.closing ≡ true

module _ {J : Type 0} where
  -- a start at the hub
  abbrev pub AfterStart : ℕ → HubSeen → Picked J → HubSeen → Type 0
  AfterStart w old (picked.Job t) new = AddsEntry old (start_entry w t.number) new × Executes w t.number (job_value t.spec) new.hub
  AfterStart w old picked.Nothing new = new ≡ old
  AfterStart w old picked.Closing new = (new ≡ old) × IsClosing new

  -- one turn of a start at the lock
  abbrev pub TriedStart : Numbers → PassState → Picked J → PassState → Type 0
  TriedStart n old (picked.Job t) new = Added n old new (start_entry (worker_of n old.number) t.number) × IsAtWork n new t.number (job_value t.spec)
  TriedStart n old picked.Nothing new = Looked n old new Anything
  TriedStart n old picked.Closing new = Looked n old new IsClosing

  -- all of it, which never answers that there is nothing
  abbrev pub Started : Numbers → PassState → Picked J → PassState → Type 0
  Started n old picked.Nothing new = ⊥
  Started n old r new = TriedStart n old r new
