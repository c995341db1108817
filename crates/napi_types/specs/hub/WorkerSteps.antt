-- The hub's step at an entry of a worker: the start of a work, its finish, or the worker's end.
use Rattle.std.specs.Prelude.{ℕ, Bool, not, ◌&&◌, List, [], ◌∷◌, Option, Some, None, is_none}
use Rattle.napi_types.specs.declared.entry.Actor.TheVariants as actor
use Rattle.napi_types.specs.declared.entry.Duty.TheVariants as duty
use Rattle.napi_types.specs.declared.entry.Entry.{Entry}
use Rattle.napi_types.specs.declared.entry.HostStep.{HostStep}
use Rattle.napi_types.specs.declared.entry.HostStep.TheVariants as host
use Rattle.napi_types.specs.declared.entry.Out.TheVariants as out
use Rattle.napi_types.specs.declared.entry.What.{What}
use Rattle.napi_types.specs.declared.entry.What.TheVariants as what
use Rattle.napi_types.specs.plain.Lists.{has_number, with_number}
use Rattle.napi_types.specs.parts.Pool.{executed_by, value_of_work, with_started, with_finished}
use Rattle.napi_types.specs.hub.Hub.{Hub, workers_left}
use Rattle.napi_types.specs.hub.HubMoves.{in_pool}
use Rattle.napi_types.specs.hub.HubStep.{HubStep, no_hub_step, actor_told}

abbrev pub is_worker_there : Hub → ℕ → Bool
is_worker_there h w = has_number w (workers_left h)

-- a worker that runs nothing starts the work that waits first, unless the pool is closing
abbrev pub start_step : Hub → ℕ → Entry → List ℕ → HubStep
start_step h w x [] = no_hub_step h x
start_step h w x (n ∷ later) = record {
  entry = actor_told (actor.Worker w) host.Start (out.Duty (duty.Work n));
  after = in_pool (with_started w) h;
  may = is_worker_there h w && not h.pool.closing && is_none (executed_by h.pool w);
}

-- it finishes the work that it runs, with the value of the work's job
abbrev pub work_end_step : Hub → ℕ → Entry → Option ℕ → HubStep
work_end_step h w x None = no_hub_step h x
work_end_step h w x (Some n) = record {
  entry = actor_told (actor.Worker w) host.Finish (out.Unsigned (value_of_work h.pool n));
  after = in_pool (with_finished w) h;
  may = is_worker_there h w;
}

-- it ends once the pool is closing, where it runs nothing
abbrev pub worker_event : Hub → ℕ → Entry → HostStep → HubStep
worker_event h w x host.Start = start_step h w x h.pool.queued
worker_event h w x host.Finish = work_end_step h w x (executed_by h.pool w)
worker_event h w x host.ActorEnd = record {
  entry = actor_told (actor.Worker w) host.ActorEnd out.Nothing;
  after = record h { ended_workers = with_number w h.ended_workers };
  may = is_worker_there h w && h.pool.closing && is_none (executed_by h.pool w);
}
worker_event h w x _ = no_hub_step h x

abbrev pub worker_step : Hub → ℕ → Entry → What → HubStep
worker_step h w x (what.Call c) = no_hub_step h x
worker_step h w x (what.Host event) = worker_event h w x event
