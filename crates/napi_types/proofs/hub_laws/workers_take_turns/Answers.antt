use Rattle.napi_types.proofs.hub.WorkerTurns.{workers-take-turns}
use Rattle.napi_types.proofs.hub_laws.workers_take_turns.Goals as goal

pub returns : goal.returns
returns c = workers-take-turns
