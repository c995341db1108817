use Rattle.napi_types.proofs.all_runs.WorkerEnds.{workers-finish}
use Rattle.napi_types.proofs.once_laws.workers_finish_what_they_start.Goals as goal

pub returns : goal.returns
returns c = workers-finish
