use Rattle.napi_types.proofs.hub.EarlyWorkers.{workers-end-after-the-drain}
use Rattle.napi_types.proofs.hub.ServingWorkers.{executing-workers-are-there}
use Rattle.napi_types.proofs.hub_laws.workers_end_after_the_drain.Goals as goal

pub returns-clause-early : goal.returns-clause-early
returns-clause-early c = workers-end-after-the-drain

pub returns-clause-executing : goal.returns-clause-executing
returns-clause-executing c = executing-workers-are-there
