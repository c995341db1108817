use Rattle.napi_types.proofs.hub.ActorsGoOn.{workers-go-on, workers-stand}
use Rattle.napi_types.proofs.all_runs.WorkersStand.{workers-stand-as-the-hub-says}
use Rattle.napi_types.proofs.hub_laws.workers_go_on.Goals as goal

pub returns-clause-next : goal.returns-clause-next
returns-clause-next c = workers-go-on

pub returns-clause-others : goal.returns-clause-others
returns-clause-others c = workers-stand

pub returns-clause-hub : goal.returns-clause-hub
returns-clause-hub c = workers-stand-as-the-hub-says
