use Rattle.napi_types.proofs.hub.ActorsGoOn.{threads-go-on, threads-stand}
use Rattle.napi_types.proofs.hub_laws.threads_go_on.Goals as goal

pub returns-clause-next : goal.returns-clause-next
returns-clause-next c = threads-go-on

pub returns-clause-others : goal.returns-clause-others
returns-clause-others c = threads-stand
