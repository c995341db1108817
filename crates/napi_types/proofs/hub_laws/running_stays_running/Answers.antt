use Rattle.napi_types.proofs.hub.RunningWorks.{running-stays-running}
use Rattle.napi_types.proofs.hub_laws.running_stays_running.Goals as goal

pub returns : goal.returns
returns c = running-stays-running
