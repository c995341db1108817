use Rattle.napi_types.proofs.all_runs.Joining.{others-join}
use Rattle.napi_types.proofs.hub_laws.others_join.Goals as goal

pub returns : goal.returns
returns c = others-join
