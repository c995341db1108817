use Rattle.napi_types.proofs.hub.Occupied.{others-occupy-no-less}
use Rattle.napi_types.proofs.hub_laws.others_occupy_no_less.Goals as goal

pub returns : goal.returns
returns c = others-occupy-no-less
