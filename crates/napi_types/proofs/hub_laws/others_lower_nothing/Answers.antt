use Rattle.napi_types.proofs.hub.OthersLower.{others-lower-nothing}
use Rattle.napi_types.proofs.hub_laws.others_lower_nothing.Goals as goal

pub returns : goal.returns
returns c = others-lower-nothing
