use Rattle.napi_types.proofs.hub.OthersKeep.{others-keep-hub}
use Rattle.napi_types.proofs.hub_laws.others_keep_the_hub.Goals as goal

pub returns : goal.returns
returns c = others-keep-hub
