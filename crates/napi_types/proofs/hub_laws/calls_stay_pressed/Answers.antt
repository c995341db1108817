use Rattle.napi_types.proofs.hub.Occupied.{calls-stay-pressed}
use Rattle.napi_types.proofs.hub_laws.calls_stay_pressed.Goals as goal

pub returns : goal.returns
returns c = calls-stay-pressed
