use Rattle.napi_types.proofs.hub.CallsAfterTheDrain.{no-call-waits}
use Rattle.napi_types.proofs.hub_laws.no_call_waits_from_the_drain_on.Goals as goal

pub returns : goal.returns
returns c = no-call-waits
