use Rattle.napi_types.proofs.hub.HubBounds.{hubs-are-within}
use Rattle.napi_types.proofs.hub_laws.hubs_are_within.Goals as goal

pub returns : goal.returns
returns c = hubs-are-within
