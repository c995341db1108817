use Rattle.napi_types.proofs.hub.ClosingPools.{pools-close-at-the-drain}
use Rattle.napi_types.proofs.hub_laws.pools_close_at_the_drain.Goals as goal

pub returns : goal.returns
returns c = pools-close-at-the-drain
