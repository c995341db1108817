use Rattle.napi_types.proofs.hub.GrowingHistories.{prefixes-replay}
use Rattle.napi_types.proofs.hub_laws.prefixes_replay.Goals as goal

pub returns : goal.returns
returns c = prefixes-replay
