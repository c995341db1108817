use Rattle.napi_types.proofs.all_runs.LedHubs.{prefixes-join}
use Rattle.napi_types.proofs.hub_laws.prefixes_join.Goals as goal

pub returns : goal.returns
returns c = prefixes-join
