use Rattle.napi_types.proofs.all_runs.Scripts.{prefixes-keep}
use Rattle.napi_types.proofs.hub_laws.prefixes_keep_scripts.Goals as goal

pub returns : goal.returns
returns c = prefixes-keep
