use Rattle.napi_types.proofs.all_runs.Scripts.{scripts-stay}
use Rattle.napi_types.proofs.hub_laws.scripts_stay_as_others_go_on.Goals as goal

pub returns : goal.returns
returns c = scripts-stay
