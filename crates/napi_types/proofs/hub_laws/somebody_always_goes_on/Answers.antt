use Rattle.napi_types.proofs.all_runs.Stillness.{somebody-always-goes-on}
use Rattle.napi_types.proofs.hub_laws.somebody_always_goes_on.Goals as goal

pub returns : goal.returns
returns c = somebody-always-goes-on
