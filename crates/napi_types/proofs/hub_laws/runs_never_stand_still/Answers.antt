use Rattle.napi_types.proofs.all_runs.Stillness.{runs-never-stand-still}
use Rattle.napi_types.proofs.hub_laws.runs_never_stand_still.Goals as goal

pub returns : goal.returns
returns c = runs-never-stand-still
