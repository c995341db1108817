use Rattle.napi_types.proofs.all_runs.OncePlaces.{none-left}
use Rattle.napi_types.proofs.once_laws.no_place_is_left.Goals as goal

pub returns : goal.returns
returns c = none-left
