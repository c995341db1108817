use Rattle.napi_types.proofs.all_runs.OncePlaces.{each-place}
use Rattle.napi_types.proofs.once_laws.each_duty_has_one_place.Goals as goal

pub returns : goal.returns
returns c = each-place
