use Rattle.napi_types.proofs.all_runs.OncePlaces.{each-once}
use Rattle.napi_types.proofs.laws.every_duty_is_once.Goals as goal

pub returns : goal.returns
returns c = each-once
