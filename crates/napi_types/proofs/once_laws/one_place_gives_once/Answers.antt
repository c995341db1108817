use Rattle.napi_types.proofs.all_runs.OncePlaces.{place-gives-once}
use Rattle.napi_types.proofs.once_laws.one_place_gives_once.Goals as goal

pub returns : goal.returns
returns c = place-gives-once
