use Rattle.napi_types.proofs.all_runs.Keeping.{kept-run}
use Rattle.napi_types.proofs.laws.collections_keep_what_is_reached.Goals as goal

pub returns : goal.returns
returns c = kept-run
