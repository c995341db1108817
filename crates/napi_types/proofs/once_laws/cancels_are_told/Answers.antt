use Rattle.napi_types.proofs.all_runs.NamedWorks.{cancels-told}
use Rattle.napi_types.proofs.once_laws.cancels_are_told.Goals as goal

pub returns : goal.returns
returns c = cancels-told
