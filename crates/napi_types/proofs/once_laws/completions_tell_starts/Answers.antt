use Rattle.napi_types.proofs.all_runs.OncePlaces.{starts-told}
use Rattle.napi_types.proofs.once_laws.completions_tell_starts.Goals as goal

pub returns : goal.returns
returns c = starts-told
