use Rattle.napi_types.proofs.all_runs.NoRefusals.{no-refusal-accepts}
use Rattle.napi_types.proofs.once_laws.no_refusal_accepts.Goals as goal

pub returns : goal.returns
returns c = no-refusal-accepts
