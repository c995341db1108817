use Rattle.napi_types.proofs.all_runs.PromiseRuns.{promises-kept}
use Rattle.napi_types.proofs.laws.promises_are_settled.Goals as goal

pub returns : goal.returns
returns c = promises-kept
