use Rattle.napi_types.proofs.all_runs.LifeRuns.{buffers-outlive}
use Rattle.napi_types.proofs.laws.buffers_outlive_their_views.Goals as goal

pub returns : goal.returns
returns c = buffers-outlive
