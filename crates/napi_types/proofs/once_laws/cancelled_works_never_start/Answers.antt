use Rattle.napi_types.proofs.all_runs.CancelledWorks.{cancelled-once}
use Rattle.napi_types.proofs.once_laws.cancelled_works_never_start.Goals as goal

pub returns : goal.returns
returns c = cancelled-once
