use Rattle.napi_types.proofs.all_runs.AcceptedCancels.{accepted-cancels}
use Rattle.napi_types.proofs.once_laws.accepted_cancels_cancel.Goals as goal

pub returns : goal.returns
returns c = accepted-cancels
