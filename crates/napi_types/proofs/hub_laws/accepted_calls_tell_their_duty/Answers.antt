use Rattle.napi_types.proofs.all_runs.AcceptedCalls.{accepted-calls-tell}
use Rattle.napi_types.proofs.hub_laws.accepted_calls_tell_their_duty.Goals as goal

pub returns : goal.returns
returns c = accepted-calls-tell
