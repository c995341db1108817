use Rattle.napi_types.proofs.all_runs.ThreadsEnd.{threads-come-to-their-end}
use Rattle.napi_types.proofs.hub_laws.threads_come_to_their_end.Goals as goal

pub returns : goal.returns
returns c = threads-come-to-their-end
