use Rattle.napi_types.proofs.all_runs.ThreadsEnd.{threads-keep-on}
use Rattle.napi_types.proofs.hub_laws.threads_keep_as_others_go_on.Goals as goal

pub returns : goal.returns
returns c = threads-keep-on
