use Rattle.napi_types.proofs.all_runs.ThreadsEnd.{prefixes-of-threads-keep}
use Rattle.napi_types.proofs.hub_laws.prefixes_of_threads_keep.Goals as goal

pub returns : goal.returns
returns c = prefixes-of-threads-keep
