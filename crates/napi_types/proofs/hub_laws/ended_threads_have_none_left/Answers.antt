use Rattle.napi_types.proofs.hub.ThreadEnds.{ended-threads-left}
use Rattle.napi_types.proofs.hub_laws.ended_threads_have_none_left.Goals as goal

pub returns : goal.returns
returns c = ended-threads-left
