use Rattle.napi_types.proofs.all_runs.Goings.{next-may}
use Rattle.napi_types.proofs.hub_laws.next_events_may_come.Goals as goal

pub returns : goal.returns
returns c = next-may
