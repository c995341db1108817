use Rattle.napi_types.proofs.all_runs.Onces.{tickets-counted}
use Rattle.napi_types.proofs.laws.tickets_are_counted.Goals as goal

pub returns : goal.returns
returns c = tickets-counted
