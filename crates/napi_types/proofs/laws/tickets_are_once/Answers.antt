use Rattle.napi_types.proofs.all_runs.OncePlaces.{tickets-are-once}
use Rattle.napi_types.proofs.laws.tickets_are_once.Goals as goal

pub returns : goal.returns
returns c = tickets-are-once
