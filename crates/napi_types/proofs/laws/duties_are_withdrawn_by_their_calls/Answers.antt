use Rattle.napi_types.proofs.all_runs.Withdrawals.{withdrawn-rightly}
use Rattle.napi_types.proofs.laws.duties_are_withdrawn_by_their_calls.Goals as goal

pub returns : goal.returns
returns c = withdrawn-rightly
