use Rattle.napi_types.proofs.all_runs.SettledHooks.{hooks-settled}
use Rattle.napi_types.proofs.laws.asynchronous_hooks_are_settled.Goals as goal

pub returns : goal.returns
returns c = hooks-settled
