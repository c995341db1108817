use Rattle.napi_types.proofs.all_runs.Orders.{order-holds}
use Rattle.napi_types.proofs.laws.tickets_begin_in_order.Goals as goal

pub returns : goal.returns
returns c = λ s bs xs run. order-holds s bs xs run.steps
