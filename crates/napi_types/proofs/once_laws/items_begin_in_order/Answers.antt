use Rattle.napi_types.proofs.all_runs.ItemOrders.{items-in-order}
use Rattle.napi_types.proofs.once_laws.items_begin_in_order.Goals as goal

pub returns : goal.returns
returns c = items-in-order
