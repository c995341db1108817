use Rattle.std.proofs.Common.{◌≡◌, take}
use Rattle.value_store.proofs.properties.in_order.Given as goal

abbrev pub invariant-loop-at : goal.invariant-loop-at
invariant-loop-at l = l.ordered ≡ take l.at l.entries
