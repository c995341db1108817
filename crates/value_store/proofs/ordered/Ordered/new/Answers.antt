use Rattle.value_store.proofs.OrderedMaps.{kept-none}
use Rattle.value_store.proofs.ordered.Ordered.new.Goals as goal

pub invariant_of-result : goal.invariant_of-result
invariant_of-result c = kept-none c.new.result c.new-2.result c.new.ensures.ordered c.new.ensures.empty c.new-2.ensures.empty
