use Rattle.value_store.proofs.PropertyNames.{distinct-none}
use Rattle.value_store.proofs.properties.Properties.new.Goals as goal

pub invariant_of-result : goal.invariant_of-result
invariant_of-result c = rw c.new.ensures.items distinct-none
