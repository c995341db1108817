use Rattle.std.proofs.Common.{refl}
use Rattle.value_store.proofs.store.Store.with_generations.Goals as goal

pub returns : goal.returns
returns c = record { graph = c.in_ok-starting.ensures.graph; made = refl }
