use Rattle.std.proofs.Common.{◌∙◌}
use Rattle.trace_collect.proofs.collection.collect.Goals as goal

pub returns-clause-graph : goal.returns-clause-graph
returns-clause-graph c = (rw c.deref.ensures.value at c.free.ensures.graph) ∙ c.in_ok-list.ensures.kept
