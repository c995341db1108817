use Rattle.value_store.specs.Contents.{ListsSoFar}
use Rattle.value_store.proofs.records.make_list.Given as goal

abbrev pub invariant-loop-at : goal.invariant-loop-at
invariant-loop-at l = ListsSoFar l.fn.values l.values l.made l.bodies l.array l.at
