use Rattle.trace_collect.proofs.CollectCallers.{HoldsFirst}
use Rattle.parts_suite.proofs.tests.registered.collected.Given as goal

abbrev pub invariant-loop-id : goal.invariant-loop-id
invariant-loop-id g l = HoldsFirst l.store 5 l.roots.items
