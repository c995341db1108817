use Rattle.trace_collect.proofs.CollectCallers.{HoldsFirst}
use Rattle.parts_suite.proofs.tests.registered.starting.Given as goal

abbrev pub invariant-loop-which : goal.invariant-loop-which
invariant-loop-which g l = HoldsFirst l.store l.which l.roots.items
