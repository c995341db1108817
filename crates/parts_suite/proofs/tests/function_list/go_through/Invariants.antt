use Rattle.parts_suite.proofs.FewItems.{AcceptedFew}
use Rattle.parts_suite.proofs.tests.function_list.go_through.Given as goal

abbrev pub invariant-loop-at : goal.invariant-loop-at
invariant-loop-at g l = AcceptedFew l.at-counter l.functions
