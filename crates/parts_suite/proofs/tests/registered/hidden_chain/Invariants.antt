use Rattle.std.proofs.Common.{◌≡◌, ◌+◌}
use Rattle.parts_suite.proofs.tests.registered.hidden_chain.Given as goal

abbrev pub invariant-loop-number : goal.invariant-loop-number
invariant-loop-number g l = l.store.made ≡ 5 + l._number
