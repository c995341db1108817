use Rattle.std.proofs.Common.{◌≤◌}
use Rattle.parts_suite.proofs.tests.many.deliver_items.Given as goal

abbrev pub invariant-loop-item : goal.invariant-loop-item
invariant-loop-item g l = l.delivered ≤ l._item
