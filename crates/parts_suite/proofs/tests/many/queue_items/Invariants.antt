use Rattle.std.proofs.Common.{◌≤◌}
use Rattle.napi_types.specs.parts.Functions.{accepted_items}
use Rattle.parts_suite.proofs.tests.many.queue_items.Given as goal

abbrev pub invariant-loop-item : goal.invariant-loop-item
invariant-loop-item g l = accepted_items l.function ≤ l._item
