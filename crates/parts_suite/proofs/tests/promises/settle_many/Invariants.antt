use Rattle.std.proofs.Common.{◌≤◌}
use Rattle.std.specs.List.{All}
use Rattle.parts_suite.proofs.ManyPromises.{IsBare}
use Rattle.parts_suite.proofs.tests.promises.settle_many.Given as goal

abbrev pub invariant-loop-id : goal.invariant-loop-id
invariant-loop-id l = (l.accepted ≤ l.id-index) × All IsBare l.deferreds.promises.promises
