use Rattle.std.proofs.Common.{◌≤◌, length}
use Rattle.std.specs.List.{All}
use Rattle.parts_suite.proofs.ManyPromises.{IsBare}
use Rattle.parts_suite.proofs.tests.promises.make_many.Given as goal

abbrev pub invariant-loop-value : goal.invariant-loop-value
invariant-loop-value g l = (length l.deferreds.promises.issued ≤ l.value) × All IsBare l.deferreds.promises.promises
