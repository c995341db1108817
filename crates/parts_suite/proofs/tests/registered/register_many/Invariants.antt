use Rattle.std.proofs.Common.{◌≤◌, length}
use Rattle.parts_suite.proofs.tests.registered.register_many.Given as goal

abbrev pub invariant-loop-number : goal.invariant-loop-number
invariant-loop-number g l = length l.book.book ≤ l._number
