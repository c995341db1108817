use Rattle.std.proofs.Common.{◌≡◌, ◌≤◌, Some, IsSome, length}
use Rattle.napi_types.specs.parts.Promises.{promise_at, reactions_of, deferred_promise}
use Rattle.parts_suite.proofs.ManyPromises.{AreRegistered}
use Rattle.parts_suite.proofs.tests.promises.promise_with_many.Given as goal

abbrev pub invariant-loop-number : goal.invariant-loop-number
invariant-loop-number g l = (length l.book.book ≤ l._number) × IsSome (promise_at l.deferreds.promises 9) × AreRegistered l.book.book (reactions_of l.deferreds.promises 9) × (deferred_promise l.deferreds.promises l.id.0 ≡ Some 9)
