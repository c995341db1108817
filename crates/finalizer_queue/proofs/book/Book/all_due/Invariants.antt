use Rattle.std.proofs.Common.{◌≡◌, ◌+◌, ◌≤◌, nat_lt}
use Rattle.napi_types.specs.parts.Book.{due_where}
use Rattle.finalizer_queue.proofs.book.Book.all_due.Given as goal

abbrev pub invariant-loop-place : goal.invariant-loop-place
invariant-loop-place l = record {
  due : l.self.book ≡ due_where (λ m. nat_lt m (l.place + 1)) l.fn.self.book;
  spare : l.fn.self.spare ≤ l.self.spare;
}
