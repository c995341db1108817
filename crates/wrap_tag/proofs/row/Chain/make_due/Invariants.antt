use Rattle.std.proofs.Common.{◌≡◌, ◌≤◌}
use Rattle.napi_types.specs.plain.Lists.{has_number}
use Rattle.napi_types.specs.parts.Book.{due_where}
use Rattle.wrap_tag.specs.ValueRows.{tickets_of_chain}
use Rattle.wrap_tag.specs.Wraps.{AreGiven}
use Rattle.wrap_tag.proofs.row.Chain.make_due.Given as goal

abbrev pub invariant-loop-self : goal.invariant-loop-self
invariant-loop-self l = record {
  due : due_where (λ n. has_number n (tickets_of_chain l.self)) l.book.book ≡ due_where (λ n. has_number n (tickets_of_chain l.initial.self)) l.initial.book.book;
  given : AreGiven (tickets_of_chain l.self) l.book.book;
  spare : l.initial.book.spare ≤ l.book.spare;
}
