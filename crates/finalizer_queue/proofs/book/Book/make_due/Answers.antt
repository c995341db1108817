use Rattle.std.proofs.Common.{◌≡◌, ◌∙◌, length, sym, ap, refl, arith}
use Rattle.std.proofs.lemmas.List.{length-map}
use Rattle.napi_types.specs.parts.Book.{made_due, moved, moved_at}
use Rattle.finalizer_queue.specs.TicketRows.{row_registration}
use Rattle.finalizer_queue.proofs.KeptBook.{kept-due, kept-stays, room-free, never_refused}
use Rattle.finalizer_queue.proofs.RowMoves.{IsTicketRow, book_of-changed}
use Rattle.finalizer_queue.proofs.book.Book.make_due.Goals as goal
use Rattle.finalizer_queue.proofs.book.Book.make_due.Goals.{After-index_mut}

row : (c : After-index_mut) → IsTicketRow c.self.inside.rows.items c.args.ticket.0 c.index_mut.result.now
row c =
    let long : length c.self.inside.rows.items ≡ length c.args.self.now.book = sym (length-map c.self.inside.rows.items row_registration) ∙ ap (λ k. length k.book) c.self.view_is in
    record { here = c.index_mut.ensures.value; above = c.requires.0; within = omega (arith, long, c.requires.1) }

pub unreachable-requires : goal.unreachable-requires
unreachable-requires c =
    let free = room-free _ _ _ _ _ _ c.self.invariant c.args.ticket.0 _ (row (goal.at.unreachable-requires c).After-index_mut) (sym c.if-fall_due.ensures.was) in
    absurd (never_refused c.push.result c.in_default.field-0 c.in_default.is (c.push.ensures.succeeds free))

pub invariant_of-self : goal.invariant_of-self
invariant_of-self c =
    kept-due _ _ _ _ _ _ _ _ _ c.self.invariant c.args.ticket.0 _ _ (row (goal.at.invariant_of-self c).After-index_mut) (sym c.if-fall_due.ensures.was) c.fall_due.ensures.due
    _ refl c.in-Ok.ensures.permutation (c.in-Ok.ensures.heap_order c.self.invariant.order) c.in-Ok.ensures.len c.push.ensures.capacity

pub invariant_of-self-else-fall_due : goal.invariant_of-self-else-fall_due
invariant_of-self-else-fall_due c =
    kept-stays _ _ _ _ _ _ c.self.invariant c.args.ticket.0 _ _ (row (goal.at.invariant_of-self-else-fall_due c).After-index_mut) (sym c.if-fall_due.ensures.was) c.fall_due.ensures.due

pub returns-in-Ok-clause-due : goal.returns-in-Ok-clause-due
returns-in-Ok-clause-due c =
    book_of-changed (moved made_due) _ c.args.ticket.0 _ _ (row (goal.at.returns-in-Ok-clause-due c).After-index_mut) c.fall_due.ensures.due
    ∙ ap (λ k. moved_at made_due c.args.ticket.0 k.book) c.self.view_is

pub returns-else-fall_due-clause-due : goal.returns-else-fall_due-clause-due
returns-else-fall_due-clause-due c =
    book_of-changed (moved made_due) _ c.args.ticket.0 _ _ (row (goal.at.returns-else-fall_due-clause-due c).After-index_mut) c.fall_due.ensures.due
    ∙ ap (λ k. moved_at made_due c.args.ticket.0 k.book) c.self.view_is
