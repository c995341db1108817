use Rattle.std.proofs.Common.{◌≡◌, ◌∙◌, true, Some, sym, ap}
use Rattle.napi_types.specs.parts.Book.{is_registered, registration_at, made_due_and_begun, moved, moved_at}
use Rattle.napi_types.proofs.parts.Books.{hook-leaves}
use Rattle.finalizer_queue.specs.TicketRows.{row_state, row_registration}
use Rattle.finalizer_queue.proofs.KeptBook.{kept-spent, registered-undue, registered-waits}
use Rattle.finalizer_queue.proofs.RowMoves.{IsTicketRow, book_of-changed, registration_at-row, row-passes}
use Rattle.finalizer_queue.proofs.book.Book.take_ticket.Goals as goal
use Rattle.finalizer_queue.proofs.book.Book.take_ticket.Goals.{After-index_mut}

row : (c : After-index_mut) → IsTicketRow c.self.inside.rows.items c.args.ticket.0 c.index_mut.result.now × (is_registered (row_state c.index_mut.result.now.state) ≡ true)
row c = row-passes is_registered c.self.inside.rows.items _ c.args.ticket.0 _ (ap (λ k. k.book) c.self.view_is) c.requires c.index_mut.ensures.value

pub begin-requires : goal.begin-requires
begin-requires c = registered-waits _ (row c).1

pub invariant_of-self : goal.invariant_of-self
invariant_of-self c =
    let is = row (goal.at.invariant_of-self c).After-index_mut in
    kept-spent _ _ _ _ _ _ c.self.invariant c.args.ticket.0 _ _ is.0 made_due_and_begun c.begin.ensures.begun (registered-undue _ is.1)
    (hook-leaves.after _ is.1)

pub returns-clause-told : goal.returns-clause-told
returns-clause-told c =
    let is = row (goal.at.returns-clause-told c).After-index_mut in
    let read : registration_at c.args.self.now.book c.args.ticket.0 ≡ Some (row_registration c.index_mut.result.now) =
    ap (λ k. registration_at k.book c.args.ticket.0) (sym c.self.view_is) ∙ registration_at-row _ c.args.ticket.0 _ is.0 in
    rw read c.begin.ensures.told

pub returns-clause-begun : goal.returns-clause-begun
returns-clause-begun c =
    let is = row (goal.at.returns-clause-begun c).After-index_mut in
    book_of-changed (moved made_due_and_begun) _ c.args.ticket.0 _ _ is.0 c.begin.ensures.begun
    ∙ ap (λ k. moved_at made_due_and_begun c.args.ticket.0 k.book) c.self.view_is
