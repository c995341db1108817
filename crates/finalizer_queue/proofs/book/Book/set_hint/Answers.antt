use Rattle.std.proofs.Common.{◌≡◌, ◌∙◌, true, sym, ap}
use Rattle.napi_types.specs.parts.Book.{Registration, is_registered, changed_at, with_hint}
use Rattle.finalizer_queue.specs.TicketRows.{row_state}
use Rattle.finalizer_queue.proofs.KeptBook.{kept-same}
use Rattle.finalizer_queue.proofs.RowMoves.{IsTicketRow, book_of-changed, row-passes}
use Rattle.finalizer_queue.proofs.book.Book.set_hint.Goals as goal
use Rattle.finalizer_queue.proofs.book.Book.set_hint.Goals.{After-index_mut}

row : (c : After-index_mut) → IsTicketRow c.self.inside.rows.items c.args.ticket.0 c.index_mut.result.now × (is_registered (row_state c.index_mut.result.now.state) ≡ true)
row c = row-passes is_registered c.self.inside.rows.items _ c.args.ticket.0 _ (ap (λ k. k.book) c.self.view_is) c.requires c.index_mut.ensures.value

pub invariant_of-self : goal.invariant_of-self
invariant_of-self c =
    kept-same _ _ _ _ _ _ c.self.invariant c.args.ticket.0 _ _ (row (goal.at.invariant_of-self c).After-index_mut).0 (ap (λ (r : Registration). r.state) c.set_hint.ensures)

pub returns-clause-hint : goal.returns-clause-hint
returns-clause-hint c =
    book_of-changed (with_hint c.args.hint) _ c.args.ticket.0 _ _ (row (goal.at.returns-clause-hint c).After-index_mut).0 c.set_hint.ensures
    ∙ ap (λ k. changed_at (with_hint c.args.hint) c.args.ticket.0 k.book) c.self.view_is
