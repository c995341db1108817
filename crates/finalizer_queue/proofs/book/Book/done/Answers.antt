use Rattle.std.proofs.Common.{◌≡◌, ◌∙◌, true, sym, ap}
use Rattle.std.proofs.lemmas.Bool.{or_parts}
use Rattle.napi_types.specs.declared.duties.DueInfo.{DueInfo}
use Rattle.napi_types.specs.parts.Book.{is_begun, is_at, made_ended, moved, moved_at}
use Rattle.napi_types.proofs.parts.Moves.{Ends, unowed-moved}
use Rattle.finalizer_queue.specs.KeptBook.{ticket_number}
use Rattle.finalizer_queue.specs.TicketRows.{row_state}
use Rattle.finalizer_queue.proofs.KeptBook.{kept-spent, begun-unowed}
use Rattle.finalizer_queue.proofs.RowMoves.{IsTicketRow, book_of-changed, row-passes}
use Rattle.finalizer_queue.proofs.book.Book.done.Goals as goal
use Rattle.finalizer_queue.proofs.book.Book.done.Goals.{After-index_mut}

-- the ticket is that of the duty
numbered : (c : After-index_mut) → ticket_number c.args.begun.duty ≡ c.in-Ticket.ticket.0
numbered c = ap (λ (d : DueInfo). ticket_number d.duty) (sym c.end.ensures) ∙ ap ticket_number c.in-Ticket.is

row : (c : After-index_mut) → IsTicketRow c.self.inside.rows.items c.in-Ticket.ticket.0 c.index_mut.result.now × (is_begun (row_state c.index_mut.result.now.state) ≡ true)
row c = row-passes is_begun c.self.inside.rows.items _ c.in-Ticket.ticket.0 _ (ap (λ k. k.book) c.self.view_is) (ap (is_at is_begun c.args.self.now.book) (sym (numbered c)) ∙ c.requires) c.index_mut.ensures.value

pub end-requires-2 : goal.end-requires-2
end-requires-2 c = (row c).1

pub invariant_of-self : goal.invariant_of-self
invariant_of-self c =
    let before = (goal.at.invariant_of-self c).After-index_mut in
    let unowed = begun-unowed _ (row before).1 in
    kept-spent _ _ _ _ _ _ c.self.invariant c.in-Ticket.ticket.0 _ _ (row before).0 made_ended c.end-2.ensures (or_parts _ _ unowed).1
    (unowed-moved Ends _ unowed)

pub returns-clause-ended : goal.returns-clause-ended
returns-clause-ended c =
    let before = (goal.at.returns-clause-ended c).After-index_mut in
    book_of-changed (moved made_ended) _ c.in-Ticket.ticket.0 _ _ (row before).0 c.end-2.ensures
    ∙ ap (λ k. moved_at made_ended c.in-Ticket.ticket.0 k.book) c.self.view_is
    ∙ ap (λ n. moved_at made_ended n c.args.self.now.book) (sym (numbered before))
