use Rattle.std.proofs.Common.{◌≡◌, ◌∙◌, ◌+◌, length, sym, ap, arith}
use Rattle.std.proofs.lemmas.List.{length-map}
use Rattle.napi_types.specs.parts.Book.{made_due, moved_at}
use Rattle.finalizer_queue.specs.TicketRows.{row_registration}
use Rattle.finalizer_queue.proofs.RowMoves.{due_where-none, due_where-more, due_where-all, length-due_where}
use Rattle.finalizer_queue.proofs.book.Book.all_due.Goals as goal
use Rattle.finalizer_queue.proofs.book.Book.all_due.Goals.{After-len-place-end, After-loop-place}

-- the book is as long as there are rows
long : (c : After-len-place-end) → length c.args.self.now.book ≡ c.len-place-end.result
long c = ap (λ k. length k.book) (sym c.self.view_is) ∙ length-map c.self.inside.rows.items row_registration ∙ sym c.self.inside.rows.ok.0 ∙ sym c.len-place-end.ensures

pub loop-place-init : goal.loop-place-init
loop-place-init c = record { due = due_where-none c.args.self.now.book; spare = omega arith }

pub make_due-requires : goal.make_due-requires
make_due-requires c =
    let stays = ap length c.loop-place.invariant.due ∙ length-due_where _ c.args.self.now.book in
    (omega arith, omega (arith, stays, long (goal.at.make_due-requires c).After-len-place-end, c.loop-place-test.true))

pub loop-place-preserved : goal.loop-place-preserved
loop-place-preserved c = record {
  due = c.make_due.ensures.due ∙ ap (moved_at made_due (c.loop-place.place + 1)) c.loop-place.invariant.due ∙ due_where-more c.args.self.now.book (c.loop-place.place + 1);
  spare = omega (arith, c.make_due.ensures.spare, c.loop-place.invariant.spare);
}

pub returns-clause-due : goal.returns-clause-due
returns-clause-due c =
    c.loop-place.invariant.due ∙ due_where-all c.args.self.now.book (c.loop-place.place + 1) (omega (arith, long (goal.at.returns-clause-due c).After-len-place-end, c.loop-place-test.false))
