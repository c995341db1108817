use Rattle.std.proofs.Common.{◌∙◌, ap}
use Rattle.napi_types.specs.parts.Book.{is_registered, made_withdrawn, moved, moved_at}
use Rattle.napi_types.proofs.parts.Books.{withdrawn-leaves}
use Rattle.finalizer_queue.proofs.KeptBook.{kept-spent, registered-undue}
use Rattle.finalizer_queue.proofs.RowMoves.{book_of-changed, row-passes}
use Rattle.finalizer_queue.proofs.book.Book.withdraw.Goals as goal

pub withdraw-requires : goal.withdraw-requires
withdraw-requires c = (row-passes is_registered c.self.inside.rows.items _ c.args.ticket.0 _ (ap (λ k. k.book) c.self.view_is) c.requires c.index_mut.ensures.value).1

pub invariant_of-self : goal.invariant_of-self
invariant_of-self c =
    let row = row-passes is_registered c.self.inside.rows.items _ c.args.ticket.0 _ (ap (λ k. k.book) c.self.view_is) c.requires c.index_mut.ensures.value in
    kept-spent _ _ _ _ _ _ c.self.invariant c.args.ticket.0 _ _ row.0 made_withdrawn c.withdraw.ensures (registered-undue _ row.1)
    (withdrawn-leaves.after _ row.1)

pub returns-clause-withdrawn : goal.returns-clause-withdrawn
returns-clause-withdrawn c =
    let row = row-passes is_registered c.self.inside.rows.items _ c.args.ticket.0 _ (ap (λ k. k.book) c.self.view_is) c.requires c.index_mut.ensures.value in
    book_of-changed (moved made_withdrawn) _ c.args.ticket.0 _ _ row.0 c.withdraw.ensures
    ∙ ap (λ k. moved_at made_withdrawn c.args.ticket.0 k.book) c.self.view_is
