use Rattle.std.proofs.Common.{◌∙◌, sym, ap, not}
use Rattle.std.specs.Option.{is_some}
use Rattle.napi_types.specs.parts.Book.{lowest_due}
use Rattle.finalizer_queue.proofs.KeptBook.{filled-lowest}
use Rattle.finalizer_queue.proofs.book.Book.has_due.Goals as goal

pub returns : goal.returns
returns c = ap not c.is_empty.ensures ∙ filled-lowest _ _ _ _ _ _ c.self.invariant (sym c.self.inside.due.data.ok.0) ∙ ap (λ k. is_some (lowest_due k.book)) c.self.view_is
