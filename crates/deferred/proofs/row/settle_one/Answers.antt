use Rattle.std.proofs.Common.{◌∙◌, ◌==◌, length, sym, ap, arith}
use Rattle.napi_types.specs.parts.Book.{made_due, moved_at, with_hint}
use Rattle.napi_types.proofs.parts.Books.{length-changed_where}
use Rattle.deferred.proofs.Settling.{settled-registered, settled-unregistered, given-registered}
use Rattle.deferred.proofs.row.settle_one.Goals as goal

pub make_due-requires : goal.make_due-requires
make_due-requires c =
    let given = given-registered c.args.book.now.book c.args.ticket.0 (sym c.is_registered.ensures ∙ c.if-is_registered.true) in
    let long = ap length c.set_hint.ensures.hint ∙ length-changed_where (with_hint c.args.state) (λ m. m == c.args.ticket.0) c.args.book.now.book in
    (given.0, omega (arith, given.1, long))

pub returns-then-is_registered-clause-settled : goal.returns-then-is_registered-clause-settled
returns-then-is_registered-clause-settled c =
    c.make_due.ensures.due ∙ ap (moved_at made_due c.args.ticket.0) c.set_hint.ensures.hint
    ∙ settled-registered c.args.state c.args.ticket.0 c.args.book.now.book (sym c.is_registered.ensures ∙ c.if-is_registered.true)

pub returns-else-is_registered-clause-settled : goal.returns-else-is_registered-clause-settled
returns-else-is_registered-clause-settled c =
    settled-unregistered c.args.state c.args.ticket.0 c.args.book.now.book (sym c.is_registered.ensures ∙ c.if-is_registered.false)
