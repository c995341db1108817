use Rattle.std.proofs.Common.{◌==◌, arith}
use Rattle.napi_types.specs.parts.Book.{made_withdrawn, moved}
use Rattle.napi_types.proofs.parts.Books.{length-changed_where}
use Rattle.parts_suite.proofs.tests.registered.register_many.Goals as goal

pub loop-number-preserved : goal.loop-number-preserved
loop-number-preserved g c =
    let ticket = c.register-ticket.result.0 in
    rw (c.withdraw.ensures.withdrawn, length-changed_where (moved made_withdrawn) (λ m. m == ticket) c.register-ticket.new.book.book) (omega arith)
