use Rattle.std.proofs.Common.{refl}
use Rattle.finalizer_queue.specs.TicketRows.{registration_of}
use Rattle.env_registry.proofs.SettledBooks.{registered-due}
use Rattle.env_registry.proofs.registry.promises.register_reaction.Goals as goal

pub returns-then-state-ne0-clause-registered : goal.returns-then-state-ne0-clause-registered
returns-then-state-ne0-clause-registered c =
    registered-due c.args.book.now.book c.register-ticket.new.self.book c.make_due.new.self.book (registration_of c.args.duty) c.args.state
    c.register-ticket.result.0 refl c.if-state-ne0.true c.register-ticket.ensures.ticket c.register-ticket.ensures.noted c.make_due.ensures.due
