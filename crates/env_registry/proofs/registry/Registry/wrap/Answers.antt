use Rattle.env_registry.proofs.Keeping.{kept-wrapped}
use Rattle.env_registry.proofs.registry.Registry.wrap.Goals as goal

pub invariant_of-self : goal.invariant_of-self
invariant_of-self c =
    let s = c.self.inside in (
      rw (c.wrap.ensures.wrapped, c.register_if-ticket.ensures.registered, c.register_if-ticket.ensures.ticket)
          (kept-wrapped s.wraps.attachments s.book.book c.args.value.0 _ c.args.finalizer c.self.invariant.0),
      rw c.wrap.ensures.wrapped c.self.invariant.1,
    )
