use Rattle.std.proofs.Common.{option_map}
use Rattle.env_registry.specs.Registering.{finalizer_registration}
use Rattle.env_registry.proofs.Agreeing.{agree-attached}
use Rattle.env_registry.proofs.Keeping.{kept-attached, next-free}
use Rattle.env_registry.proofs.registry.Registry.attach.Goals as goal

pub attach-requires-clause-absent : goal.attach-requires-clause-absent
attach-requires-clause-absent c =
    let s = c.self.inside in
    next-free s.wraps.attachments s.book.book (option_map finalizer_registration c.args.finalizer) c.in-Some.ticket.0 c.self.invariant.0 c.in-Some.ensures.ticket

pub invariant_of-self : goal.invariant_of-self
invariant_of-self c =
    let s = c.self.inside in
    let kept = kept-attached s.wraps.attachments s.book.book c.args.value.0 c.args.finalizer c.self.invariant.0 in (
      rw (c.attach.ensures.attached, c.register_if-ticket.ensures.registered) (rw (← c.in-Some.ensures.ticket) at kept),
      rw c.attach.ensures.attached
          (agree-attached s.wraps.attachments c.args.value.0 c.in-Some.ticket.0
          (next-free s.wraps.attachments s.book.book (option_map finalizer_registration c.args.finalizer) c.in-Some.ticket.0 c.self.invariant.0 c.in-Some.ensures.ticket)
          s.buffers.buffers c.self.invariant.1),
    )
