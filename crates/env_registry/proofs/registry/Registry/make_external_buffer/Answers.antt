use Rattle.std.proofs.Common.{Some, ap}
use Rattle.env_registry.specs.Registering.{finalizer_registration}
use Rattle.env_registry.proofs.Agreeing.{agree-external}
use Rattle.env_registry.proofs.Keeping.{kept-attached, next-free}
use Rattle.env_registry.proofs.registry.Registry.make_external_buffer.Goals as goal

pub attach-requires-clause-absent : goal.attach-requires-clause-absent
attach-requires-clause-absent c =
    let s = c.self.inside in
    next-free s.wraps.attachments s.book.book (Some (finalizer_registration c.args.finalizer)) c.register-ticket.result.0 c.self.invariant.0
    (ap Some c.register-ticket.ensures.ticket)

pub invariant_of-self : goal.invariant_of-self
invariant_of-self c =
    let s = c.self.inside in (
      rw (c.attach.ensures.attached, c.register-ticket.ensures.noted, c.duty.ensures, c.register-ticket.ensures.ticket)
          (kept-attached s.wraps.attachments s.book.book c.args.value.0 (Some c.args.finalizer) c.self.invariant.0),
      rw (c.make_reserved.ensures, c.attach.ensures.attached)
          (agree-external s.wraps.attachments c.args.value.0 c.register-ticket.result.0
          (next-free s.wraps.attachments s.book.book (Some (finalizer_registration c.args.finalizer)) c.register-ticket.result.0 c.self.invariant.0
          (ap Some c.register-ticket.ensures.ticket)) c.args.bytes s.buffers.buffers c.self.invariant.1),
    )
