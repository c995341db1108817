use Rattle.std.proofs.Common.{option_map}
use Rattle.napi_types.specs.declared.ids.Ticket.{Ticket}
use Rattle.napi_types.specs.parts.Attachments.{without_wrap}
use Rattle.napi_types.specs.environment.Registering.{registered_only}
use Rattle.env_registry.proofs.Keeping.{kept-without_wrap, kept-dropped}
use Rattle.env_registry.proofs.registry.Registry.unwrap_out.Goals as goal

pub invariant_of-self-2 : goal.invariant_of-self-2
invariant_of-self-2 c =
    let s = c.self.inside in (
      rw (c.unwrap_out.ensures.unwrapped, c.withdraw_if.ensures.withdrawn)
          (kept-dropped (without_wrap c.args.value.0 s.wraps.attachments) s.book.book (registered_only s.book.book (option_map (λ (t : Ticket). t.0) c.in_ok-payload.ticket))
          (kept-without_wrap s.wraps.attachments s.book.book c.args.value.0 c.self.invariant.0)),
      rw c.unwrap_out.ensures.unwrapped c.self.invariant.1,
    )
