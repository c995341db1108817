use Rattle.std.proofs.Common.{option_map, subst, sym}
use Rattle.napi_types.specs.declared.ids.Ticket.{Ticket}
use Rattle.napi_types.specs.environment.Registering.{registered_only}
use Rattle.env_registry.specs.KeptRegistry.{IsKeptRegistry}
use Rattle.env_registry.proofs.Keeping.{kept-dropped}
use Rattle.env_registry.proofs.registry.Registry.remove_async_hook.Goals as goal

pub invariant_of-self-2 : goal.invariant_of-self-2
invariant_of-self-2 c =
    let s = c.self.inside in (
      subst (IsKeptRegistry s.wraps.attachments) (sym c.withdraw_if.ensures.withdrawn)
          (kept-dropped s.wraps.attachments s.book.book (registered_only s.book.book (option_map (λ (t : Ticket). t.0) c.in_ok-set.set)) c.self.invariant.0),
      c.self.invariant.1,
    )
