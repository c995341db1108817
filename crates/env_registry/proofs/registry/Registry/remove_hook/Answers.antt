use Rattle.std.proofs.Common.{Some, subst, sym}
use Rattle.napi_types.specs.environment.Registering.{registered_only}
use Rattle.env_registry.specs.KeptRegistry.{IsKeptRegistry}
use Rattle.env_registry.proofs.Keeping.{kept-dropped}
use Rattle.env_registry.proofs.registry.Registry.remove_hook.Goals as goal

pub invariant_of-self : goal.invariant_of-self
invariant_of-self c =
    let s = c.self.inside in (
      subst (IsKeptRegistry s.wraps.attachments) (sym c.withdraw_if.ensures.withdrawn)
          (kept-dropped s.wraps.attachments s.book.book (registered_only s.book.book (Some c.args.ticket.0)) c.self.invariant.0),
      c.self.invariant.1,
    )
