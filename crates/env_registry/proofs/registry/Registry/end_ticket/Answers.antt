use Rattle.std.proofs.Common.{subst, sym}
use Rattle.env_registry.specs.KeptRegistry.{IsKeptRegistry}
use Rattle.env_registry.proofs.Keeping.{kept-ended}
use Rattle.env_registry.proofs.registry.Registry.end_ticket.Goals as goal

pub invariant_of-self : goal.invariant_of-self
invariant_of-self c =
    let s = c.self.inside in (
      subst (IsKeptRegistry s.wraps.attachments) (sym c.end.ensures) (kept-ended s.wraps.attachments s.book.book c.args.begun.duty c.self.invariant.0),
      c.self.invariant.1,
    )
