use Rattle.std.proofs.Common.{true, subst, sym}
use Rattle.napi_types.specs.parts.Book.{made_due}
use Rattle.env_registry.specs.KeptRegistry.{IsKeptRegistry}
use Rattle.env_registry.proofs.Keeping.{kept-moved}
use Rattle.env_registry.proofs.registry.Registry.all_due.Goals as goal

pub invariant_of-self : goal.invariant_of-self
invariant_of-self c =
    let s = c.self.inside in (
      subst (IsKeptRegistry s.wraps.attachments) (sym c.all_due.ensures.due) (kept-moved s.wraps.attachments s.book.book made_due (λ n. true) c.self.invariant.0),
      c.self.invariant.1,
    )
