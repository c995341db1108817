use Rattle.std.proofs.Common.{◌==◌, subst, sym}
use Rattle.napi_types.specs.parts.Book.{made_due_and_begun}
use Rattle.napi_types.specs.parts.Hooks.{last_hook}
use Rattle.env_registry.specs.KeptRegistry.{IsKeptRegistry}
use Rattle.env_registry.proofs.Keeping.{kept-moved, if-told-uncalled, last-waits}
use Rattle.env_registry.proofs.registry.Registry.begin_hook.Goals as goal

pub invariant_of-self-2 : goal.invariant_of-self-2
invariant_of-self-2 c =
    let s = c.self.inside in (
      subst (IsKeptRegistry s.wraps.attachments) (sym c.take_ticket.ensures.begun) (kept-moved s.wraps.attachments s.book.book made_due_and_begun (λ m. m == c.in_ok-ticket.ticket.0) c.self.invariant.0),
      c.self.invariant.1,
    )

pub returns-clause-uncalled : goal.returns-clause-uncalled
returns-clause-uncalled c =
    let s = c.self.inside in
    let n = c.in_ok-ticket.ticket.0 in
    if-told-uncalled s.wraps.attachments s.book.book n c.take_ticket.result c.self.invariant.0
    (last-waits s.book.book (last_hook s.hooks.hooks) n c.in_ok-ticket.ensures.last (rw (← c.self.view_is) at c.requires)) c.take_ticket.ensures.told
