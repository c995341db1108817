use Rattle.std.proofs.Common.{◌≡◌, ◌∙◌, ◌<◌, List, Option, Some, ap, sym, refl, subst}
use Rattle.std.proofs.lemmas.List.Elements.{All-same}
use Rattle.napi_types.specs.parts.AsyncHooks.{AsyncHook, with_begun}
use Rattle.napi_types.specs.parts.Hooks.{Hook, without_hook}
use Rattle.cleanup_hooks.specs.HookLists.{HookLists, FitsNumber}
use Rattle.cleanup_hooks.proofs.HookNumbers.{numbered-without, numbered-begun, plain-begins, async-begins, taken-fits, lists-same}
use Rattle.cleanup_hooks.proofs.hooks.Hooks.take_last.Goals as goal
use Rattle.cleanup_hooks.proofs.hooks.Hooks.take_last.Goals.{After-begin}

begun : (c : After-begin) → c.begin.new.self ≡ with_begun c.in_ok-ticket.ticket.0 c.self.inside.asynchronous
begun c =
    async-begins c.self.inside.asynchronous c.begin.new.self _ c.in-Some.number
    (subst (FitsNumber c.self.inside.asynchronous c.in_ok-ticket.ticket.0) c.in-Some.is (taken-fits c.self.inside.asynchronous c.self.inside.list c.take_last.new.self _ _ c.in_ok-ticket.ensures.left c.self.invariant))
    c.begin.ensures.begun

pub invariant_of-self-in-Some : goal.invariant_of-self-in-Some
invariant_of-self-in-Some c =
    rw (c.in_ok-ticket.ensures.taken, begun c)
    (numbered-without c.in_ok-ticket.ticket.0 _ c.self.inside.list (numbered-begun c.in_ok-ticket.ticket.0 c.self.inside.asynchronous c.self.inside.list c.self.invariant))

pub invariant_of-self-in_default : goal.invariant_of-self-in_default
invariant_of-self-in_default c = rw c.in_ok-ticket.ensures.taken (numbered-without c.in_ok-ticket.ticket.0 c.self.inside.asynchronous c.self.inside.list c.self.invariant)

pub returns-in-Some-clause-taken : goal.returns-in-Some-clause-taken
returns-in-Some-clause-taken c =
    lists-same _ _ _ _ (c.in_ok-ticket.ensures.taken ∙ ap (λ (h : HookLists). without_hook c.in_ok-ticket.ticket.0 h.hooks) c.self.view_is)
    (begun c ∙ ap (λ (h : HookLists). with_begun c.in_ok-ticket.ticket.0 h.async_hooks) c.self.view_is)

pub returns-in_default-clause-taken : goal.returns-in_default-clause-taken
returns-in_default-clause-taken c =
    lists-same _ _ _ _ (c.in_ok-ticket.ensures.taken ∙ ap (λ (h : HookLists). without_hook c.in_ok-ticket.ticket.0 h.hooks) c.self.view_is)
    (sym (plain-begins c.self.inside.asynchronous c.in_ok-ticket.ticket.0 c.in_ok-ticket.number c.in_default.is
    (taken-fits c.self.inside.asynchronous c.self.inside.list c.take_last.new.self _ _ c.in_ok-ticket.ensures.left c.self.invariant))
    ∙ ap (λ (h : HookLists). with_begun c.in_ok-ticket.ticket.0 h.async_hooks) c.self.view_is)
