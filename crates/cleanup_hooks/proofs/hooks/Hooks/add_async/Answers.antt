use Rattle.std.proofs.Common.{◌≡◌, ◌∙◌, ◌<◌, List, Option, Some, ap, sym, refl, subst}
use Rattle.std.proofs.lemmas.List.Elements.{All-same}
use Rattle.napi_types.specs.parts.AsyncHooks.{AsyncHook, with_begun}
use Rattle.napi_types.specs.parts.Hooks.{Hook, without_hook}
use Rattle.cleanup_hooks.specs.HookLists.{HookLists, FitsNumber}
use Rattle.cleanup_hooks.proofs.HookNumbers.{numbered-async, new-unknown, without-added, lists-same}
use Rattle.cleanup_hooks.proofs.hooks.Hooks.add_async.Goals as goal
use Rattle.cleanup_hooks.proofs.hooks.Hooks.add_async.Goals.{After-remove}

pub add-requires-clause-new : goal.add-requires-clause-new
add-requires-clause-new c = new-unknown c.self.inside.asynchronous c.self.inside.list _ c.next-number.result refl c.next-number.ensures.fresh c.self.invariant

pub invariant_of-self-in-Ok : goal.invariant_of-self-in-Ok
invariant_of-self-in-Ok c =
    let below = All-same (λ (h : Hook). h.ticket < c.args.ticket.0) _ _ (ap (λ (h : HookLists). h.hooks) c.self.view_is) c.requires.rising in
    rw (c.in_ok-add.ensures.ok, c.in-Ok.ensures.ok, ← c.next-number.ensures.next)
    (numbered-async c.self.inside.asynchronous c.self.inside.list _ c.next-number.result refl c.next-number.ensures.fresh below c.self.invariant)

restored : (c : After-remove) → c.remove.new.self ≡ c.self.inside.list
restored c =
    let below = All-same (λ (h : Hook). h.ticket < c.args.ticket.0) _ _ (ap (λ (h : HookLists). h.hooks) c.self.view_is) c.requires.rising in
    c.remove.ensures ∙ ap (without_hook c.args.ticket.0) c.in_ok-add.ensures.ok ∙ without-added c.self.inside.list _ below

pub invariant_of-self-in-Err : goal.invariant_of-self-in-Err
invariant_of-self-in-Err c = rw (restored c, c.in-Err.ensures.err) c.self.invariant

pub returns-in-Err-clause-err : goal.returns-in-Err-clause-err
returns-in-Err-clause-err c = lists-same _ _ _ _ (restored c) c.in-Err.ensures.err ∙ c.self.view_is
