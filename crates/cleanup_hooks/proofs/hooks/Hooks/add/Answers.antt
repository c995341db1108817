use Rattle.std.proofs.Common.{◌≡◌, ◌∙◌, ◌+◌, ◌<◌, ap, sym, refl, arith, length}
use Rattle.std.proofs.lemmas.List.Elements.{All-same}
use Rattle.napi_types.specs.parts.AsyncHooks.{AsyncHook, with_async_hook}
use Rattle.napi_types.specs.parts.Hooks.{Hook}
use Rattle.cleanup_hooks.specs.HookLists.{HookLists}
use Rattle.cleanup_hooks.proofs.HookNumbers.{numbered-plain}
use Rattle.cleanup_hooks.proofs.hooks.Hooks.add.Goals as goal

pub invariant_of-self-2 : goal.invariant_of-self-2
invariant_of-self-2 c =
    rw c.in_ok-add.ensures.ok
    (numbered-plain c.self.inside.asynchronous c.self.inside.list _ refl
    (All-same (λ (h : AsyncHook). h.ticket < c.args.ticket.0) _ _ (ap (λ (h : HookLists). h.async_hooks) c.self.view_is) c.requires.above) c.self.invariant)
