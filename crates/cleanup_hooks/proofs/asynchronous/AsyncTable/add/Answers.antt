use Rattle.std.proofs.Common.{◌≡◌, ◌∙◌, ◌+◌, ◌<◌, ap, refl, arith, length, List}
use Rattle.std.proofs.lemmas.List.Elements.{All-same}
use Rattle.napi_types.specs.parts.AsyncHooks.{AsyncHook, with_async_hook}
use Rattle.cleanup_hooks.specs.declared.asynchronous.AsyncRow.{AsyncRow}
use Rattle.cleanup_hooks.specs.AsyncRows.{async_hooks_of}
use Rattle.cleanup_hooks.proofs.AsyncRows.{from_push, table-pushed, length_from}
use Rattle.cleanup_hooks.proofs.asynchronous.AsyncTable.add.Goals as goal

pub invariant_of-self-2 : goal.invariant_of-self-2
invariant_of-self-2 c =
    rw c.in_ok-push.ensures.items
    (table-pushed c.self.inside.rows.items c.self.inside.waiting _ refl (All-same (λ (h : AsyncHook). h.ticket < c.args.ticket.0) _ _ c.self.view_is c.requires.rising) c.self.invariant)

pub returns-clause-ok : goal.returns-clause-ok
returns-clause-ok c =
    ap (λ (rs : List AsyncRow). async_hooks_of rs) c.in_ok-push.ensures.items
    ∙ from_push 1 (length (async_hooks_of c.self.inside.rows.items) + 1) c.self.inside.rows.items _ (omega (arith, length_from 1 c.self.inside.rows.items))
    ∙ ap (λ hs. with_async_hook (length hs + 1) c.args.ticket.0 hs) c.self.view_is
