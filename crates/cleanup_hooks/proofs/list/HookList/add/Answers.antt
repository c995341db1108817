use Rattle.std.proofs.Common.{◌∙◌, ◌<◌, List, option_map, ap, arith}
use Rattle.std.specs.List.{find}
use Rattle.std.proofs.lemmas.List.Elements.{All-same}
use Rattle.napi_types.specs.parts.Hooks.{Hook}
use Rattle.cleanup_hooks.specs.KeptHooks.{has_key}
use Rattle.cleanup_hooks.proofs.FoundHooks.{found}
use Rattle.cleanup_hooks.proofs.KeptHooks.{kept-added, kept-restored}
use Rattle.cleanup_hooks.proofs.HookOrder.{hooks_of-insert_entry, lookup-past}
use Rattle.cleanup_hooks.proofs.list.HookList.add.Goals as goal

pub invariant_of-self-in-Ok : goal.invariant_of-self-in-Ok
invariant_of-self-in-Ok c =
    let above = All-same (λ (h : Hook). h.ticket < c.args.ticket.0) _ _ c.self.view_is c.requires.rising in
    let no_ticket = lookup-past c.self.inside.by_ticket.entries c.args.ticket.0 above in
    let no_key = found _ _ c.self.invariant c.args.key ∙ ap (λ (hs : List Hook). option_map (λ h. h.ticket) (find (has_key c.args.key) hs)) c.self.view_is ∙ ap (option_map (λ h. h.ticket)) c.requires.new in
    kept-added _ _ _ _ _ _ c.self.invariant no_ticket no_key c.in-Ok.ensures.updates.0 c.in_ok-insert.ensures.updates.0 c.insert-2.ensures.ordered

pub invariant_of-self-in-Err : goal.invariant_of-self-in-Err
invariant_of-self-in-Err c =
    let no_key = found _ _ c.self.invariant c.args.key ∙ ap (λ (hs : List Hook). option_map (λ h. h.ticket) (find (has_key c.args.key) hs)) c.self.view_is ∙ ap (option_map (λ h. h.ticket)) c.requires.new in
    kept-restored _ _ _ _ _ _ c.insert.new.self c.self.invariant no_key c.in-Err.ensures.err c.in_ok-insert.ensures.updates.0 c.remove.ensures.updates.0 c.insert-2.ensures.ordered

pub returns-in-Ok-clause-ok : goal.returns-in-Ok-clause-ok
returns-in-Ok-clause-ok c = grind (arith, hooks_of-insert_entry)
