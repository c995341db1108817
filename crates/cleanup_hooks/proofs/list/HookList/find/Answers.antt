use Rattle.std.proofs.Common.{◌≡◌, ◌∙◌, List, None, option_map, sym, ap, arith}
use Rattle.std.specs.List.{find}
use Rattle.std.specs.Option.{option_copied}
use Rattle.napi_types.specs.parts.Hooks.{Hook}
use Rattle.cleanup_hooks.specs.KeptHooks.{has_key}
use Rattle.cleanup_hooks.proofs.FoundHooks.{found}
use Rattle.cleanup_hooks.proofs.list.HookList.find.Goals as goal

pub returns-in_err-ticket : goal.returns-in_err-ticket
returns-in_err-ticket c =
    let told = c.get.ensures.value ∙ found _ _ c.self.invariant c.args.key in
    let none : c.get.result ≡ None = c.in_err-ticket.was in
    grind arith

pub returns : goal.returns
returns c =
    sym (ap option_copied c.in_ok-ticket.was) ∙ c.get.ensures.value
    ∙ found _ _ c.self.invariant c.args.key
    ∙ ap (λ (hs : List Hook). option_map (λ h. h.ticket) (find (has_key c.args.key) hs)) c.self.view_is
