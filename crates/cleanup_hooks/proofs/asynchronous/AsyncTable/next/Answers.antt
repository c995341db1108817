use Rattle.std.proofs.Common.{◌≡◌, ◌+◌, ◌∷◌, false, map, List, subst, arith}
use Rattle.napi_types.specs.plain.Lists.{has_number}
use Rattle.napi_types.specs.parts.AsyncHooks.{AsyncHook}
use Rattle.cleanup_hooks.proofs.AsyncRows.{number_fresh}
use Rattle.cleanup_hooks.proofs.asynchronous.AsyncTable.next.Goals as goal

pub returns-clause-fresh : goal.returns-clause-fresh
returns-clause-fresh c =
    subst (λ (hs : List AsyncHook). has_number (c.len.result + 1) (0 ∷ map (λ h. h.number) hs) ≡ false) c.self.view_is
    (number_fresh c.self.inside.rows.items (c.len.result + 1) (omega (arith, c.len.ensures)))
