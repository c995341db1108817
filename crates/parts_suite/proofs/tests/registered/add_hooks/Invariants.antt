use Rattle.std.proofs.Common.{◌≡◌, ◌≤◌, ◌+◌, [], length}
use Rattle.std.specs.List.{All}
use Rattle.napi_types.specs.parts.AsyncHooks.{AsyncHook}
use Rattle.napi_types.specs.parts.Hooks.{Hook}
use Rattle.parts_suite.proofs.tests.registered.add_hooks.Given as goal

abbrev pub invariant-loop-argument : goal.invariant-loop-argument
invariant-loop-argument g l = All (λ (h : Hook). h.ticket ≤ l.argument) l.hooks.hooks × (l.hooks.async_hooks ≡ [])

abbrev pub invariant-loop-number : goal.invariant-loop-number
invariant-loop-number g l =
    All (λ (h : Hook). h.ticket ≤ 70000 + l.number) l.hooks.hooks
    × All (λ (h : AsyncHook). h.ticket ≤ 70000 + l.number) l.hooks.async_hooks
    × (length l.hooks.async_hooks ≤ 70000 + l.number)
