-- The hooks as their callers see them.
use Rattle.std.specs.Prelude.{◌≡◌, ℕ, ◌==◌, false, List, [], Option, Some, None, option_map}
use Rattle.std.specs.List.{All, list_any}
use Rattle.napi_types.specs.parts.AsyncHooks.{AsyncHook, async_hook}
use Rattle.napi_types.specs.parts.Hooks.{Hook}

-- those of both kinds that have neither begun nor been removed, in the order of adding, and how far each asynchronous one has come
pub record HookLists : Type 0 where
  pub hooks : List Hook
  pub async_hooks : List AsyncHook

-- an asynchronous hook of the list has the ticket of its number, and the ticket of a plain one is that of none of them
abbrev pub FitsNumber : List AsyncHook → ℕ → Option ℕ → Type 0
FitsNumber hooks ticket (Some n) = option_map (λ a. a.ticket) (async_hook n hooks) ≡ Some ticket
FitsNumber hooks ticket None = list_any (λ a. a.ticket == ticket) hooks ≡ false

abbrev pub AreNumbered : List AsyncHook → List Hook → Type 0
AreNumbered async_hooks hooks = All (λ h. FitsNumber async_hooks h.ticket h.number) hooks
