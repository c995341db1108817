-- Cleanup hooks that begin.
use Rattle.std.specs.Prelude.{◌≡◌, ℕ, true, Some, option_map}
use Rattle.napi_types.specs.declared.duties.DueInfo.{DueInfo}
use Rattle.napi_types.specs.parts.AsyncHooks.{with_begun}
use Rattle.napi_types.specs.parts.Book.{Registration, is_registered, registration_at, due_info, made_due_and_begun, moved_at}
use Rattle.napi_types.specs.parts.Hooks.{last_hook, without_hook}
use Rattle.napi_types.specs.environment.Registry.{Registry}

-- the hook that was added last begins, and tells this: it is taken off the list, and its ticket falls due and begins. An asynchronous one waits from then on
pub record LastHookBegins (old : Registry) (due : DueInfo) (new : Registry) : Type 0 where
  pub ticket : ℕ
  pub registration : Registration
  pub last : option_map (λ h. h.ticket) (last_hook old.hooks) ≡ Some ticket
  pub registered : registration_at old.book ticket ≡ Some registration
  pub waits : is_registered registration.state ≡ true
  pub told : due ≡ due_info ticket registration
  pub begun : new ≡ record old {
    book = moved_at made_due_and_begun ticket old.book;
    hooks = without_hook ticket old.hooks;
    async_hooks = with_begun ticket old.async_hooks;
  }
