-- The calls on cleanup hooks: what they answer and leave where nothing refuses them, and their own refusals.
use Rattle.std.specs.Prelude.{ℕ, Option, Some, None, List, [], ◌∷◌, ◌++◌, is_some}
use Rattle.napi_types.specs.declared.call.Call.{Call}
use Rattle.napi_types.specs.declared.call.Call.TheVariants as call
use Rattle.napi_types.specs.declared.entry.Cause.TheVariants as cause
use Rattle.napi_types.specs.declared.entry.Out.TheVariants as out
use Rattle.napi_types.specs.declared.status.Status.{Status}
use Rattle.napi_types.specs.declared.status.Status.TheVariants as status
use Rattle.napi_types.specs.plain.Lists.{when, unless}
use Rattle.napi_types.specs.plain.Replies.{Answer, accepts}
use Rattle.napi_types.specs.parts.AsyncHooks.{has_async_hook, set_ticket, with_async_hook, with_removed}
use Rattle.napi_types.specs.parts.Book.{Registration, Registered, new_ticket}
use Rattle.napi_types.specs.parts.Frames.{caller_of}
use Rattle.napi_types.specs.parts.Hooks.{Hook, hook_ticket, without_hook}
use Rattle.napi_types.specs.environment.Environment.{Environment}
use Rattle.napi_types.specs.environment.Group.{Group}
use Rattle.napi_types.specs.environment.Registering.{registering, registered_only, withdrawing}

-- ADDING
-- a hook as it is registered: its frame will run this entry of the addon, and be given the argument, and the number of an asynchronous hook or 0
abbrev pub hook_registration : ℕ → ℕ → ℕ → ℕ → Registration
hook_registration addon entry argument number =
    record { cause = cause.Hook; addon = addon; entry = entry; payload = argument; hint = number; state = Registered }

-- an environment with one hook more, the last one
abbrev pub with_hook : ℕ → ℕ → ℕ → Option ℕ → Environment → Environment
with_hook addon entry argument number e =
    record e { hooks = e.hooks ++ record { addon = addon; entry = entry; argument = argument; ticket = new_ticket e.book; number = number } ∷ [] }

-- `add_env_cleanup_hook` adds a hook of this addon, and registers it
abbrev pub hooking : Environment → ℕ → ℕ → ℕ → Answer Environment
hooking e addon entry argument = registering (hook_registration addon entry argument 0) (accepts out.Nothing (with_hook addon entry argument None e))

-- an environment with one asynchronous hook more, of this number
abbrev pub with_async : ℕ → ℕ → ℕ → ℕ → Environment → Environment
with_async addon entry argument number e =
    record (with_hook addon entry argument (Some number) e) { async_hooks = with_async_hook number (new_ticket e.book) e.async_hooks }

-- `add_async_cleanup_hook` adds an asynchronous hook of this addon, gives its number, and registers it
abbrev pub async_hooking : Environment → ℕ → ℕ → ℕ → ℕ → Answer Environment
async_hooking e addon entry argument number =
    registering (hook_registration addon entry argument number)
    (accepts (out.AsyncHook (record { 0 = number })) (with_async addon entry argument number e))

-- REMOVING
-- the hooks without the one of this ticket, where one is named
abbrev pub unhooked : Option ℕ → List Hook → List Hook
unhooked None hooks = hooks
unhooked (Some ticket) hooks = without_hook ticket hooks

-- `remove_env_cleanup_hook` takes the hook of this ticket off the list, and withdraws it
abbrev pub unhooking : Environment → Option ℕ → Answer Environment
unhooking e ticket = withdrawing (registered_only e.book ticket) (accepts out.Nothing (record e { hooks = unhooked ticket e.hooks }))

-- `remove_async_cleanup_hook` removes the hook of this number; one that has not begun is taken off the list as well, and withdrawn
abbrev pub async_unhooking : Environment → ℕ → Answer Environment
async_unhooking e number =
    unhooking (record e { async_hooks = with_removed number e.async_hooks }) (set_ticket number e.async_hooks)

-- THE CALLS
-- a new asynchronous hook has the number that the entry newly gives
abbrev pub on_hooks : Environment → Call → ℕ → Option (Answer Environment)
on_hooks e (call.AddEnvCleanupHook entry argument) n = Some (hooking e (caller_of e.frames) entry argument)
on_hooks e (call.RemoveEnvCleanupHook entry argument) n = Some (unhooking e (hook_ticket (caller_of e.frames) entry argument e.hooks))
on_hooks e (call.AddAsyncCleanupHook entry argument) n = Some (async_hooking e (caller_of e.frames) entry argument n)
on_hooks e (call.RemoveAsyncCleanupHook hook) n = Some (async_unhooking e hook.0)
on_hooks e _ n = None

-- THEIR OWN REFUSALS
-- an addon adds no plain hook that stands in the list as its own, and removes only one that does: one that was removed, or has begun, stands there no longer.
-- An asynchronous hook may always be added, and removed once, whoever added it and however far it has come
abbrev pub hook_refusal : Environment → Call → Option Status
hook_refusal e (call.AddEnvCleanupHook entry argument) = when (is_some (hook_ticket (caller_of e.frames) entry argument e.hooks)) status.InvalidArg
hook_refusal e (call.RemoveEnvCleanupHook entry argument) = unless (is_some (hook_ticket (caller_of e.frames) entry argument e.hooks)) status.InvalidArg
hook_refusal e (call.RemoveAsyncCleanupHook hook) = unless (has_async_hook hook.0 e.async_hooks) status.InvalidArg
hook_refusal e _ = None

-- what the environment tells of these calls
abbrev pub hook_calls : Group
hook_calls = record { refuses = hook_refusal; answers = on_hooks }
