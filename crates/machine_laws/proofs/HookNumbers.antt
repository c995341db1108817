-- What knows an asynchronous hook: its number, and nothing else.
use Rattle.std.proofs.Common.{◌≡◌, ◌∙◌, ℕ, ◌==◌, Bool, true, false, ◌&&◌, cond, List, [], ◌∷◌, ◌++◌, find, Option, Some, None, option_map, refl, ap, sym}
use Rattle.std.specs.Option.{option_map_or}
use Rattle.napi_types.specs.declared.call.Call.{Call}
use Rattle.napi_types.specs.declared.call.Call.TheVariants as call
use Rattle.napi_types.specs.declared.entry.Out.TheVariants as out
use Rattle.napi_types.specs.declared.ids.AsyncHookId.{AsyncHookId}
use Rattle.napi_types.specs.declared.status.Status.TheVariants as status
use Rattle.napi_types.specs.plain.Lists.{unless}
use Rattle.napi_types.specs.plain.Replies.{Answer, accepts}
use Rattle.napi_types.specs.parts.AsyncHooks.{AsyncHook, Removed, is_held, in_state, has_async_hook, set_ticket, with_removed}
use Rattle.napi_types.specs.parts.Frames.{caller_of}
use Rattle.napi_types.specs.parts.Hooks.{Hook, is_hook}
use Rattle.napi_types.specs.environment.Calls.{effect, answer, answer_unless}
use Rattle.napi_types.specs.environment.Environment.{Environment}
use Rattle.napi_types.specs.environment.HookCalls.{hook_refusal, unhooked}
use Rattle.napi_types.specs.environment.Refusals.{refusal_before_depth, refusal}
use Rattle.napi_types.specs.environment.Registering.{withdrawing}
use Rattle.napi_types.proofs.plain.Lists.{option_or-none}
use Rattle.napi_types.proofs.environment.Effects.{registered-by}
use Rattle.machine_laws.specs.CallLaws.{AsyncHooksAreKnownByNumber}

-- ADDED
-- no plain hook is one with a number
last-fails : (a b c : Bool) → (a && b && c && false) ≡ false
last-fails false b c = refl
last-fails true false c = refl
last-fails true true false = refl
last-fails true true true = refl

-- so a list with such a one at its end has the same plain hooks
found-before : (addon entry argument : ℕ) (hooks : List Hook) (x : Hook) → is_hook addon entry argument x ≡ false
    → find (is_hook addon entry argument) (hooks ++ x ∷ []) ≡ find (is_hook addon entry argument) hooks
found-before addon entry argument [] x other = ap (λ b. cond b (Some x) None) other
found-before addon entry argument (h ∷ hooks) x other = ap (cond (is_hook addon entry argument h) (Some h)) (found-before addon entry argument hooks x other)

-- REMOVED
-- one that was removed is there no longer
removed-unknown : (n : ℕ) (others : List AsyncHook) → has_async_hook n (with_removed n others) ≡ false
removed-unknown n [] = refl
removed-unknown n (h ∷ others) = by (h.number == n) refl (removed-unknown n others)
  where
    by : (b : Bool) → (h.number == n) ≡ b → has_async_hook n (with_removed n others) ≡ false
        → has_async_hook n (cond b (in_state Removed h) h ∷ with_removed n others) ≡ false
    by true is later =
        ap (λ b. option_map_or (λ (k : AsyncHook). is_held k.state) (cond b (Some (in_state Removed h)) (find (λ (k : AsyncHook). k.number == n) (with_removed n others))) false) is
    by false is later =
        ap (λ b. option_map_or (λ (k : AsyncHook). is_held k.state) (cond b (Some h) (find (λ (k : AsyncHook). k.number == n) (with_removed n others))) false) is ∙ later

-- CALLS
-- an accepted one has its effect
adds-accepted : (e : Environment) (entry argument n : ℕ) → refusal e (call.AddAsyncCleanupHook entry argument) ≡ None
    → answer e (call.AddAsyncCleanupHook entry argument) n ≡ effect e (call.AddAsyncCleanupHook entry argument) n
adds-accepted e entry argument n none =
    let c : Call = call.AddAsyncCleanupHook entry argument in
    ap (answer_unless e c n) (sym (option_or-none (refusal_before_depth e c)) ∙ none)

removes-accepted : (e : Environment) (hook : AsyncHookId) (n : ℕ) → refusal e (call.RemoveAsyncCleanupHook hook) ≡ None
    → answer e (call.RemoveAsyncCleanupHook hook) n ≡ effect e (call.RemoveAsyncCleanupHook hook) n
removes-accepted e hook n none =
    let c : Call = call.RemoveAsyncCleanupHook hook in
    ap (answer_unless e c n) (sym (option_or-none (refusal_before_depth e c)) ∙ none)

refused-again : (e : Environment) (hook : AsyncHookId) (n : ℕ)
    → hook_refusal (effect e (call.RemoveAsyncCleanupHook hook) n).after (call.RemoveAsyncCleanupHook hook) ≡ Some status.InvalidArg
refused-again e hook n =
    let t : Option ℕ = set_ticket hook.0 e.async_hooks in
    let left : Environment = record e { hooks = unhooked t e.hooks; async_hooks = with_removed hook.0 e.async_hooks } in
    let unknown : hook_refusal left (call.RemoveAsyncCleanupHook hook) ≡ Some status.InvalidArg =
    ap (λ b. unless b status.InvalidArg) (removed-unknown hook.0 e.async_hooks) in
    registered-by e.book t (λ s. hook_refusal (withdrawing s (accepts out.Nothing left)).after (call.RemoveAsyncCleanupHook hook) ≡ Some status.InvalidArg) unknown
    (λ k here is. unknown)

pub known-by-number : AsyncHooksAreKnownByNumber
known-by-number e n = record {
  added = λ entry argument. refl;
  plain = λ entry argument none addon other about.
      ap (λ (a : Answer Environment). option_map (λ (h : Hook). h.ticket) (find (is_hook addon other about) a.after.hooks)) (adds-accepted e entry argument n none)
      ∙ ap (option_map (λ (h : Hook). h.ticket)) (found-before addon other about e.hooks _ (last-fails (caller_of e.frames == addon) (entry == other) (argument == about)));
  once = λ hook none.
      ap (λ (a : Answer Environment). hook_refusal a.after (call.RemoveAsyncCleanupHook hook)) (removes-accepted e hook n none) ∙ refused-again e hook n;
}
