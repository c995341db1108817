-- The calls that change no buffer and no view.
use Rattle.std.proofs.Common.{◌≡◌, ◌≤◌, ℕ, Bool, true, false, cond, Option, Some, None, refl, ap, arith}
use Rattle.napi_types.specs.declared.call.Call.{Call}
use Rattle.napi_types.specs.declared.call.Call.TheVariants as call
use Rattle.napi_types.specs.plain.Replies.{Answer}
use Rattle.napi_types.specs.parts.AsyncHooks.{set_ticket}
use Rattle.napi_types.specs.parts.Attachments.{wrap_ticket}
use Rattle.napi_types.specs.parts.Book.{Book, is_registered, is_at}
use Rattle.napi_types.specs.parts.Buffers.{Buffers}
use Rattle.napi_types.specs.parts.Frames.{caller_of}
use Rattle.napi_types.specs.parts.Heap.{handle_value}
use Rattle.napi_types.specs.parts.Hooks.{hook_ticket}
use Rattle.napi_types.specs.parts.InstanceData.{instance_ticket}
use Rattle.napi_types.specs.parts.Promises.{deferred_promise}
use Rattle.napi_types.specs.parts.References.{referred_value}
use Rattle.napi_types.specs.environment.Calls.{effect}
use Rattle.napi_types.specs.environment.Environment.{Environment}
use Rattle.napi_types.specs.environment.Hooked.{IsHooked}
use Rattle.napi_types.specs.environment.PromiseCalls.{settling, resolved, rejected, reaction_value, reaction_told}
use Rattle.napi_types.specs.environment.ReferenceCalls.{value_told, counted_up}
use Rattle.napi_types.specs.environment.Registering.{registered_only, withdrawing}
use Rattle.napi_types.proofs.all_runs.BytesKept.{StoredBytes, stored}
use Rattle.napi_types.proofs.all_runs.QuietCalls.{quiet-of}

-- all but those that make a buffer or a view, write, detach and collect
abbrev pub keeps_buffers : Call → Bool
keeps_buffers (call.CreateArraybuffer size) = false
keeps_buffers (call.CreateExternalArraybuffer size payload entry hint) = false
keeps_buffers (call.CreateTypedarray kind h offset count) = false
keeps_buffers (call.SetView h at number) = false
keeps_buffers (call.DetachArraybuffer h) = false
keeps_buffers call.Collect = false
keeps_buffers c = true

-- MORE VALUES ARE MADE
module _ (e : Environment) where
  settling-grows : (n v state : ℕ) (o : Option ℕ) → e.heap.made ≤ (settling e n v state o).after.heap.made
  settling-grows n v state None = omega arith
  settling-grows n v state (Some p) = omega arith

pub only-grows : (e : Environment) (c : Call) (n : ℕ) → IsHooked e → e.heap.made ≤ (effect e c n).after.heap.made
only-grows e call.CreatePromise n h = omega arith
only-grows e (call.ResolveDeferred d v) n h = settling-grows e d.0 (handle_value e.heap v.0) resolved (deferred_promise e.promises d.0)
only-grows e (call.RejectDeferred d v) n h = settling-grows e d.0 (handle_value e.heap v.0) rejected (deferred_promise e.promises d.0)
only-grows e (call.AddReaction x entry payload) n h = omega arith
only-grows e call.Collect n h = omega arith
only-grows e c n h = (quiet-of e c n h refl).grows

-- THE BUFFERS STAY
-- an answer leaves these buffers
abbrev pub LeavesBuffers : Buffers → Answer Environment → Type 0
LeavesBuffers b a = a.after.buffers ≡ b

withdrawing-leaves : (b : Buffers) (o : Option ℕ) (a : Answer Environment) → LeavesBuffers b a → LeavesBuffers b (withdrawing o a)
withdrawing-leaves b None a is = is
withdrawing-leaves b (Some t) a is = is

module _ (e : Environment) where
  counted-leaves : (r : ℕ) (v : Option ℕ) → LeavesBuffers e.buffers (counted_up r e v)
  counted-leaves r None = refl
  counted-leaves r (Some v) = refl

  value-leaves : (v : Option ℕ) → LeavesBuffers e.buffers (value_told e v)
  value-leaves None = refl
  value-leaves (Some v) = refl

  reaction-leaves : (v : Option ℕ) → LeavesBuffers e.buffers (reaction_told e v)
  reaction-leaves None = refl
  reaction-leaves (Some v) = refl

  settling-leaves : (n v state : ℕ) (o : Option ℕ) → LeavesBuffers e.buffers (settling e n v state o)
  settling-leaves n v state None = refl
  settling-leaves n v state (Some p) = refl

pub call-leaves : (e : Environment) (c : Call) (n : ℕ) → keeps_buffers c ≡ true → LeavesBuffers e.buffers (effect e c n)
call-leaves e (call.ReferenceRef r) n is = counted-leaves e r.0 (referred_value e.references r.0)
call-leaves e (call.GetReferenceValue r) n is = value-leaves e (referred_value e.references r.0)
call-leaves e (call.Wrap v payload None hint false) n is = refl
call-leaves e (call.Wrap v payload None hint true) n is = refl
call-leaves e (call.Wrap v payload (Some entry) hint false) n is = refl
call-leaves e (call.Wrap v payload (Some entry) hint true) n is = refl
call-leaves e (call.RemoveWrap v) n is = withdrawing-leaves e.buffers (registered_only e.book (wrap_ticket e.attachments (handle_value e.heap v.0))) _ refl
call-leaves e (call.AddFinalizer v payload entry hint false) n is = refl
call-leaves e (call.AddFinalizer v payload entry hint true) n is = refl
call-leaves e (call.CreateExternal payload None hint) n is = refl
call-leaves e (call.CreateExternal payload (Some entry) hint) n is = refl
call-leaves e (call.SetInstanceData payload None hint) n is =
    withdrawing-leaves e.buffers (registered_only e.book (instance_ticket e.instances (caller_of e.frames))) _ refl
call-leaves e (call.SetInstanceData payload (Some entry) hint) n is =
    withdrawing-leaves e.buffers (registered_only e.book (instance_ticket e.instances (caller_of e.frames))) _ refl
call-leaves e (call.RemoveEnvCleanupHook entry argument) n is =
    withdrawing-leaves e.buffers (registered_only e.book (hook_ticket (caller_of e.frames) entry argument e.hooks)) _ refl
call-leaves e (call.RemoveAsyncCleanupHook hook) n is = withdrawing-leaves e.buffers (registered_only e.book (set_ticket hook.0 e.async_hooks)) _ refl
call-leaves e (call.ResolveDeferred d v) n is = settling-leaves e d.0 (handle_value e.heap v.0) resolved (deferred_promise e.promises d.0)
call-leaves e (call.RejectDeferred d v) n is = settling-leaves e d.0 (handle_value e.heap v.0) rejected (deferred_promise e.promises d.0)
call-leaves e call.GetReactionValue n is = reaction-leaves e (reaction_value e)
call-leaves e (call.CreateArraybuffer size) n is = cc
call-leaves e (call.CreateExternalArraybuffer size payload entry hint) n is = cc
call-leaves e (call.CreateTypedarray kind h offset count) n is = cc
call-leaves e (call.SetView h at number) n is = cc
call-leaves e (call.DetachArraybuffer h) n is = cc
call-leaves e call.Collect n is = cc
call-leaves e c n is = refl

pub quiet-stored : (e : Environment) (c : Call) (n : ℕ) → keeps_buffers c ≡ true
    → stored (effect e c n).after ≡ record (stored e) { made = (effect e c n).after.heap.made }
quiet-stored e c n is = ap (λ b. let v : StoredBytes = record { made = (effect e c n).after.heap.made; buffers = b } in v) (call-leaves e c n is)
