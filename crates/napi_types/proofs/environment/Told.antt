-- What a call replies: a result that tells of no frame, a duty that it makes, and one that it withdraws.
use Rattle.std.proofs.Common.{◌≡◌, ◌≤◌, ℕ, Bool, true, false, refl, Option, Some, None, arith}
use Rattle.napi_types.specs.declared.call.Call.{Call}
use Rattle.napi_types.specs.declared.call.Call.TheVariants as call
use Rattle.napi_types.specs.declared.entry.Duty.{Duty}
use Rattle.napi_types.specs.declared.entry.Out.{Out}
use Rattle.napi_types.specs.declared.entry.Out.TheVariants as out
use Rattle.napi_types.specs.declared.entry.Reply.{Reply}
use Rattle.napi_types.specs.declared.status.Status.TheVariants as status
use Rattle.napi_types.specs.declared.view.ViewInfo.{ViewInfo}
use Rattle.napi_types.specs.plain.Guards.{is_registering}
use Rattle.napi_types.specs.plain.Replies.{Answer, plain}
use Rattle.napi_types.specs.plain.Room.{need}
use Rattle.napi_types.specs.parts.AsyncHooks.{set_ticket}
use Rattle.napi_types.specs.parts.Attachments.{wrap_ticket}
use Rattle.napi_types.specs.parts.Book.{Registration}
use Rattle.napi_types.specs.parts.Frames.{caller_of}
use Rattle.napi_types.specs.parts.Heap.{handle_value}
use Rattle.napi_types.specs.parts.Hooks.{hook_ticket}
use Rattle.napi_types.specs.parts.InstanceData.{instance_ticket}
use Rattle.napi_types.specs.parts.Promises.{deferred_promise}
use Rattle.napi_types.specs.parts.References.{referred_value}
use Rattle.napi_types.specs.environment.BufferCalls.{view_asked, making_view}
use Rattle.napi_types.specs.environment.Calls.{effect, answer}
use Rattle.napi_types.specs.environment.Environment.{Environment}
use Rattle.napi_types.specs.environment.PromiseCalls.{settling, resolved, rejected, reaction_value, reaction_told}
use Rattle.napi_types.specs.environment.ReferenceCalls.{value_told, counted_up}
use Rattle.napi_types.specs.environment.Registering.{finalizer_of, registering, registered_only, withdrawing}
use Rattle.napi_types.specs.environment.WrapCalls.{referring_if}
use Rattle.napi_types.proofs.environment.Cases.{answer-by}

-- a result that tells of the begin of a frame, or of one that was cut
abbrev pub tells_frame : Out → Bool
tells_frame (out.Begin why addon entry duty) = true
tells_frame (out.Cut why) = true
tells_frame _ = false

-- the calls that withdraw a duty
abbrev pub withdraws : Call → Bool
withdraws (call.RemoveWrap v) = true
withdraws (call.SetInstanceData payload entry hint) = true
withdraws (call.RemoveEnvCleanupHook entry argument) = true
withdraws (call.RemoveAsyncCleanupHook hook) = true
withdraws _ = false

-- what the call may reply
pub data MayReply (c : Call) : Reply → Type 0 where
  told_plain : (r : Reply) → tells_frame r.out ≡ false → r.made ≡ None → r.dropped ≡ None → MayReply c r
  told_made : (r : Reply) (d : Duty) → is_registering c ≡ true → 3 ≤ need c → MayReply c r → MayReply c (record r { made = Some d })
  told_dropped : (r : Reply) (d : Duty) → withdraws c ≡ true → r.status ≡ status.Ok → MayReply c r → MayReply c (record r { dropped = Some d })

-- no call tells of a frame
pub told-unframed : (c : Call) (r : Reply) → MayReply c r → tells_frame r.out ≡ false
told-unframed c _ (told_plain r unframed none kept) = unframed
told-unframed c _ (told_made r d registers places t) = told-unframed c r t
told-unframed c _ (told_dropped r d may accepted t) = told-unframed c r t

-- EACH CALL, ONCE AND FOR ALL
module _ (c : Call) where
  registering-told : (o : Out) (d : Duty) → is_registering c ≡ true → 3 ≤ need c → tells_frame o ≡ false → MayReply c (record (plain status.Ok o) { made = Some d })
  registering-told o d registers places unframed = told_made (plain status.Ok o) d registers places (told_plain (plain status.Ok o) unframed refl refl)

  withdrawing-told : (t : Option ℕ) (a : Answer Environment) → withdraws c ≡ true → a.reply.status ≡ status.Ok → MayReply c a.reply → MayReply c (withdrawing t a).reply
  withdrawing-told None a may accepted so = so
  withdrawing-told (Some n) a may accepted so = told_dropped a.reply _ may accepted so

  setting-told : (f : Registration) (t : Option ℕ) (a : Answer Environment) → is_registering c ≡ true → 3 ≤ need c → withdraws c ≡ true
      → a.reply.status ≡ status.Ok → MayReply c a.reply → MayReply c (registering f (withdrawing t a)).reply
  setting-told f t a registers places may accepted so = told_made (withdrawing t a).reply _ registers places (withdrawing-told t a may accepted so)

  referring-told : (wanted : Bool) (n v : ℕ) (e : Environment) → MayReply c (referring_if wanted n v e).reply
  referring-told false n v e = told_plain _ refl refl refl
  referring-told true n v e = told_plain _ refl refl refl

  counted-told : (r : ℕ) (e : Environment) (v : Option ℕ) → MayReply c (counted_up r e v).reply
  counted-told r e None = told_plain _ refl refl refl
  counted-told r e (Some v) = told_plain _ refl refl refl

  value-told : (e : Environment) (v : Option ℕ) → MayReply c (value_told e v).reply
  value-told e None = told_plain _ refl refl refl
  value-told e (Some v) = told_plain _ refl refl refl

  settling-told : (e : Environment) (n v state : ℕ) (p : Option ℕ) → MayReply c (settling e n v state p).reply
  settling-told e n v state None = told_plain _ refl refl refl
  settling-told e n v state (Some p) = told_plain _ refl refl refl

  reaction-told : (e : Environment) (v : Option ℕ) → MayReply c (reaction_told e v).reply
  reaction-told e None = told_plain _ refl refl refl
  reaction-told e (Some v) = told_plain _ refl refl refl

  viewing-told : (e : Environment) (about : Option ViewInfo) → MayReply c (making_view e about).reply
  viewing-told e None = told_plain _ refl refl refl
  viewing-told e (Some about) = told_plain _ refl refl refl

pub effect-told : (e : Environment) (c : Call) (n : ℕ) → MayReply c (effect e c n).reply
effect-told e (call.ReferenceRef r) n = counted-told _ r.0 e (referred_value e.references r.0)
effect-told e (call.GetReferenceValue r) n = value-told _ e (referred_value e.references r.0)
effect-told e (call.Wrap v payload None hint wanted) n = referring-told _ wanted n _ _
effect-told e (call.Wrap v payload (Some entry) hint false) n = registering-told _ _ _ refl (omega arith) refl
effect-told e (call.Wrap v payload (Some entry) hint true) n = registering-told _ _ _ refl (omega arith) refl
effect-told e (call.RemoveWrap v) n =
    withdrawing-told _ (registered_only e.book (wrap_ticket e.attachments (handle_value e.heap v.0))) _ refl refl (told_plain _ refl refl refl)
effect-told e (call.AddFinalizer v payload entry hint false) n = registering-told _ _ _ refl (omega arith) refl
effect-told e (call.AddFinalizer v payload entry hint true) n = registering-told _ _ _ refl (omega arith) refl
effect-told e (call.CreateExternal payload None hint) n = told_plain _ refl refl refl
effect-told e (call.CreateExternal payload (Some entry) hint) n = registering-told _ _ _ refl (omega arith) refl
effect-told e (call.SetInstanceData payload None hint) n =
    withdrawing-told _ (registered_only e.book (instance_ticket e.instances (caller_of e.frames))) _ refl refl (told_plain _ refl refl refl)
effect-told e (call.SetInstanceData payload (Some entry) hint) n =
    let t : Option ℕ = registered_only e.book (instance_ticket e.instances (caller_of e.frames)) in
    setting-told _ (finalizer_of e payload entry hint) t _ refl (omega arith) refl refl (told_plain _ refl refl refl)
effect-told e (call.AddEnvCleanupHook entry argument) n = registering-told _ _ _ refl (omega arith) refl
effect-told e (call.RemoveEnvCleanupHook entry argument) n =
    withdrawing-told _ (registered_only e.book (hook_ticket (caller_of e.frames) entry argument e.hooks)) _ refl refl (told_plain _ refl refl refl)
effect-told e (call.AddAsyncCleanupHook entry argument) n = registering-told _ _ _ refl (omega arith) refl
effect-told e (call.RemoveAsyncCleanupHook hook) n =
    withdrawing-told _ (registered_only e.book (set_ticket hook.0 e.async_hooks)) _ refl refl (told_plain _ refl refl refl)
effect-told e (call.ResolveDeferred d v) n = settling-told _ e d.0 (handle_value e.heap v.0) resolved (deferred_promise e.promises d.0)
effect-told e (call.RejectDeferred d v) n = settling-told _ e d.0 (handle_value e.heap v.0) rejected (deferred_promise e.promises d.0)
effect-told e (call.AddReaction h entry payload) n = registering-told _ _ _ refl (omega arith) refl
effect-told e call.GetReactionValue n = reaction-told _ e (reaction_value e)
effect-told e (call.CreateExternalArraybuffer size payload entry hint) n = registering-told _ _ _ refl (omega arith) refl
effect-told e (call.CreateTypedarray kind h offset count) n = viewing-told _ e (view_asked e.buffers kind (handle_value e.heap h.0) offset count)
effect-told e c n = told_plain _ refl refl refl

pub answer-told : (e : Environment) (c : Call) (n : ℕ) → MayReply c (answer e c n).reply
answer-told e c n =
    answer-by e c n (λ a. MayReply c a.reply) (λ s. told_plain _ refl refl refl) (λ s. told_plain _ refl refl refl) (λ taken. effect-told e c n)
