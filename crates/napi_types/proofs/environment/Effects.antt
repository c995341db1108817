-- What each call of the environment has for an effect: one thing first, and then what is registered, attached and set besides.
use Rattle.std.proofs.Common.{◌≡◌, ℕ, ◌+◌, ◌==◌, Bool, true, false, cond, refl, ap, subst, Option, Some, None, ◌⊎◌, inl, inr}
use Rattle.std.specs.Option.{IfSome, unwrap_or}
use Rattle.napi_types.specs.declared.body.Body.TheVariants as body
use Rattle.napi_types.specs.declared.call.Call.{Call}
use Rattle.napi_types.specs.declared.call.Call.TheVariants as call
use Rattle.napi_types.specs.declared.entry.Cause.TheVariants as cause
use Rattle.napi_types.specs.declared.entry.Duty.{Duty}
use Rattle.napi_types.specs.declared.entry.Out.TheVariants as out
use Rattle.napi_types.specs.declared.ids.TextNo.{TextNo}
use Rattle.napi_types.specs.declared.view.ViewInfo.{ViewInfo}
use Rattle.napi_types.specs.plain.Replies.{Answer, accepts}
use Rattle.napi_types.specs.parts.Attachments.{Attachments, wrap_payload, wrap_ticket, with_wrap, without_wrap, with_tag, with_attached}
use Rattle.napi_types.specs.parts.Bodies.{buffer_tag}
use Rattle.napi_types.specs.parts.Book.{Book, Registration, cause_at, is_registered, is_at, made_withdrawn, moved, moved_at, new_ticket, with_registration, ticket_duty}
use Rattle.napi_types.specs.parts.Buffers.{with_buffer, with_detached, with_element_written}
use Rattle.napi_types.specs.parts.Frames.{caller_of}
use Rattle.napi_types.specs.parts.Heap.{handle_value}
use Rattle.napi_types.specs.parts.HeapCalls.{addon_effect}
use Rattle.napi_types.specs.parts.HeapChanges.{new_value, new_linked, with_handle}
use Rattle.napi_types.specs.parts.Hooks.{hook_ticket}
use Rattle.napi_types.specs.parts.InstanceData.{InstanceData, instance_ticket, with_instance}
use Rattle.napi_types.specs.parts.Promises.{deferred_promise}
use Rattle.napi_types.specs.parts.References.{referred_value, with_reference, without_reference, with_count}
use Rattle.napi_types.specs.parts.Values.{undefined_value}
use Rattle.napi_types.specs.environment.BufferCalls.{with_buffers, view_asked, making_view}
use Rattle.napi_types.specs.environment.Calls.{effect}
use Rattle.napi_types.specs.environment.Collection.{collected}
use Rattle.napi_types.specs.environment.Environment.{Environment, with_heap}
use Rattle.napi_types.specs.environment.ExceptionCalls.{with_pending, with_thrown_error}
use Rattle.napi_types.specs.environment.HookCalls.{hooking, async_hooking, unhooking, async_unhooking}
use Rattle.napi_types.specs.environment.PromiseCalls.{with_settlement, promising, settling, resolved, rejected, reacting, reaction_value, reaction_told}
use Rattle.napi_types.specs.environment.ReferenceCalls.{with_references, value_told, counted_up}
use Rattle.napi_types.specs.environment.Registering.{finalizer_of, registering, registered_only, withdrawing}
use Rattle.napi_types.specs.environment.Roots.{reach}
use Rattle.napi_types.specs.environment.WrapCalls.{with_attachments}
use Rattle.napi_types.proofs.parts.BookSteps.{BookStep, adds, swaps}
use Rattle.napi_types.proofs.parts.Books.{length-changed_where}
use Rattle.napi_types.proofs.parts.Moved.{at-cause, registration_at-new}

-- a ticket is that of a finalizer
abbrev pub Finalizes : Book → ℕ → Type 0
Finalizes book n = cause_at book n ≡ Some cause.Finalize

-- a value has the ticket, or instance data of the addon that makes the call
abbrev pub HangsOn : Environment → ℕ → Type 0
HangsOn e t = ((v : ℕ) × (wrap_ticket e.attachments v ≡ Some t)) ⊎ (instance_ticket e.instances (caller_of e.frames) ≡ Some t)

-- what is attached to values changes in one place
pub data Attaches (book : Book) (a : Attachments) : Attachments → Type 0 where
  wraps : (v payload : ℕ) (t : Option ℕ) → IfSome t (Finalizes book) → Attaches book a (with_wrap v payload t a)
  hangs : (v t : ℕ) → Finalizes book t → Attaches book a (with_attached v t a)
  unwraps : (v : ℕ) → Attaches book a (without_wrap v a)
  tags : (v lower upper : ℕ) → Attaches book a (with_tag v lower upper a)

-- the answer of a call that removes a hook
abbrev pub removing : Environment → ℕ → ℕ → Answer Environment
removing e entry argument = unhooking e (hook_ticket (caller_of e.frames) entry argument e.hooks)

-- an environment with a buffer more, and a handle of it
abbrev pub buffer_made : Environment → ℕ → Option ℕ → Environment
buffer_made e size t = with_heap (with_buffers (with_buffer (e.heap.made + 1) size t e.buffers) e) (new_linked buffer_tag None e.heap).after

-- what a call makes of the environment, with the duties that it makes and withdraws
pub data Effect (c : Call) (e : Environment) : Option Duty → Option Duty → Environment → Type 0 where
  -- ONE OF THESE FIRST
  -- nothing, or what the heap tells of the call
  rests : Effect c e None None e
  tells : (n : ℕ) → Effect c e None None (with_heap e (addon_effect (caller_of e.frames) e.heap c n).after)
  -- a new external, the pending exception, and a handle of a value that is there
  makes : (payload : ℕ) → Effect c e None None (with_heap e (new_value (body.External payload) e.heap).after)
  throws : (h : ℕ) → Effect c e None None (with_pending (Some (handle_value e.heap h)) e)
  raises : (code : Option TextNo) (message : TextNo) → Effect c e None None (with_thrown_error code message e)
  clears : Effect c e None None (with_pending None (with_heap e (with_handle (unwrap_or e.pending undefined_value) e.heap)))
  recalls : (r v : ℕ) → referred_value e.references r ≡ Some v → Effect c e None None (with_heap e (with_handle v e.heap))
  -- the references, and a collection
  refers : (n h count : ℕ) → Effect c e None None (with_references (with_reference n (handle_value e.heap h) count e.references) e)
  deletes : (r : ℕ) → Effect c e None None (with_references (without_reference r e.references) e)
  counts : (r count : ℕ) → Effect c e None None (with_references (with_count r count e.references) e)
  collects : Effect c e None None (collected (reach e) e)
  -- a new promise, a deferred that is settled, a reaction that is added, and the value that settled its promise
  promises : (n : ℕ) → Effect c e None None (promising e n).after
  settles : (n h state p : ℕ) → deferred_promise e.promises n ≡ Some p
      → Effect c e None None (with_settlement n p (handle_value e.heap h) state e)
  reacts : (v entry payload : ℕ) → Effect c e (Some (ticket_duty (new_ticket e.book))) None (reacting e v entry payload).after
  reads : (v : ℕ) → reaction_value e ≡ Some v → Effect c e None None (with_heap e (with_handle v e.heap))
  -- a new buffer, with the ticket of its finalizer where it has one; a new view; a buffer that is detached, and an element that is written
  makes_buffer : (size : ℕ) (t : Option ℕ) → Effect c e None None (buffer_made e size t)
  makes_view : (about : ViewInfo) → Effect c e None None (making_view e (Some about)).after
  detaches : (v : ℕ) → Effect c e None None (with_buffers (with_detached v e.buffers) e)
  writes : (v at number : ℕ) → Effect c e None None (with_buffers (with_element_written v at number e.buffers) e)
  -- the hooks, a finalizer that is withdrawn, and that exit is asked
  adds_hook : (entry argument : ℕ) → Effect c e (Some (ticket_duty (new_ticket e.book))) None (hooking e (caller_of e.frames) entry argument).after
  removes_hook : (entry argument : ℕ)
      → Effect c e (removing e entry argument).reply.made (removing e entry argument).reply.dropped (removing e entry argument).after
  adds_async : (entry argument number : ℕ) → c ≡ call.AddAsyncCleanupHook entry argument
      → Effect c e (Some (ticket_duty (new_ticket e.book))) None (async_hooking e (caller_of e.frames) entry argument number).after
  removes_async : (number : ℕ) → Effect c e (async_unhooking e number).reply.made (async_unhooking e number).reply.dropped (async_unhooking e number).after
  withdraws : (t : ℕ) → HangsOn e t → is_at is_registered e.book t ≡ true
      → Effect c e None (Some (ticket_duty t)) (record e { book = moved_at made_withdrawn t e.book })
  asks_exit : c ≡ call.Exit → Effect c e None None (record e { exit_asked = true })
  -- AND THEN THESE
  -- a finalizer, what is attached to a value, and instance data
  registers : {d : Environment} {dropped : Option Duty} (payload entry hint : ℕ) → Effect c e None dropped d
      → BookStep (caller_of e.frames) e.book (Some (ticket_duty (new_ticket d.book))) dropped (with_registration (finalizer_of e payload entry hint) d.book)
      → Effect c e (Some (ticket_duty (new_ticket d.book))) dropped (record d { book = with_registration (finalizer_of e payload entry hint) d.book })
  attaches : {d : Environment} {a : Attachments} {made dropped : Option Duty} → Effect c e made dropped d → Attaches d.book d.attachments a
      → Effect c e made dropped (with_attachments a d)
  sets : {d : Environment} {made dropped : Option Duty} (i : InstanceData) → Effect c e made dropped d → IfSome i.ticket (Finalizes d.book)
      → Effect c e made dropped (record d { instances = with_instance (caller_of e.frames) i d.instances })

-- an answer that tells these duties
abbrev pub EffectOf : Call → Environment → Answer Environment → Type 0
EffectOf c e a = Effect c e a.reply.made a.reply.dropped a.after

-- a ticket is withdrawn where it is registered
pub registered-by : (book : Book) (t : Option ℕ) (P : Option ℕ → Type 0) → P None → ((n : ℕ) → t ≡ Some n → is_at is_registered book n ≡ true → P (Some n))
    → P (registered_only book t)
registered-by book None P none some = none
registered-by book (Some n) P none some = by (is_at is_registered book n) refl
  where
    by : (b : Bool) → is_at is_registered book n ≡ b → P (cond b (Some n) None)
    by true is = some n refl is
    by false is = none

module _ (c : Call) (e : Environment) where
  counted-effect : (r : ℕ) (v : Option ℕ) → EffectOf c e (counted_up r e v)
  counted-effect r None = rests
  counted-effect r (Some v) = counts r _

  value-effect : (r : ℕ) (v : Option ℕ) → referred_value e.references r ≡ v → EffectOf c e (value_told e v)
  value-effect r None is = rests
  value-effect r (Some v) is = recalls r v is

  settling-effect : (n h state : ℕ) (p : Option ℕ) → deferred_promise e.promises n ≡ p → EffectOf c e (settling e n (handle_value e.heap h) state p)
  settling-effect n h state None is = rests
  settling-effect n h state (Some p) is = settles n h state p is

  reading-effect : (v : Option ℕ) → reaction_value e ≡ v → EffectOf c e (reaction_told e v)
  reading-effect None is = rests
  reading-effect (Some v) is = reads v is

  viewing-effect : (about : Option ViewInfo) → EffectOf c e (making_view e about)
  viewing-effect None = rests
  viewing-effect (Some about) = makes_view about

-- EACH CALL, ONCE AND FOR ALL
new-finalizes : (e : Environment) (payload entry hint : ℕ) (book : Book)
    → Finalizes (with_registration (finalizer_of e payload entry hint) book) (new_ticket book)
new-finalizes e payload entry hint book =
    let r : Registration = finalizer_of e payload entry hint in at-cause (with_registration r book) (new_ticket book) r (registration_at-new book r)

pub effect-of : (e : Environment) (c : Call) (n : ℕ) → EffectOf c e (effect e c n)
effect-of e (call.Throw v) n = throws v.0
effect-of e (call.ThrowError code message) n = raises code message
effect-of e call.IsExceptionPending n = rests
effect-of e call.GetLastErrorInfo n = rests
effect-of e call.GetAndClearLastException n = clears
effect-of e (call.CreateReference v count) n = refers n v.0 count
effect-of e (call.DeleteReference r) n = deletes r.0
effect-of e (call.ReferenceRef r) n = counted-effect _ e r.0 (referred_value e.references r.0)
effect-of e (call.ReferenceUnref r) n = counts r.0 _
effect-of e (call.GetReferenceValue r) n = value-effect _ e r.0 (referred_value e.references r.0) refl
effect-of e (call.Wrap v payload None hint false) n = attaches rests (wraps _ payload None tt)
effect-of e (call.Wrap v payload None hint true) n = attaches (refers n v.0 0) (wraps _ payload None tt)
effect-of e (call.Wrap v payload (Some entry) hint false) n =
    attaches (registers payload entry hint rests (adds _ _ refl refl (λ h. cc) refl))
    (wraps _ payload (Some _) (new-finalizes e payload entry hint e.book))
effect-of e (call.Wrap v payload (Some entry) hint true) n =
    attaches (registers payload entry hint (refers n v.0 0) (adds _ _ refl refl (λ h. cc) refl))
    (wraps _ payload (Some _) (new-finalizes e payload entry hint e.book))
effect-of e (call.Unwrap v) n = rests
effect-of e (call.RemoveWrap v) n =
    let x : ℕ = handle_value e.heap v.0 in
    let a : Answer Environment = accepts (out.Unsigned (wrap_payload e.attachments x)) (with_attachments (without_wrap x e.attachments) e) in
    registered-by e.book (wrap_ticket e.attachments x) (λ t. EffectOf (call.RemoveWrap v) e (withdrawing t a))
    (attaches rests (unwraps x)) (λ t here is. attaches (withdraws t (inl (x, here)) is) (unwraps x))
effect-of e (call.TypeTagObject v lower upper) n = attaches rests (tags _ lower upper)
effect-of e (call.CheckObjectTypeTag v lower upper) n = rests
effect-of e (call.AddFinalizer v payload entry hint false) n =
    attaches (registers payload entry hint rests (adds _ _ refl refl (λ h. cc) refl))
    (hangs _ _ (new-finalizes e payload entry hint e.book))
effect-of e (call.AddFinalizer v payload entry hint true) n =
    attaches (registers payload entry hint (refers n v.0 0) (adds _ _ refl refl (λ h. cc) refl))
    (hangs _ _ (new-finalizes e payload entry hint e.book))
effect-of e (call.CreateExternal payload None hint) n = makes payload
effect-of e (call.CreateExternal payload (Some entry) hint) n =
    attaches (registers payload entry hint (makes payload) (adds _ _ refl refl (λ h. cc) refl))
    (hangs _ _ (new-finalizes e payload entry hint e.book))
effect-of e (call.SetInstanceData payload None hint) n =
    let i : InstanceData = record { payload = payload; ticket = None } in
    let a : Answer Environment = accepts out.Nothing (record e { instances = with_instance (caller_of e.frames) i e.instances }) in
    registered-by e.book (instance_ticket e.instances (caller_of e.frames)) (λ t. EffectOf (call.SetInstanceData payload None hint) e (withdrawing t a))
    (sets i rests tt) (λ t here is. sets i (withdraws t (inr here) is) tt)
effect-of e (call.SetInstanceData payload (Some entry) hint) n =
    let i : InstanceData = record { payload = payload; ticket = Some (new_ticket e.book) } in
    let r : Registration = finalizer_of e payload entry hint in
    let a : Answer Environment = accepts out.Nothing (record e { instances = with_instance (caller_of e.frames) i e.instances }) in
    registered-by e.book (instance_ticket e.instances (caller_of e.frames))
    (λ t. EffectOf (call.SetInstanceData payload (Some entry) hint) e (registering r (withdrawing t a)))
    (sets i (registers payload entry hint rests (adds _ _ refl refl (λ h. cc) refl)) (new-finalizes e payload entry hint e.book))
    (λ t here is.
    let left : Book = moved_at made_withdrawn t e.book in
    let same : new_ticket left ≡ new_ticket e.book = ap (λ m. m + 1) (length-changed_where (moved made_withdrawn) (λ m. m == t) e.book) in
    sets i (registers payload entry hint (withdraws t (inr here) is) (swaps t r _ is refl refl (λ h. cc) refl))
    (subst (Finalizes (with_registration r left)) same (new-finalizes e payload entry hint left)))
effect-of e call.GetInstanceData n = rests
effect-of e (call.AddEnvCleanupHook entry argument) n = adds_hook entry argument
effect-of e (call.RemoveEnvCleanupHook entry argument) n = removes_hook entry argument
effect-of e (call.AddAsyncCleanupHook entry argument) n = adds_async entry argument n refl
effect-of e (call.RemoveAsyncCleanupHook hook) n = removes_async hook.0
effect-of e call.CreatePromise n = promises n
effect-of e (call.ResolveDeferred d v) n = settling-effect _ e d.0 v.0 resolved (deferred_promise e.promises d.0) refl
effect-of e (call.RejectDeferred d v) n = settling-effect _ e d.0 v.0 rejected (deferred_promise e.promises d.0) refl
effect-of e (call.AddReaction h entry payload) n = reacts (handle_value e.heap h.0) entry payload
effect-of e call.GetReactionValue n = reading-effect _ e (reaction_value e) refl
effect-of e (call.CreateArraybuffer size) n = makes_buffer size None
effect-of e (call.CreateExternalArraybuffer size payload entry hint) n =
    attaches (registers payload entry hint (makes_buffer size (Some (new_ticket e.book))) (adds _ _ refl refl (λ h. cc) refl))
    (hangs _ _ (new-finalizes e payload entry hint e.book))
effect-of e (call.IsArraybuffer h) n = rests
effect-of e (call.IsDetachedArraybuffer h) n = rests
effect-of e (call.GetArraybufferInfo h) n = rests
effect-of e (call.DetachArraybuffer h) n = detaches (handle_value e.heap h.0)
effect-of e (call.CreateTypedarray kind h offset count) n = viewing-effect _ e (view_asked e.buffers kind (handle_value e.heap h.0) offset count)
effect-of e (call.GetView h at) n = rests
effect-of e (call.SetView h at number) n = writes (handle_value e.heap h.0) at number
effect-of e call.Collect n = collects
effect-of e call.Exit n = asks_exit refl
effect-of e c n = tells n
