-- The calls that make no buffer and no view, settle nothing and collect nothing.
use Rattle.std.proofs.Common.{◌≡◌, ◌∙◌, ◌<◌, ◌≤◌, ℕ, ◌+◌, ◌==◌, Bool, true, false, cond, List, [], ◌∷◌, ◌++◌, map, filter, length, Option, Some, None, is_some, option_map, refl, ap, sym, subst, arith}
use Rattle.std.specs.List.{All}
use Rattle.std.specs.Option.{option_or}
use Rattle.std.proofs.lemmas.Option.{same_Some}
use Rattle.napi_types.specs.declared.body.Body.{Body}
use Rattle.napi_types.specs.declared.body.Body.TheVariants as body
use Rattle.napi_types.specs.declared.call.Call.{Call}
use Rattle.napi_types.specs.declared.call.Call.TheVariants as call
use Rattle.napi_types.specs.declared.entry.Cause.TheVariants as cause
use Rattle.napi_types.specs.declared.entry.Duty.{Duty}
use Rattle.napi_types.specs.declared.entry.Out.TheVariants as out
use Rattle.napi_types.specs.declared.ids.TextNo.{TextNo}
use Rattle.napi_types.specs.plain.Lists.{found, has_number}
use Rattle.napi_types.specs.plain.Replies.{Answer, accepts}
use Rattle.napi_types.specs.parts.AsyncHooks.{set_ticket}
use Rattle.napi_types.specs.parts.Attachments.{wrap_ticket, with_wrap, with_attached}
use Rattle.napi_types.specs.parts.Bodies.{promise_tag, buffer_tag, view_tag}
use Rattle.napi_types.specs.parts.Book.{Registration, made_withdrawn, moved, with_registration, new_ticket}
use Rattle.napi_types.specs.parts.Buffers.{Buffers}
use Rattle.napi_types.specs.parts.Frames.{caller_of}
use Rattle.napi_types.specs.parts.Heap.{Heap, handle_value, handle_properties}
use Rattle.napi_types.specs.parts.HeapCalls.{addon_effect}
use Rattle.napi_types.specs.parts.HeapChanges.{with_thrown}
use Rattle.napi_types.specs.parts.Hooks.{hook_ticket}
use Rattle.napi_types.specs.parts.InstanceData.{InstanceData, instance_ticket, with_instance}
use Rattle.napi_types.specs.parts.NewValues.{made_after, list_of, thrown_of, thrown_strings}
use Rattle.napi_types.specs.parts.PropertyCalls.{names_of}
use Rattle.napi_types.specs.parts.References.{referred_value}
use Rattle.napi_types.specs.parts.Values.{Value, value_at, value_changed, fresh_value, those_of}
use Rattle.napi_types.specs.environment.Calls.{effect}
use Rattle.napi_types.specs.environment.Environment.{Environment}
use Rattle.napi_types.specs.environment.Hooked.{is_from_finals_on, IsHooked}
use Rattle.napi_types.specs.environment.PromiseCalls.{reaction_value, reaction_told}
use Rattle.napi_types.specs.environment.ReferenceCalls.{value_told, counted_up}
use Rattle.napi_types.specs.environment.Registering.{finalizer_of, registered_only, registering, withdrawing}
use Rattle.napi_types.specs.environment.Roots.{reach}
use Rattle.napi_types.specs.all_runs.BufferLives.{ExternalBuffer}
use Rattle.napi_types.proofs.plain.Found.{found-append, found-filter, found-later, found-map, apart-below}
use Rattle.napi_types.proofs.environment.Effects as does
use Rattle.napi_types.proofs.environment.Effects.{Effect, effect-of}
use Rattle.napi_types.proofs.all_runs.BytesQuiet.{keeps_buffers, call-leaves}
use Rattle.napi_types.proofs.all_runs.LifeKept.{LifeView, life_view, Owns, WereIssued, NoneFalls, none-falls, falls-then, push-falls, changed-falls, withdrawn-due, owner-new, owns-wrap, owns-attached, owns-unwrapped, QuietLife}
use Rattle.napi_types.proofs.all_runs.PromiseStates.{PromiseView, view}
use Rattle.napi_types.proofs.all_runs.QuietCalls.{Quiet, is_quiet_call, quiet-of}

-- NUMBERS OF VALUES
-- no value has a number above how many were made, where none had
abbrev pub AboveNone : Heap → Heap → Type 0
AboveNone old new = (n : ℕ) → new.made < n → value_at old.values n ≡ None → value_at new.values n ≡ None

more-none : (vs ws : List Value) (n : ℕ) → value_at vs n ≡ None → value_at ws n ≡ None → value_at (vs ++ ws) n ≡ None
more-none vs ws n one two =
    found-append (λ (w : Value). w.number) n vs ws ∙ ap (λ o. option_or o (value_at ws n)) one ∙ two

one-none : (w : Value) (n : ℕ) → w.number < n → value_at (w ∷ []) n ≡ None
one-none w n below = ap (λ b. cond b (Some w) None) (apart-below w.number n below)

made-none : (m n : ℕ) (bs : List Body) → m + length bs < n → value_at (made_after m bs) n ≡ None
made-none m n [] far = refl
made-none m n (b ∷ bs) far =
    found-later (λ (w : Value). w.number) n (fresh_value (m + 1) b) (made_after (m + 1) bs) (apart-below (m + 1) n (omega (arith, far))) ∙ made-none (m + 1) n bs (omega (arith, far))

pub changed-none : (p : ℕ) (change : Value → Value) → ((v : Value) → (change v).number ≡ v.number) → (vs : List Value) (n : ℕ) → value_at vs n ≡ None
    → value_at (value_changed p change vs) n ≡ None
changed-none p change number vs n none =
    found-map (λ (w : Value). w.number) (λ v. cond (v.number == p) (change v) v) (λ v. by v (v.number == p)) n vs
    ∙ ap (option_map (λ v. cond (v.number == p) (change v) v)) none
  where
    by : (v : Value) (b : Bool) → (cond b (change v) v).number ≡ v.number
    by v true = number v
    by v false = refl

pub thrown-none : (heap : Heap) (code : Option TextNo) (message : TextNo) → AboveNone heap (with_thrown code message heap)
thrown-none heap code message n far none =
    more-none heap.values (thrown_of heap.made code message) n none
    (more-none (made_after heap.made (thrown_strings code message)) _ n (made-none heap.made n (thrown_strings code message) (omega (arith, far)))
    (one-none _ n (omega (arith, far))))

heap-none : (addon : ℕ) (heap : Heap) (c : Call) (k : ℕ) → AboveNone heap (addon_effect addon heap c k).after
heap-none addon heap (call.CreateFunction entry payload) k n far none = more-none heap.values _ n none (one-none _ n far)
heap-none addon heap (call.CreateInt64 i) k n far none = more-none heap.values _ n none (one-none _ n far)
heap-none addon heap (call.CreateBigintInt64 i) k n far none = more-none heap.values _ n none (one-none _ n far)
heap-none addon heap (call.CreateStringUtf8 t) k n far none = more-none heap.values _ n none (one-none _ n far)
heap-none addon heap (call.CreateSymbol d) k n far none = more-none heap.values _ n none (one-none _ n far)
heap-none addon heap call.CreateObject k n far none = more-none heap.values _ n none (one-none _ n far)
heap-none addon heap call.CreateArray k n far none = more-none heap.values _ n none (one-none _ n far)
heap-none addon heap (call.CreateError code message) k n far none = more-none heap.values _ n none (one-none _ n far)
heap-none addon heap (call.SetNamedProperty o name v) k n far none = changed-none _ _ (λ x. refl) heap.values n none
heap-none addon heap (call.DeleteProperty o name) k n far none = changed-none _ _ (λ x. refl) heap.values n none
heap-none addon heap (call.SetElement o at v) k n far none = changed-none _ _ (λ x. refl) heap.values n none
heap-none addon heap (call.GetPropertyNames o) k n far none =
    more-none heap.values _ n none (more-none (made_after heap.made _) _ n (made-none heap.made n (names_of (handle_properties heap o.0)) (omega (arith, far))) (one-none _ n (omega (arith, far))))
heap-none addon heap c k n far none = none

withdrawn-none : (heap : Heap) (o : Option ℕ) (a : Answer Environment) → AboveNone heap a.after.heap → AboveNone heap (withdrawing o a).after.heap
withdrawn-none heap None a is = is
withdrawn-none heap (Some t) a is = is

does-none : (c : Call) (e : Environment) {made dropped : Option Duty} (d : Environment) → Effect c e made dropped d → AboveNone e.heap d.heap
does-none c e _ (does.tells k) = heap-none (caller_of e.frames) e.heap c k
does-none c e _ (does.makes payload) = λ n far none. more-none e.heap.values _ n none (one-none _ n far)
does-none c e _ (does.raises code message) = thrown-none e.heap code message
does-none c e _ does.collects =
    λ n far none. found-filter (λ (w : Value). w.number) (λ m. has_number m (reach e)) n e.heap.values ∙ by (has_number n (reach e)) (value_at e.heap.values n) none
  where
    by : (b : Bool) (o : Option Value) → o ≡ None → cond b o None ≡ None
    by true o is = is
    by false o is = refl
does-none c e _ (does.promises k) = λ n far none. more-none e.heap.values _ n none (one-none _ n far)
does-none c e _ (does.settles k v state p is) = λ n far none. changed-none p _ (λ x. refl) e.heap.values n none
does-none c e _ (does.makes_buffer size t) = λ n far none. more-none e.heap.values _ n none (one-none _ n far)
does-none c e _ (does.makes_view about) = λ n far none. more-none e.heap.values _ n none (one-none _ n far)
does-none c e _ (does.registers {d} payload entry hint before step) = does-none c e d before
does-none c e _ (does.attaches {d} before on) = does-none c e d before
does-none c e _ (does.sets {d} i before here) = does-none c e d before
does-none c e _ (does.removes_hook entry argument) =
    withdrawn-none e.heap (registered_only e.book (hook_ticket (caller_of e.frames) entry argument e.hooks)) _ (λ n far none. none)
does-none c e _ (does.removes_async number) = withdrawn-none e.heap (registered_only e.book (set_ticket number e.async_hooks)) _ (λ n far none. none)
does-none c e d _ = λ n far none. none

pub effect-none : (e : Environment) (c : Call) (n : ℕ) → AboveNone e.heap (effect e c n).after.heap
effect-none e c n = does-none c e (effect e c n).after (effect-of e c n)

-- THE BOOK, AND WHAT IS ATTACHED
pub record LifeStays (old new : Environment) : Type 0 where
  pub book : NoneFalls old.book new.book
  pub owns : (xs : List ExternalBuffer) → WereIssued old.book xs → Owns xs old.attachments → Owns xs new.attachments

pub life-same : (e new : Environment) → new.book ≡ e.book → new.attachments ≡ e.attachments → LifeStays e new
life-same e new book attached = record {
  book = subst (NoneFalls e.book) (sym book) (none-falls e.book);
  owns = λ xs given o. subst (Owns xs) (sym attached) o;
}

pub life-registers : (e : Environment) (r : Registration) (a : Answer Environment) → LifeStays e a.after → LifeStays e (registering r a).after
life-registers e r a s = record { book = falls-then e.book a.after.book (with_registration r a.after.book) s.book (push-falls r a.after.book); owns = s.owns }

life-withdraws : (e : Environment) (o : Option ℕ) (a : Answer Environment) → LifeStays e a.after → LifeStays e (withdrawing o a).after
life-withdraws e None a s = s
life-withdraws e (Some t) a s = record {
  book = falls-then e.book a.after.book (withdrawing (Some t) a).after.book s.book
      (changed-falls (moved made_withdrawn) (λ r. refl) (λ m. m == t) a.after.book (λ n r there why its is. withdrawn-due r.state is));
  owns = s.owns;
}

module _ (e : Environment) where
  life-counted : (r : ℕ) (v : Option ℕ) → LifeStays e (counted_up r e v).after
  life-counted r None = life-same e _ refl refl
  life-counted r (Some v) = life-same e _ refl refl

  life-value : (v : Option ℕ) → LifeStays e (value_told e v).after
  life-value None = life-same e _ refl refl
  life-value (Some v) = life-same e _ refl refl

  life-reading : (v : Option ℕ) → LifeStays e (reaction_told e v).after
  life-reading None = life-same e _ refl refl
  life-reading (Some v) = life-same e _ refl refl

  life-wraps : (v payload : ℕ) (new : Environment) → new.book ≡ e.book → new.attachments ≡ with_wrap v payload None e.attachments → LifeStays e new
  life-wraps v payload new book attached = record {
    book = subst (NoneFalls e.book) (sym book) (none-falls e.book);
    owns = λ xs given o. subst (Owns xs) (sym attached) (owns-wrap xs v payload None e.attachments tt o);
  }

  life-wraps_with : (v payload : ℕ) (r : Registration) (new : Environment) → new.book ≡ with_registration r e.book
      → new.attachments ≡ with_wrap v payload (Some (new_ticket e.book)) e.attachments → LifeStays e new
  life-wraps_with v payload r new book attached = record {
    book = subst (NoneFalls e.book) (sym book) (push-falls r e.book);
    owns = λ xs given o. subst (Owns xs) (sym attached) (owns-wrap xs v payload (Some (new_ticket e.book)) e.attachments (owner-new xs (length e.book) v given) o);
  }

  pub life-hangs : (v : ℕ) (r : Registration) (new : Environment) → new.book ≡ with_registration r e.book
      → new.attachments ≡ with_attached v (new_ticket e.book) e.attachments → LifeStays e new
  life-hangs v r new book attached = record {
    book = subst (NoneFalls e.book) (sym book) (push-falls r e.book);
    owns = λ xs given o. subst (Owns xs) (sym attached) (owns-attached xs v (new_ticket e.book) e.attachments (owner-new xs (length e.book) v given) o);
  }

life-stays : (e : Environment) (c : Call) (n : ℕ) → keeps_buffers c ≡ true → is_quiet_call c ≡ true → LifeStays e (effect e c n).after
life-stays e (call.ReferenceRef r) n is quiet = life-counted e r.0 (referred_value e.references r.0)
life-stays e (call.GetReferenceValue r) n is quiet = life-value e (referred_value e.references r.0)
life-stays e (call.Wrap v payload None hint false) n is quiet = life-wraps e (handle_value e.heap v.0) payload _ refl refl
life-stays e (call.Wrap v payload None hint true) n is quiet = life-wraps e (handle_value e.heap v.0) payload _ refl refl
life-stays e (call.Wrap v payload (Some entry) hint false) n is quiet = life-wraps_with e (handle_value e.heap v.0) payload _ _ refl refl
life-stays e (call.Wrap v payload (Some entry) hint true) n is quiet = life-wraps_with e (handle_value e.heap v.0) payload _ _ refl refl
life-stays e (call.RemoveWrap v) n is quiet =
    life-withdraws e (registered_only e.book (wrap_ticket e.attachments (handle_value e.heap v.0))) _
    (record { book = none-falls e.book; owns = λ xs given o. owns-unwrapped xs (handle_value e.heap v.0) e.attachments o })
life-stays e (call.TypeTagObject v lower upper) n is quiet = record { book = none-falls e.book; owns = λ xs given o. record { wraps = o.wraps; tickets = o.tickets } }
life-stays e (call.AddFinalizer v payload entry hint false) n is quiet = life-hangs e (handle_value e.heap v.0) _ _ refl refl
life-stays e (call.AddFinalizer v payload entry hint true) n is quiet = life-hangs e (handle_value e.heap v.0) _ _ refl refl
life-stays e (call.CreateExternal payload None hint) n is quiet = life-same e _ refl refl
life-stays e (call.CreateExternal payload (Some entry) hint) n is quiet = life-hangs e (e.heap.made + 1) _ _ refl refl
life-stays e (call.SetInstanceData payload None hint) n is quiet =
    life-withdraws e (registered_only e.book (instance_ticket e.instances (caller_of e.frames))) _ (life-same e _ refl refl)
life-stays e (call.SetInstanceData payload (Some entry) hint) n is quiet =
    let i : InstanceData = record { payload = payload; ticket = Some (new_ticket e.book) } in
    let a : Answer Environment = accepts out.Nothing (record e { instances = with_instance (caller_of e.frames) i e.instances }) in
    let t : Option ℕ = registered_only e.book (instance_ticket e.instances (caller_of e.frames)) in
    life-registers e (finalizer_of e payload entry hint) (withdrawing t a) (life-withdraws e t a (life-same e a.after refl refl))
life-stays e (call.AddEnvCleanupHook entry argument) n is quiet = record { book = push-falls _ e.book; owns = λ xs given o. o }
life-stays e (call.AddAsyncCleanupHook entry argument) n is quiet = record { book = push-falls _ e.book; owns = λ xs given o. o }
life-stays e (call.RemoveEnvCleanupHook entry argument) n is quiet =
    life-withdraws e (registered_only e.book (hook_ticket (caller_of e.frames) entry argument e.hooks)) _ (life-same e _ refl refl)
life-stays e (call.RemoveAsyncCleanupHook hook) n is quiet = life-withdraws e (registered_only e.book (set_ticket hook.0 e.async_hooks)) _ (life-same e _ refl refl)
life-stays e call.GetReactionValue n is quiet = life-reading e (reaction_value e)
life-stays e call.CreatePromise n is quiet = cc
life-stays e (call.ResolveDeferred d v) n is quiet = cc
life-stays e (call.RejectDeferred d v) n is quiet = cc
life-stays e (call.AddReaction x entry payload) n is quiet = cc
life-stays e (call.CreateArraybuffer size) n is quiet = cc
life-stays e (call.CreateExternalArraybuffer size payload entry hint) n is quiet = cc
life-stays e (call.CreateTypedarray kind h offset count) n is quiet = cc
life-stays e (call.SetView h at number) n is quiet = cc
life-stays e (call.DetachArraybuffer h) n is quiet = cc
life-stays e call.Collect n is quiet = cc
life-stays e c n is quiet = life-same e _ refl refl

-- ALL OF IT
-- where the buffers are as before, and the book and what is attached keep what is owed
pub quiet-view : (e : Environment) (c : Call) (n : ℕ) (buffers : _) → IsHooked e → is_quiet_call c ≡ true → buffers ≡ e.buffers.buffers → LifeStays e (effect e c n).after
    → QuietLife (life_view e) (record (life_view (effect e c n).after) { buffers = buffers })
quiet-view e c n buffers hooked is same stays =
    let q : Quiet (view e) (view (effect e c n).after) = quiet-of e c n hooked is in
    record {
      late = ap (λ (u : PromiseView). is_from_finals_on u.phase) q.alone;
      grows = q.grows;
      links = q.links;
      above = effect-none e c n;
      book = stays.book;
      owns = stays.owns;
      buffers = same;
      deferreds = ap (λ (u : PromiseView). u.promises.deferreds) q.alone;
    }

pub quiet-life : (e : Environment) (c : Call) (n : ℕ) → IsHooked e → keeps_buffers c ≡ true → is_quiet_call c ≡ true → QuietLife (life_view e) (life_view (effect e c n).after)
quiet-life e c n hooked is quiet =
    quiet-view e c n _ hooked quiet (ap (λ (b : Buffers). b.buffers) (call-leaves e c n is)) (life-stays e c n is quiet)
