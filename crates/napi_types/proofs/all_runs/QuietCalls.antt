-- The calls that change no promise and no reaction.
use Rattle.std.proofs.Common.{◌≡◌, ◌≢◌, ◌∙◌, ◌≤◌, ℕ, ◌+◌, ◌==◌, Bool, true, false, cond, List, [], ◌∷◌, ◌++◌, find, Option, Some, None, option_map, IfSome, refl, ap, sym, subst, arith}
use Rattle.std.specs.List.{All}
use Rattle.std.specs.Option.{option_and_then}
use Rattle.std.proofs.lemmas.Bool.{eqb-true}
use Rattle.std.proofs.lemmas.List.Elements.{All-nil, All-cons, All-push}
use Rattle.std.proofs.lemmas.Option.{same_Some, IfSome_then}
use Rattle.napi_types.specs.declared.body.Body.{Body}
use Rattle.napi_types.specs.declared.body.Body.TheVariants as body
use Rattle.napi_types.specs.declared.call.Call.{Call}
use Rattle.napi_types.specs.declared.call.Call.TheVariants as call
use Rattle.napi_types.specs.declared.entry.Cause.TheVariants as cause
use Rattle.napi_types.specs.declared.ids.TextNo.{TextNo}
use Rattle.napi_types.specs.declared.view.ViewInfo.{ViewInfo}
use Rattle.napi_types.specs.plain.Replies.{Answer}
use Rattle.napi_types.specs.parts.AsyncHooks.{AsyncHook, HookState, Set, async_hook, ticket_of_set, set_ticket}
use Rattle.napi_types.specs.parts.Attachments.{wrap_ticket}
use Rattle.napi_types.specs.parts.Bodies.{buffer_tag, view_tag}
use Rattle.napi_types.specs.parts.Book.{Book, Registration, is_registered, is_at, made_withdrawn, moved, moved_at, with_registration, cause_at}
use Rattle.napi_types.specs.parts.Frames.{caller_of}
use Rattle.napi_types.specs.parts.Heap.{Heap, handle_value}
use Rattle.napi_types.specs.parts.HeapCalls.{addon_effect}
use Rattle.napi_types.specs.parts.HeapChanges.{new_value, new_linked, with_thrown}
use Rattle.napi_types.specs.parts.Hooks.{Hook, is_hook, hook_ticket}
use Rattle.napi_types.specs.parts.InstanceData.{instance_ticket}
use Rattle.napi_types.specs.parts.NewValues.{made_after, thrown_strings}
use Rattle.napi_types.specs.parts.References.{referred_value}
use Rattle.napi_types.specs.parts.Values.{Value, linked_value}
use Rattle.napi_types.specs.environment.BufferCalls.{view_asked, making_view}
use Rattle.napi_types.specs.environment.Calls.{effect}
use Rattle.napi_types.specs.environment.Environment.{Environment}
use Rattle.napi_types.specs.environment.Hooked.{StandsIn, IsForHook, IsHooked}
use Rattle.napi_types.specs.environment.PromiseCalls.{reaction_value, reaction_told}
use Rattle.napi_types.specs.environment.ReferenceCalls.{value_told, counted_up}
use Rattle.napi_types.specs.environment.Registering.{registered_only, withdrawing}
use Rattle.napi_types.proofs.parts.AttachedTickets.{HoldsAttached-from, wrap_ticket-holds}
use Rattle.napi_types.proofs.environment.Effects.{Finalizes}
use Rattle.napi_types.proofs.environment.HookedSteps.{instance-finalizes, found-holds}
use Rattle.napi_types.proofs.all_runs.PromiseBooks.{SameReactions, same-reactions, both-same, push-same, others-same, KeepsEachLink, same-links, more-links, more-linked, changed-links}
use Rattle.napi_types.proofs.all_runs.PromiseHistory.{History}
use Rattle.napi_types.proofs.all_runs.PromiseStates.{PromiseView, view, IsHistoryOf, kept-quiet}

-- the values, how many were made and the book change, and of reactions and links nothing
pub record Quiet (v w : PromiseView) : Type 0 where
  pub alone : w ≡ record v { made = w.made; values = w.values; book = w.book }
  pub grows : v.made ≤ w.made
  pub links : KeepsEachLink v.made w.made v.values w.values
  pub book : SameReactions v.book w.book

pub quiet-kept : (h : History) (v w : PromiseView) → Quiet v w → IsHistoryOf h v → IsHistoryOf h w
quiet-kept h v w q k = subst (IsHistoryOf h) (sym q.alone) (kept-quiet h v w.made w.values w.book q.grows q.links q.book k)

pub quiet-same : (v : PromiseView) → Quiet v v
quiet-same v = record { alone = refl; grows = omega arith; links = same-links v.values; book = same-reactions v.book }

pub quiet-values : (v : PromiseView) (made : ℕ) (values : List Value) → v.made ≤ made → KeepsEachLink v.made made v.values values → Quiet v (record v { made = made; values = values })
quiet-values v made values grows links = record { alone = refl; grows = grows; links = links; book = same-reactions v.book }

pub quiet-book : (v w : PromiseView) (book : Book) → SameReactions w.book book → Quiet v w → Quiet v (record w { book = book })
quiet-book v w book same q = record {
  alone = ap (λ (u : PromiseView). record u { book = book }) q.alone;
  grows = q.grows;
  links = q.links;
  book = both-same v.book w.book book q.book same;
}

pub quiet-push : (v w : PromiseView) (r : Registration) → r.cause ≢ cause.Reaction → Quiet v w → Quiet v (record w { book = with_registration r w.book })
quiet-push v w r other q = quiet-book v w (with_registration r w.book) (push-same r w.book other) q

-- WITHDRAWN
abbrev IsNoReaction : Book → ℕ → Type 0
IsNoReaction book t = cause_at book t ≢ Some cause.Reaction

withdrawn-same : (book : Book) (t : ℕ) → IsNoReaction book t → SameReactions book (moved_at made_withdrawn t book)
withdrawn-same book t other =
    others-same (moved made_withdrawn) (λ r. refl) (λ m. m == t) book (λ n is. subst (IsNoReaction book) (sym (eqb-true n t is)) other)

quiet-withdrawing : (v : PromiseView) (book : Book) (o : Option ℕ) (a : Answer Environment) → a.after.book ≡ book → IfSome o (IsNoReaction book) → Quiet v (view a.after)
    → Quiet v (view (withdrawing (registered_only book o) a).after)
quiet-withdrawing v book None a same other q = q
quiet-withdrawing v book (Some t) a same other q = by (is_at is_registered book t)
  where
    by : (b : Bool) → Quiet v (view (withdrawing (cond b (Some t) None) a).after)
    by true = quiet-book v (view a.after) (moved_at made_withdrawn t a.after.book)
        (withdrawn-same a.after.book t (subst (λ b. IsNoReaction b t) (sym same) other)) q
    by false = q

pub finalizer-other : (book : Book) (t : ℕ) → Finalizes book t → IsNoReaction book t
finalizer-other book t is its = let no : cause.Finalize ≡ cause.Reaction = same_Some cause.Finalize cause.Reaction (sym is ∙ its) in cc

hook-other : (book : Book) (t : ℕ) → cause_at book t ≡ Some cause.Hook → IsNoReaction book t
hook-other book t is its = let no : cause.Hook ≡ cause.Reaction = same_Some cause.Hook cause.Reaction (sym is ∙ its) in cc

module _ (e : Environment) (h : IsHooked e) where
  wrap-other : (v : ℕ) → IfSome (wrap_ticket e.attachments v) (IsNoReaction e.book)
  wrap-other v =
      IfSome_then (wrap_ticket e.attachments v) (wrap_ticket-holds (Finalizes e.book) e.attachments v (HoldsAttached-from (Finalizes e.book) e.attachments h.attached))
      (λ t is. finalizer-other e.book t is)

  instance-other : (addon : ℕ) → IfSome (instance_ticket e.instances addon) (IsNoReaction e.book)
  instance-other addon = IfSome_then (instance_ticket e.instances addon) (instance-finalizes e.book e.instances addon h.instances) (λ t is. finalizer-other e.book t is)

  hook_ticket-other : (addon entry argument : ℕ) → IfSome (hook_ticket addon entry argument e.hooks) (IsNoReaction e.book)
  hook_ticket-other addon entry argument =
      by (find (is_hook addon entry argument) e.hooks) (found-holds (StandsIn e.phase e.book) (is_hook addon entry argument) e.hooks h.hooks)
    where
      by : (o : Option Hook) → IfSome o (StandsIn e.phase e.book) → IfSome (option_map (λ (x : Hook). x.ticket) o) (IsNoReaction e.book)
      by None s = tt
      by (Some x) s = hook-other e.book x.ticket s.cause

  set_ticket-other : (n : ℕ) → IfSome (set_ticket n e.async_hooks) (IsNoReaction e.book)
  set_ticket-other n = by (async_hook n e.async_hooks) (found-holds (IsForHook e.book) (λ x. x.number == n) e.async_hooks h.async.given)
    where
      of : (x : AsyncHook) (s : HookState) → IsForHook e.book x → IfSome (ticket_of_set x s) (IsNoReaction e.book)
      of x Set is = hook-other e.book x.ticket is
      of x _ is = tt

      by : (o : Option AsyncHook) → IfSome o (IsForHook e.book) → IfSome (option_and_then (λ x. ticket_of_set x x.state) o) (IsNoReaction e.book)
      by None is = tt
      by (Some x) is = of x x.state is

-- VALUES
abbrev pub NoLink : Value → Type 0
NoLink w = w.link ≡ None

one-unlinked : (w : Value) → NoLink w → All NoLink (w ∷ [])
one-unlinked w is = All-cons NoLink w [] is (All-nil NoLink)

made-unlinked : (n : ℕ) (bs : List Body) → All NoLink (made_after n bs)
made-unlinked n [] = All-nil NoLink
made-unlinked n (b ∷ bs) = All-cons NoLink _ (made_after (n + 1) bs) refl (made-unlinked (n + 1) bs)

-- the heap after a call, told as what it keeps
pub record HeapLinks (old new : Heap) : Type 0 where
  pub grows : old.made ≤ new.made
  pub links : KeepsEachLink old.made new.made old.values new.values

one-more : (heap new : Heap) (w : Value) → NoLink w → new.made ≡ heap.made + 1 → new.values ≡ heap.values ++ w ∷ [] → HeapLinks heap new
one-more heap new w is made values = record {
  grows = omega (arith, made);
  links = subst (KeepsEachLink heap.made new.made heap.values) (sym values) (more-links heap.values (w ∷ []) (one-unlinked w is));
}

pub thrown-links : (heap : Heap) (code : Option TextNo) (message : TextNo) → HeapLinks heap (with_thrown code message heap)
thrown-links heap code message = record {
  grows = omega arith;
  links = more-links heap.values _ (All-push NoLink (made_after heap.made (thrown_strings code message)) _ (made-unlinked heap.made (thrown_strings code message)) refl);
}

-- a new value may have a link
pub linked-links : (heap : Heap) (tag : ℕ) (to : Option ℕ) → HeapLinks heap (new_linked tag to heap).after
linked-links heap tag to = record { grows = omega arith; links = more-linked heap.made heap.values (linked_value (heap.made + 1) tag to) refl }

heap-links : (addon : ℕ) (heap : Heap) (c : Call) (k : ℕ) → HeapLinks heap (addon_effect addon heap c k).after
heap-links addon heap (call.CreateFunction entry payload) k = one-more heap _ _ refl refl refl
heap-links addon heap (call.CreateInt64 i) k = one-more heap _ _ refl refl refl
heap-links addon heap (call.CreateBigintInt64 i) k = one-more heap _ _ refl refl refl
heap-links addon heap (call.CreateStringUtf8 t) k = one-more heap _ _ refl refl refl
heap-links addon heap (call.CreateSymbol d) k = one-more heap _ _ refl refl refl
heap-links addon heap call.CreateObject k = one-more heap _ _ refl refl refl
heap-links addon heap call.CreateArray k = one-more heap _ _ refl refl refl
heap-links addon heap (call.CreateError code message) k = one-more heap _ _ refl refl refl
heap-links addon heap (call.SetNamedProperty o name v) k = record { grows = omega arith; links = changed-links _ _ (λ x. refl) (λ x. refl) heap.values }
heap-links addon heap (call.DeleteProperty o name) k = record { grows = omega arith; links = changed-links _ _ (λ x. refl) (λ x. refl) heap.values }
heap-links addon heap (call.SetElement o at v) k = record { grows = omega arith; links = changed-links _ _ (λ x. refl) (λ x. refl) heap.values }
heap-links addon heap (call.GetPropertyNames o) k =
    record { grows = omega arith; links = more-links heap.values _ (All-push NoLink (made_after heap.made _) _ (made-unlinked heap.made _) refl) }
heap-links addon heap c k = record { grows = omega arith; links = same-links heap.values }

pub quiet-heap : (e : Environment) (heap : Heap) → HeapLinks e.heap heap → Quiet (view e) (view (record e { heap = heap }))
quiet-heap e heap l = quiet-values (view e) heap.made heap.values l.grows l.links

-- EACH CALL
-- all but those that make and settle promises, add reactions and collect
abbrev pub is_quiet_call : Call → Bool
is_quiet_call call.CreatePromise = false
is_quiet_call (call.ResolveDeferred d v) = false
is_quiet_call (call.RejectDeferred d v) = false
is_quiet_call (call.AddReaction h entry payload) = false
is_quiet_call call.Collect = false
is_quiet_call c = true

module _ (e : Environment) where
  counted-quiet : (r : ℕ) (v : Option ℕ) → Quiet (view e) (view (counted_up r e v).after)
  counted-quiet r None = quiet-same (view e)
  counted-quiet r (Some v) = quiet-same (view e)

  value-quiet : (v : Option ℕ) → Quiet (view e) (view (value_told e v).after)
  value-quiet None = quiet-same (view e)
  value-quiet (Some v) = quiet-same (view e)

  reading-quiet : (v : Option ℕ) → Quiet (view e) (view (reaction_told e v).after)
  reading-quiet None = quiet-same (view e)
  reading-quiet (Some v) = quiet-same (view e)

  viewing-quiet : (about : Option ViewInfo) → Quiet (view e) (view (making_view e about).after)
  viewing-quiet None = quiet-same (view e)
  viewing-quiet (Some about) = quiet-heap e (new_linked view_tag (Some about.buffer.0) e.heap).after (linked-links e.heap view_tag (Some about.buffer.0))

  registered-quiet : (r : Registration) → r.cause ≢ cause.Reaction → Quiet (view e) (view (record e { book = with_registration r e.book }))
  registered-quiet r other = quiet-push (view e) (view e) r other (quiet-same (view e))

pub quiet-of : (e : Environment) (c : Call) (n : ℕ) → IsHooked e → is_quiet_call c ≡ true → Quiet (view e) (view (effect e c n).after)
quiet-of e (call.Throw v) n h is = quiet-same (view e)
quiet-of e (call.ThrowError code message) n h is = quiet-heap e (with_thrown code message e.heap) (thrown-links e.heap code message)
quiet-of e call.IsExceptionPending n h is = quiet-same (view e)
quiet-of e call.GetLastErrorInfo n h is = quiet-same (view e)
quiet-of e call.GetAndClearLastException n h is = quiet-same (view e)
quiet-of e (call.CreateReference v count) n h is = quiet-same (view e)
quiet-of e (call.DeleteReference r) n h is = quiet-same (view e)
quiet-of e (call.ReferenceRef r) n h is = counted-quiet e r.0 (referred_value e.references r.0)
quiet-of e (call.ReferenceUnref r) n h is = quiet-same (view e)
quiet-of e (call.GetReferenceValue r) n h is = value-quiet e (referred_value e.references r.0)
quiet-of e (call.Wrap v payload None hint false) n h is = quiet-same (view e)
quiet-of e (call.Wrap v payload None hint true) n h is = quiet-same (view e)
quiet-of e (call.Wrap v payload (Some entry) hint false) n h is = registered-quiet e _ (λ z. cc)
quiet-of e (call.Wrap v payload (Some entry) hint true) n h is = registered-quiet e _ (λ z. cc)
quiet-of e (call.Unwrap v) n h is = quiet-same (view e)
quiet-of e (call.RemoveWrap v) n h is =
    quiet-withdrawing (view e) e.book (wrap_ticket e.attachments (handle_value e.heap v.0)) _ refl (wrap-other e h (handle_value e.heap v.0)) (quiet-same (view e))
quiet-of e (call.TypeTagObject v lower upper) n h is = quiet-same (view e)
quiet-of e (call.CheckObjectTypeTag v lower upper) n h is = quiet-same (view e)
quiet-of e (call.AddFinalizer v payload entry hint false) n h is = registered-quiet e _ (λ z. cc)
quiet-of e (call.AddFinalizer v payload entry hint true) n h is = registered-quiet e _ (λ z. cc)
quiet-of e (call.CreateExternal payload None hint) n h is = quiet-heap e (new_value (body.External payload) e.heap).after (one-more e.heap _ _ refl refl refl)
quiet-of e (call.CreateExternal payload (Some entry) hint) n h is =
    let heap : Heap = (new_value (body.External payload) e.heap).after in
    quiet-push (view e) (view (record e { heap = heap })) _ (λ z. cc) (quiet-heap e heap (one-more e.heap _ _ refl refl refl))
quiet-of e (call.SetInstanceData payload None hint) n h is =
    quiet-withdrawing (view e) e.book (instance_ticket e.instances (caller_of e.frames)) _ refl (instance-other e h (caller_of e.frames)) (quiet-same (view e))
quiet-of e (call.SetInstanceData payload (Some entry) hint) n h is =
    quiet-push (view e) _ _ (λ z. cc)
    (quiet-withdrawing (view e) e.book (instance_ticket e.instances (caller_of e.frames)) _ refl (instance-other e h (caller_of e.frames)) (quiet-same (view e)))
quiet-of e call.GetInstanceData n h is = quiet-same (view e)
quiet-of e (call.AddEnvCleanupHook entry argument) n h is = registered-quiet e _ (λ z. cc)
quiet-of e (call.RemoveEnvCleanupHook entry argument) n h is =
    quiet-withdrawing (view e) e.book (hook_ticket (caller_of e.frames) entry argument e.hooks) _ refl (hook_ticket-other e h (caller_of e.frames) entry argument)
    (quiet-same (view e))
quiet-of e (call.AddAsyncCleanupHook entry argument) n h is = registered-quiet e _ (λ z. cc)
quiet-of e (call.RemoveAsyncCleanupHook hook) n h is =
    quiet-withdrawing (view e) e.book (set_ticket hook.0 e.async_hooks) _ refl (set_ticket-other e h hook.0) (quiet-same (view e))
quiet-of e call.CreatePromise n h is = cc
quiet-of e (call.ResolveDeferred d v) n h is = cc
quiet-of e (call.RejectDeferred d v) n h is = cc
quiet-of e (call.AddReaction x entry payload) n h is = cc
quiet-of e call.GetReactionValue n h is = reading-quiet e (reaction_value e)
quiet-of e (call.CreateArraybuffer size) n h is = quiet-heap e (new_linked buffer_tag None e.heap).after (linked-links e.heap buffer_tag None)
quiet-of e (call.CreateExternalArraybuffer size payload entry hint) n h is =
    let heap : Heap = (new_linked buffer_tag None e.heap).after in
    quiet-push (view e) (view (record e { heap = heap })) _ (λ z. cc) (quiet-heap e heap (linked-links e.heap buffer_tag None))
quiet-of e (call.IsArraybuffer x) n h is = quiet-same (view e)
quiet-of e (call.IsDetachedArraybuffer x) n h is = quiet-same (view e)
quiet-of e (call.GetArraybufferInfo x) n h is = quiet-same (view e)
quiet-of e (call.DetachArraybuffer x) n h is = quiet-same (view e)
quiet-of e (call.CreateTypedarray kind x offset count) n h is = viewing-quiet e (view_asked e.buffers kind (handle_value e.heap x.0) offset count)
quiet-of e (call.GetView x at) n h is = quiet-same (view e)
quiet-of e (call.SetView x at number) n h is = quiet-same (view e)
quiet-of e call.Collect n h is = cc
quiet-of e call.Exit n h is = quiet-same (view e)
quiet-of e c n h is = quiet-heap e (addon_effect (caller_of e.frames) e.heap c n).after (heap-links (caller_of e.frames) e.heap c n)
