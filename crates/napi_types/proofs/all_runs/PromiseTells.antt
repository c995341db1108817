-- What a call tells of promises may be told, and what was told is what the environment then holds.
use Rattle.std.proofs.Common.{◌≡◌, ◌≢◌, ◌∙◌, ℕ, suc, ◌+◌, ◌==◌, Bool, true, false, not, ◌&&◌, ◌||◌, cond, IsTrue, List, [], ◌∷◌, ◌++◌, map, filter, find, Option, Some, None, is_some, option_map, ◌⊎◌, inl, inr, IfSome, refl, ap, sym, subst}
use Rattle.std.specs.Option.{option_and_then, option_or, option_to_list, unwrap_or}
use Rattle.std.proofs.lemmas.Bool.{or_left, or_right}
use Rattle.std.proofs.lemmas.Option.{same_Some}
use Rattle.napi_types.specs.declared.call.Call.{Call}
use Rattle.napi_types.specs.declared.call.Call.TheVariants as call
use Rattle.napi_types.specs.declared.entry.Out.TheVariants as out
use Rattle.napi_types.specs.declared.ids.HandleId.{HandleId}
use Rattle.napi_types.specs.declared.status.Status.{Status}
use Rattle.napi_types.specs.declared.status.Status.TheVariants as status
use Rattle.napi_types.specs.plain.Guards.{is_guarded}
use Rattle.napi_types.specs.plain.Lists.{found, has, has_number, is_empty}
use Rattle.napi_types.specs.plain.Replies.{Answer, refuses, if_accepted}
use Rattle.napi_types.specs.plain.Texts.{depth_text}
use Rattle.napi_types.specs.parts.Attachments.{is_attached_to}
use Rattle.napi_types.specs.parts.Bodies.{promise_tag}
use Rattle.napi_types.specs.parts.Book.{Registration, is_owed, is_at, made_due, moved, due_where, new_ticket}
use Rattle.napi_types.specs.parts.Frames.{caller_of, duty_of, ticket_of}
use Rattle.napi_types.specs.parts.Heap.{Heap, handle_value}
use Rattle.napi_types.specs.parts.HeapChanges.{with_handle, with_linked}
use Rattle.napi_types.specs.parts.HeapRefusals.{refusal_in}
use Rattle.napi_types.specs.parts.Promises.{Promise, Deferred, promise_at, promise_state, state_now, is_reaction_of, reaction_promise, deferred_promise, promise_roots}
use Rattle.napi_types.specs.parts.Reach.{numbers}
use Rattle.napi_types.specs.parts.References.{strong_values}
use Rattle.napi_types.specs.parts.Scopes.{OpenHandle, held_by_frames}
use Rattle.napi_types.specs.parts.Values.{Value, value_at, link_of, starting_values}
use Rattle.napi_types.specs.environment.Calls.{effect, answer, answer_unless_deep, with_depth_error}
use Rattle.napi_types.specs.environment.Changes.{is_fresh_result, with_noted_status}
use Rattle.napi_types.specs.environment.Collection.{collected, is_freed}
use Rattle.napi_types.specs.environment.Environment.{Environment, TsfnRoot}
use Rattle.napi_types.specs.environment.Hooked.{is_from_finals_on, IsHooked}
use Rattle.napi_types.specs.environment.Moments.{is_tearing, guard_status, guard_refusal, registering_refusal, refusal_by_moment}
use Rattle.napi_types.specs.environment.PromiseCalls.{with_settlement, promising, settling, resolved, rejected, reaction_state, reaction_of, reacting, reaction_value, reaction_told}
use Rattle.napi_types.specs.environment.Refusals.{group_refusal, refusal_by_state, refusal_before_depth, depth_refusal}
use Rattle.napi_types.specs.environment.Roots.{roots, reach}
use Rattle.napi_types.specs.runs.Machine.{Machine}
use Rattle.napi_types.specs.all_runs.SettledPromises as told
use Rattle.napi_types.specs.all_runs.SettledPromises.{PromiseFact, AddedReaction, told_read, told_call, MayBeTold}
use Rattle.napi_types.proofs.plain.Conditions.{true-or-false}
use Rattle.napi_types.proofs.plain.Found.{found-number, found-All, has-found}
use Rattle.napi_types.proofs.plain.Lists.{none-first, none-last, not-when, not-unless, find-passes, any-map, unempty}
use Rattle.napi_types.proofs.plain.Maps.{among-holds, has-right}
use Rattle.napi_types.proofs.parts.AttachedTickets.{HoldsAttached-from, tickets_where-holds}
use Rattle.napi_types.proofs.parts.Moved.{at-state}
use Rattle.napi_types.proofs.parts.Reaching.{reach-roots}
use Rattle.napi_types.proofs.environment.Effects.{Finalizes}
use Rattle.napi_types.proofs.environment.HookedSteps.{found-holds, new-number}
use Rattle.napi_types.proofs.all_runs.HeldHandles.{HeapFits, new-handle}
use Rattle.napi_types.proofs.all_runs.NoRefusals.{no-refusal-accepts}
use Rattle.napi_types.proofs.all_runs.Orderly.{late-tears}
use Rattle.napi_types.proofs.all_runs.PromiseBooks.{others-same}
use Rattle.napi_types.proofs.all_runs.PromiseChanges.{was-made, was-unsettled, kept-settles}
use Rattle.napi_types.proofs.all_runs.PromiseHistory.{History, history, has-of, history-makes, history-settles, history-adds, history-tells}
use Rattle.napi_types.proofs.all_runs.PromiseReactions.{promise-made, ticket-new, kept-adds, kept-collected}
use Rattle.napi_types.proofs.all_runs.PromiseStates.{PromiseView, view, IsTold, added_under, IsKnown, IsHistoryOf, told-at, new-promise, new-deferred, kept-makes}
use Rattle.napi_types.proofs.all_runs.QuietCalls.{finalizer-other, quiet-kept, quiet-same, quiet-of, Quiet, quiet-heap, thrown-links}

-- what is told after what was told before: nothing, or one thing that may be; and what the environment holds then
pub data Keeps (ts : List PromiseFact) : List PromiseFact → PromiseView → Type 0 where
  tells_none : (v : PromiseView) → IsHistoryOf (history ts) v → Keeps ts [] v
  tells_one : (x : PromiseFact) (v : PromiseView) → MayBeTold ts x → IsHistoryOf (history (ts ++ x ∷ [])) v → Keeps ts (x ∷ []) v

pub none-told : (ts news : List PromiseFact) (v w : PromiseView) → news ≡ [] → w ≡ v → IsHistoryOf (history ts) v → Keeps ts news w
none-told ts news v w none same k = rw (none, same) (tells_none v k)

-- MOMENTS
-- what is accepted comes before the teardown
guarded-early : (e : Environment) (c : Call) → is_guarded c ≡ true → refusal_before_depth e c ≡ None → is_from_finals_on e.phase ≡ false
guarded-early e c guarded none =
    let timely : refusal_by_moment e c ≡ None = none-first (refusal_by_moment e c) (refusal_by_state e c) none in
    let first : guard_refusal e c ≡ None = none-first (guard_refusal e c) (registering_refusal e c) timely in
    by (is_from_finals_on e.phase) refl (not-when (is_guarded c && (is_some e.pending || is_tearing e.phase)) (guard_status e) first)
  where
    by : (b : Bool) → is_from_finals_on e.phase ≡ b → (is_guarded c && (is_some e.pending || is_tearing e.phase)) ≡ false → b ≡ false
    by false is unguarded = refl
    by true is unguarded =
        absurd (true-or-false _ (ap (λ g. g && (is_some e.pending || is_tearing e.phase)) guarded
        ∙ or_right (is_some e.pending) (is_tearing e.phase) (late-tears e.phase is)) unguarded)

pub own-none : (e : Environment) (c : Call) → refusal_before_depth e c ≡ None → group_refusal e c ≡ None
own-none e c none =
    none-last (refusal_in e.texts e.heap c) (group_refusal e c) (none-last (refusal_by_moment e c) (refusal_by_state e c) none)

-- EACH CALL THAT TELLS
module _ (ts : List PromiseFact) (e : Environment) (k : IsHistoryOf (history ts) (view e)) where
  abbrev h : History
  h = history ts

  -- a promise is made
  makes-told : (n v : ℕ) → has_number n e.promises.issued ≡ false → v ≡ e.heap.made + 1 → Keeps ts (told.Makes n v ∷ []) (view (promising e n).after)
  makes-told n v fresh same =
      let p : ℕ = e.heap.made + 1 in
      subst (λ w. Keeps ts (told.Makes n w ∷ []) (view (promising e n).after)) (sym same)
      (tells_one (told.Makes n p) (view (promising e n).after)
      (told.makes n p (new-deferred h (view e) n k fresh) (new-promise h (view e) n k fresh))
      (subst (λ (g : History). IsHistoryOf g (view (promising e n).after)) (sym (history-makes ts n p)) (kept-makes h (view e) n k fresh)))

  -- a deferred is settled
  settles-told : (n p v j : ℕ) → deferred_promise e.promises n ≡ Some p → is_from_finals_on e.phase ≡ false → (suc j ≡ resolved) ⊎ (suc j ≡ rejected)
      → Keeps ts (told.Settles n (suc j) v ∷ []) (view (with_settlement n p v (suc j) e))
  settles-told n p v j given early state =
      tells_one (told.Settles n (suc j) v) _
      (told.settles n (suc j) v (was-made h (view e) n p v j k given early) (was-unsettled h (view e) n p v j k given early) state)
      (subst (λ (g : History). IsHistoryOf g (view (with_settlement n p v (suc j) e))) (sym (history-settles ts n (suc j) v)) (kept-settles h (view e) n p v j k given early))

  settling-tells : (n v j : ℕ) (o : Option ℕ) → deferred_promise e.promises n ≡ o → is_some o ≡ true → is_from_finals_on e.phase ≡ false
      → (suc j ≡ resolved) ⊎ (suc j ≡ rejected)
      → Keeps ts (if_accepted (settling e n v (suc j) o).reply.status (told.Settles n (suc j) v ∷ [])) (view (settling e n v (suc j) o).after)
  settling-tells n v j None given is early state = let no : ⊥ = cc in absurd no
  settling-tells n v j (Some p) given is early state = settles-told n p v j given early state

  -- a reaction is added
  adds-told : (x entry payload : ℕ) (q : Promise) → promise_at e.promises x ≡ Some q → is_from_finals_on e.phase ≡ false
      → Keeps ts (told.Adds x (new_ticket e.book) ∷ []) (view (reacting e x entry payload).after)
  adds-told x entry payload q at early =
      let r : Registration = reaction_of (caller_of e.frames) entry payload (state_now e.promises x) in
      let same : state_now e.promises x ≡ q.state = ap (λ (o : Option Promise). unwrap_or (option_map (λ (r : Promise). r.state) o) 0) at in
      let far : r.state ≡ reaction_state q.state = ap reaction_state same in
      tells_one (told.Adds x (new_ticket e.book)) (view (reacting e x entry payload).after)
      (told.adds x (new_ticket e.book) (promise-made h (view e) x q r k at early refl same far) (ticket-new h (view e) x q r k at early refl same far))
      (subst (λ (g : History). IsHistoryOf g (view (reacting e x entry payload).after)) (sym (history-adds ts x (new_ticket e.book)))
      (kept-adds h (view e) x q r k at early refl same far))

  adding-tells : (x entry payload : ℕ) → is_some (promise_state e.promises x) ≡ true → is_from_finals_on e.phase ≡ false
      → Keeps ts (told.Adds x (new_ticket e.book) ∷ []) (view (reacting e x entry payload).after)
  adding-tells x entry payload is early = by (promise_at e.promises x) refl is
    where
      by : (o : Option Promise) → promise_at e.promises x ≡ o → is_some (option_map (λ (r : Promise). r.state) o) ≡ true
          → Keeps ts (told.Adds x (new_ticket e.book) ∷ []) (view (reacting e x entry payload).after)
      by None there is = let no : ⊥ = cc in absurd no
      by (Some q) there is = adds-told x entry payload q there early

  -- the value is read that settled a promise
  reads-told : (t v : ℕ) (r : Promise) → IsKnown h e.heap.values r → has_number t r.reactions ≡ true → link_of e.heap.values r.value ≡ Some v
      → is_at is_owed e.book t ≡ false → Keeps ts (told.Tells t v ∷ []) (view e)
  reads-told t v r its among value spent =
      let under : added_under h.added t ≡ Some r.value = among-holds (λ m. added_under h.added m ≡ Some r.value) r.reactions t its.reactions among in
      let a = told-at h (view e) k t (has-under h.added t r.value under) in
      let it : IsTold h (is_from_finals_on e.phase) e.promises e.book a.0 = a.2 in
      let gone : is_owed it.registration.state ≡ false =
      sym (at-state is_owed e.book a.0.ticket it.registration it.there) ∙ ap (is_at is_owed e.book) a.1 ∙ spent in
      let begun : has_number t h.begun ≡ true = ap (λ m. has_number m h.begun) (sym a.1) ∙ not-false (has_number a.0.ticket h.begun) (sym it.owed ∙ gone) in
      tells_one (told.Tells t v) (view e) (told.tells t v r.value under begun (sym its.value ∙ value))
      (subst (λ (g : History). IsHistoryOf g (view e)) (sym (history-tells ts t v)) k)
    where
      has-under : (added : List AddedReaction) (t p : ℕ) → added_under added t ≡ Some p → has (λ (a : AddedReaction). a.ticket) t added ≡ true
      has-under added t p is = by (found (λ (a : AddedReaction). a.ticket) t added) refl is
        where
          by : (o : Option AddedReaction) → found (λ (a : AddedReaction). a.ticket) t added ≡ o → option_map (λ (a : AddedReaction). a.promise) o ≡ Some p
              → has (λ (a : AddedReaction). a.ticket) t added ≡ true
          by None there is = let no : ⊥ = cc in absurd no
          by (Some a) there is = has-of (λ (a : AddedReaction). a.ticket) t added a there

      not-false : (b : Bool) → not b ≡ false → b ≡ true
      not-false true is = refl
      not-false false is = let no : ⊥ = cc in absurd no

  reading-tells : (v w : ℕ) (heap : Heap) (g : HandleId) → handle_value heap g.0 ≡ v
      → ((t : ℕ) → ticket_of (duty_of e.frames) ≡ Some t → is_at is_owed e.book t ≡ false)
      → reaction_value e ≡ Some v → Keeps ts (told_read (ticket_of (duty_of e.frames)) heap (out.Handle g)) (view e)
  reading-tells v w heap g same spent value = at (ticket_of (duty_of e.frames)) refl value
    where
      found-at : (t : ℕ) → is_at is_owed e.book t ≡ false → (o : Option Promise) → find (λ (r : Promise). has_number t r.reactions) e.promises.promises ≡ o
          → option_and_then (link_of e.heap.values) (option_map (λ (r : Promise). r.value) o) ≡ Some v → Keeps ts (told.Tells t v ∷ []) (view e)
      found-at t gone None there value = let no : ⊥ = cc in absurd no
      found-at t gone (Some r) there value =
          reads-told t v r
          (subst (λ o. IfSome o (IsKnown h e.heap.values)) there
          (found-holds (IsKnown h e.heap.values) (λ (r : Promise). has_number t r.reactions) e.promises.promises k.known))
          (find-passes (λ (r : Promise). has_number t r.reactions) e.promises.promises r there) value gone

      at : (o : Option ℕ) → ticket_of (duty_of e.frames) ≡ o → option_and_then (link_of e.heap.values) (option_and_then (reaction_promise e.promises) o) ≡ Some v
          → Keeps ts (told_read o heap (out.Handle g)) (view e)
      at None is value = let no : ⊥ = cc in absurd no
      at (Some t) is value =
          subst (λ u. Keeps ts (told.Tells t u ∷ []) (view e)) (sym same)
          (found-at t (spent t is) (find (λ (r : Promise). has_number t r.reactions) e.promises.promises) refl value)

  -- values are collected
  has-filter : (test : Promise → Bool) (p : ℕ) (ps : List Promise) (r : Promise) → found (λ (q : Promise). q.value) p ps ≡ Some r → test r ≡ true
      → has (λ (q : Promise). q.value) p (filter test ps) ≡ true
  has-filter test p [] r there passes = let no : ⊥ = cc in absurd no
  has-filter test p (q ∷ ps) r there passes = by (q.value == p) refl (test q) refl there (has-filter test p ps r)
    where
      by : (b : Bool) → (q.value == p) ≡ b → (c : Bool) → test q ≡ c → cond b (Some q) (found (λ (q : Promise). q.value) p ps) ≡ Some r
          → (found (λ (q : Promise). q.value) p ps ≡ Some r → test r ≡ true → has (λ (q : Promise). q.value) p (filter test ps) ≡ true)
          → has (λ (q : Promise). q.value) p (cond c (q ∷ filter test ps) (filter test ps)) ≡ true
      by true is true its there later = or_left (q.value == p) _ is
      by true is false its there later = absurd (true-or-false _ (ap test (same_Some q r there) ∙ passes) its)
      by false is true its there later = or_right (q.value == p) _ (later there passes)
      by false is false its there later = later there passes

  among-roots : (p : ℕ) → has_number p (promise_roots e.promises) ≡ true → has_number p (roots e) ≡ true
  among-roots p is =
      has-right p (numbers starting_values ++ map (λ (h : OpenHandle). h.value) (held_by_frames e.heap.scopes) ++ strong_values e.references
      ++ map (λ (r : TsfnRoot). r.value) e.tsfn_roots ++ option_to_list e.pending) (promise_roots e.promises) is

  rooted : (p t : ℕ) → is_reaction_of e.promises p t ≡ true → has_number p (reach e) ≡ true
  rooted p t is = by (promise_at e.promises p) refl is
    where
      by : (o : Option Promise) → promise_at e.promises p ≡ o → has_number t (unwrap_or (option_map (λ (r : Promise). r.reactions) o) []) ≡ true
          → has_number p (reach e) ≡ true
      by None there is = let no : ⊥ = cc in absurd no
      by (Some r) there is =
          let its : IsKnown h e.heap.values r = found-All (λ (q : Promise). q.value) (IsKnown h e.heap.values) p e.promises.promises r k.known there in
          let same : r.value ≡ p = found-number (λ (q : Promise). q.value) p e.promises.promises r there in
          let value : has_number p (numbers e.heap.values) ≡ true =
          any-map (λ m. m == p) (λ (w : Value). w.number) e.heap.values ∙ has-found (λ (w : Value). w.number) p e.heap.values
          ∙ ap (λ m. is_some (value_at e.heap.values m)) (sym same) ∙ its.there in
          let root : has_number p (promise_roots e.promises) ≡ true =
          has-right p (map (λ (d : Deferred). d.promise) e.promises.deferreds) (map (λ (q : Promise). q.value) (filter (λ (q : Promise). not (is_empty q.reactions)) e.promises.promises))
          (any-map (λ m. m == p) (λ (q : Promise). q.value) (filter (λ (q : Promise). not (is_empty q.reactions)) e.promises.promises)
          ∙ has-filter (λ (q : Promise). not (is_empty q.reactions)) p e.promises.promises r there (unempty t r.reactions is)) in
          reach-roots e.heap.values (roots e) p value (among-roots p root)

  collected-kept : IsHooked e → IsHistoryOf h (view (collected (reach e) e))
  collected-kept hooked =
      let freed : ℕ → Bool = is_freed (reach e) in
      kept-collected h (view e) (reach e) (due_where (is_attached_to freed e.attachments) e.book) rooted
      (others-same (moved made_due) (λ r. refl) (is_attached_to freed e.attachments) e.book
      (λ n is. finalizer-other e.book n (tickets_where-holds (Finalizes e.book) e.attachments (HoldsAttached-from (Finalizes e.book) e.attachments hooked.attached) freed n is))) k

-- EACH CALL
pub if-none : {A : Type 0} (s : Status) → if_accepted {A = A} s [] ≡ []
if-none status.Ok = refl
if-none _ = refl

pub refused-none : {A : Type 0} (s : Status) (xs : List A) → s ≢ status.Ok → if_accepted s xs ≡ []
refused-none status.Ok xs never = absurd (never refl)
refused-none _ xs never = refl

module _ (ts : List PromiseFact) (m : Machine) (k : IsHistoryOf (history ts) (view m.env)) (hooked : IsHooked m.env) (fits : HeapFits m.env.heap)
    (stands : m.env.heap.scopes ≢ []) (spent : (t : ℕ) → ticket_of (duty_of m.env.frames) ≡ Some t → is_at is_owed m.env.book t ≡ false) where
  -- the machine after a call
  abbrev machine_after : Call → Answer Environment → Machine
  machine_after c a = record m { env = with_noted_status c a.reply.status a.after; journal_length = m.journal_length + 1 }

  abbrev CallKeeps : Call → Answer Environment → Type 0
  CallKeeps c a = Keeps ts (if_accepted a.reply.status (told_call m c a.reply (machine_after c a))) (view a.after)

  value-tells : (o : Option ℕ) → reaction_value m.env ≡ o → is_some o ≡ true → CallKeeps call.GetReactionValue (reaction_told m.env o)
  value-tells None value is = let no : ⊥ = cc in absurd no
  value-tells (Some v) value is =
      reading-tells ts m.env k v v (with_handle v m.env.heap) (record { 0 = m.env.heap.handles + 1 }) (new-handle m.env.heap v stands fits) spent value

  effect-tells : (c : Call) (n : ℕ) → refusal_before_depth m.env c ≡ None → IsTrue (is_fresh_result m.env (effect m.env c n).reply.out) → CallKeeps c (effect m.env c n)
  effect-tells call.CreatePromise n none fresh =
      makes-told ts m.env k n _ (new-number n m.env.promises.issued fresh) (new-handle (with_linked promise_tag None m.env.heap) (m.env.heap.made + 1) stands fits)
  effect-tells (call.ResolveDeferred d v) n none fresh =
      settling-tells ts m.env k d.0 (handle_value m.env.heap v.0) 0 (deferred_promise m.env.promises d.0) refl
      (not-unless (is_some (deferred_promise m.env.promises d.0)) status.InvalidArg (own-none m.env (call.ResolveDeferred d v) none))
      (guarded-early m.env (call.ResolveDeferred d v) refl none) (inl refl)
  effect-tells (call.RejectDeferred d v) n none fresh =
      settling-tells ts m.env k d.0 (handle_value m.env.heap v.0) 1 (deferred_promise m.env.promises d.0) refl
      (not-unless (is_some (deferred_promise m.env.promises d.0)) status.InvalidArg (own-none m.env (call.RejectDeferred d v) none))
      (guarded-early m.env (call.RejectDeferred d v) refl none) (inr refl)
  effect-tells (call.AddReaction x entry payload) n none fresh =
      adding-tells ts m.env k (handle_value m.env.heap x.0) entry payload
      (not-unless (is_some (promise_state m.env.promises (handle_value m.env.heap x.0))) status.InvalidArg (own-none m.env (call.AddReaction x entry payload) none))
      (guarded-early m.env (call.AddReaction x entry payload) refl none)
  effect-tells call.GetReactionValue n none fresh =
      value-tells (reaction_value m.env) refl (not-unless (is_some (reaction_value m.env)) status.InvalidArg (own-none m.env call.GetReactionValue none))
  effect-tells call.Collect n none fresh = tells_none (view (collected (reach m.env) m.env)) (collected-kept ts m.env k hooked)
  effect-tells c n none fresh =
      none-told ts _ _ _ (if-none (effect m.env c n).reply.status) refl (quiet-kept (history ts) (view m.env) (view (effect m.env c n).after) (quiet-of m.env c n hooked refl) k)

  refused-tells : (c : Call) (s : Status) (e : Environment) → s ≢ status.Ok → Quiet (view m.env) (view e) → CallKeeps c (refuses s e)
  refused-tells c s e never q = none-told ts _ (view e) (view e) (refused-none s _ never) refl (quiet-kept (history ts) (view m.env) (view e) q k)

  pub call-tells : (c : Call) (n : ℕ) → IsTrue (is_fresh_result m.env (answer m.env c n).reply.out) → CallKeeps c (answer m.env c n)
  call-tells c n = at (refusal_before_depth m.env c) (depth_refusal m.env.frames c) refl refl
    where
      never : (s : Status) (early deep : Option Status) → refusal_before_depth m.env c ≡ early → depth_refusal m.env.frames c ≡ deep → option_or early deep ≡ Some s
          → s ≢ status.Ok
      never s early deep is its told ok =
          no-refusal-accepts m.env c (ap (λ o. option_or o (depth_refusal m.env.frames c)) is ∙ ap (λ o. option_or early o) its ∙ told ∙ ap (λ r. Some r) ok)

      at : (early deep : Option Status) → refusal_before_depth m.env c ≡ early → depth_refusal m.env.frames c ≡ deep
          → IsTrue (is_fresh_result m.env (answer_unless_deep m.env c n early deep).reply.out) → CallKeeps c (answer_unless_deep m.env c n early deep)
      at None None is its fresh = effect-tells c n is fresh
      at (Some s) None is its fresh = refused-tells c s m.env (never s (Some s) None is its refl) (quiet-same (view m.env))
      at (Some s) (Some u) is its fresh = refused-tells c s m.env (never s (Some s) (Some u) is its refl) (quiet-same (view m.env))
      at None (Some s) is its fresh =
          refused-tells c s (with_depth_error m.env) (never s None (Some s) is its refl)
          (quiet-heap m.env (with_depth_error m.env).heap (thrown-links m.env.heap None (record { 0 = depth_text })))
