-- What the calls on promises and deferreds answer.
use Rattle.std.proofs.Common.{◌≡◌, ◌∙◌, ℕ, ◌+◌, ◌≤◌, ◌==◌, cond, Bool, true, false, not, List, ◌∷◌, map, length, Option, Some, None, is_some, is_none, IfSome, option_map, refl, ap, sym, subst, arith}
use Rattle.std.specs.List.{All}
use Rattle.std.specs.Option.{option_or, unwrap_or}
use Rattle.napi_types.specs.declared.call.Call.{Call}
use Rattle.napi_types.specs.declared.call.Call.TheVariants as call
use Rattle.napi_types.specs.declared.entry.Out.TheVariants as out
use Rattle.napi_types.specs.declared.entry.Reply.{Reply}
use Rattle.napi_types.specs.declared.ids.DeferredId.{DeferredId}
use Rattle.napi_types.specs.declared.ids.HandleId.{HandleId}
use Rattle.napi_types.specs.declared.status.Status.{Status}
use Rattle.napi_types.specs.declared.status.Status.TheVariants as status
use Rattle.napi_types.specs.plain.Lists.{found, has_number, when, unless}
use Rattle.napi_types.specs.plain.Replies.{Answer, accepts, plain}
use Rattle.napi_types.specs.parts.Attachments.{Attachments}
use Rattle.napi_types.specs.parts.Book.{new_ticket, ticket_duty, with_registration}
use Rattle.napi_types.specs.parts.Frames.{caller_of}
use Rattle.napi_types.specs.parts.Graph.{StoreState, IsSoundStore, IsLive, number_in}
use Rattle.napi_types.specs.parts.Heap.{Heap, handle_value}
use Rattle.napi_types.specs.parts.HeapChanges.{with_handle}
use Rattle.napi_types.specs.parts.Promises.{Promises, Deferred, promise_state, state_now, reactions_of, deferred_promise, with_promise, with_settled, with_reaction, reactions_settled}
use Rattle.napi_types.specs.parts.References.{ReferenceMap}
use Rattle.napi_types.specs.parts.Scopes.{gives}
use Rattle.napi_types.specs.parts.Values.{undefined_value}
use Rattle.napi_types.specs.environment.Calls.{effect}
use Rattle.napi_types.specs.environment.Environment.{Environment, TsfnRoot, in_heap}
use Rattle.napi_types.specs.environment.PromiseCalls.{with_new_promise, with_promises, with_settler, settling, resolved, rejected, reaction_of, reaction_value, reaction_told}
use Rattle.napi_types.specs.environment.Refusals.{refusal_by_state}
use Rattle.std.proofs.lemmas.List.{length-map}
use Rattle.std.proofs.lemmas.Option.{same_Some}
use Rattle.napi_types.proofs.plain.Found.{found-All, same-tells}
use Rattle.napi_types.proofs.plain.Lists.{length-changed}
use Rattle.deferred.specs.KeptPromises.{AreMaps}
use Rattle.handle_scope.specs.HandleScopes.{HandleScopes}
use Rattle.env_values.specs.SeenValues.{seen_frame, heap_of, IsPromiseIn, KeepsValues}
use Rattle.env_values.proofs.Giving.{given-answer}
use Rattle.env_values.proofs.HandleValues.{unknown-handle}
use Rattle.env_core.specs.Attaching.{AreAttachedToLive}
use Rattle.env_core.specs.Promising.{promises_seen, PromisesAreLive, settling_call}
use Rattle.env_core.specs.Referring.{RefersToLive}
use Rattle.env_core.specs.State.{AnswersInTime}
use Rattle.env_core.specs.TsfnRooting.{RootsAreLive}
use Rattle.env_core.proofs.CoreScopes.{known-handle}
use Rattle.env_core.proofs.Promising.{promise-in-live, promised-kept, promises-kept, promise-absent, seen-deferred, seen-with_promise, seen-with_settled, seen-with_reaction, seen-state, seen-reactions, promised-settled}
use Rattle.env_core.proofs.Referring.{refused-timely, replied-timely, accepted-timely}
use Rattle.env_core.proofs.ValueAnswers.{seen_by, same-parts}

-- A NEW PROMISE
-- the promises, with one more of a new value
pub seen-created : (s t : StoreState) → KeepsValues s t → IsSoundStore s → IsSoundStore t → (ps : Promises) → PromisesAreLive s ps → AreMaps ps → (v n : ℕ)
    → IsLive t v → number_in t v ≡ s.made + 1 → promises_seen t (with_promise v n ps) ≡ with_promise (s.made + 1) n (promises_seen s ps)
seen-created s t kept before after ps promised maps v n live number =
    seen-with_promise t after ps v n live (promised-kept s t kept ps promised) maps.promises (promise-absent s t kept before ps promised v number)
    ∙ ap (λ k. with_promise k n (promises_seen t ps)) number
    ∙ ap (with_promise (s.made + 1) n) (promises-kept s t kept ps promised)

-- as many frames have their scopes
pub created-frames : (s t : StoreState) (old new : HandleScopes) → heap_of t new ≡ with_new_promise (heap_of s old) → length new.frames ≡ length old.frames
created-frames s t old new heap =
    sym (length-map new.frames (seen_frame t)) ∙ ap (λ (h : Heap). length h.scopes) heap ∙ length-changed _ (map (seen_frame s) old.frames)
    ∙ length-map old.frames (seen_frame s)

pub created-answers : (e : Environment) (s t : StoreState) (old new : HandleScopes) (m : ReferenceMap) (rs : List TsfnRoot) (a : Attachments) (p : Option ℕ)
    (ps : Promises) (v : ℕ) (d : DeferredId) (h : HandleId)
    → KeepsValues s t → IsSoundStore s → IsSoundStore t → RefersToLive s m → RootsAreLive s rs → AreAttachedToLive s a → IfSome p (IsLive s)
    → PromisesAreLive s ps → AreMaps ps → IsLive t v → number_in t v ≡ s.made + 1 → h.0 ≡ old.handles + 1
    → heap_of t new ≡ with_new_promise (heap_of s old) → has_number d.0 (0 ∷ ps.issued) ≡ false
    → AnswersInTime (seen_by e s old m rs a p ps) call.CreatePromise (plain status.Ok (out.Promise d h)) (seen_by e t new m rs a p (with_promise v d.0 ps))
created-answers e s t old new m rs a p ps v d h kept before after live rooted attached alive promised maps here number handle heap fresh =
    let env : Environment = seen_by e s old m rs a p ps in
    accepted-timely env (seen_by e t new m rs a p (with_promise v d.0 ps)) call.CreatePromise (out.Promise d h) refl (ap not fresh)
    (ap (λ n. accepts (out.Promise d (record { 0 = n })) (with_promises (with_new_promise env.heap) (with_promise (s.made + 1) d.0 env.promises) env)) (sym handle)
    ∙ ap (λ x. accepts (out.Promise d h) (with_promises x (with_promise (s.made + 1) d.0 env.promises) env)) (sym heap)
    ∙ ap (λ x. accepts (out.Promise d h) (with_promises (heap_of t new) x env)) (sym (seen-created s t kept before after ps promised maps v d.0 here number))
    ∙ ap (λ x. accepts (out.Promise d h) (with_promises (heap_of t new) (promises_seen t (with_promise v d.0 ps)) x))
    (sym (same-parts env s t m rs a p kept live rooted attached alive)))

-- A DEFERRED THAT IS SETTLED
-- what holds of the promise of each deferred holds of that of one
deferred-holds : (P : ℕ → Type 0) (p : Promises) (n v : ℕ) → deferred_promise p n ≡ Some v → All (λ d. P d.promise) p.deferreds → P v
deferred-holds P p n v is all = by (found (λ d. d.number) n p.deferreds) refl is
  where
    by : (o : Option Deferred) → found (λ d. d.number) n p.deferreds ≡ o → option_map (λ (d : Deferred). d.promise) o ≡ Some v → P v
    by None at is = let no : ⊥ = cc in absurd no
    by (Some d) at is =
        let same : d.promise ≡ v = same_Some d.promise v is in
        subst P same (found-All (λ (x : Deferred). x.number) (λ x. P x.promise) n p.deferreds d all at)

-- the promise of a deferred that is not settled is a value that is a promise, and so it is live
pub deferred-promise : (s : StoreState) (ps : Promises) → PromisesAreLive s ps → (n v : ℕ) → deferred_promise ps n ≡ Some v → IsPromiseIn s v
deferred-promise s ps promised n v is = deferred-holds (IsPromiseIn s) ps n v is promised.deferreds

deferred-live : (s : StoreState) (ps : Promises) → PromisesAreLive s ps → (n v : ℕ) → deferred_promise ps n ≡ Some v → IsLive s v
deferred-live s ps promised n v is = promise-in-live s v (deferred-promise s ps promised n v is)

-- a call that settles a deferred
pub record Settles (c : Call) (d : DeferredId) (h : HandleId) (state : ℕ) : Type 0 where
  pub effects : (e : Environment) → effect e c 0 ≡ settling e d.0 (handle_value e.heap h.0) state (deferred_promise e.promises d.0)
  pub refused : (e : Environment) (known : Bool) → is_some (gives e.heap.scopes h.0) ≡ known
      → refusal_by_state e c ≡ option_or (unless known status.InvalidArg) (unless (is_some (deferred_promise e.promises d.0)) status.InvalidArg)

resolve-refused : (e : Environment) (d : DeferredId) (h : HandleId) (known : Bool) → is_some (gives e.heap.scopes h.0) ≡ known
    → refusal_by_state e (call.ResolveDeferred d h) ≡ option_or (unless known status.InvalidArg) (unless (is_some (deferred_promise e.promises d.0)) status.InvalidArg)
resolve-refused e d h true known = rw known refl
resolve-refused e d h false known = rw known refl

reject-refused : (e : Environment) (d : DeferredId) (h : HandleId) (known : Bool) → is_some (gives e.heap.scopes h.0) ≡ known
    → refusal_by_state e (call.RejectDeferred d h) ≡ option_or (unless known status.InvalidArg) (unless (is_some (deferred_promise e.promises d.0)) status.InvalidArg)
reject-refused e d h true known = rw known refl
reject-refused e d h false known = rw known refl

resolving : (d : DeferredId) (h : HandleId) (state : ℕ) → state ≡ resolved → Settles (call.ResolveDeferred d h) d h state
resolving d h state is = record {
  effects = λ e. ap (λ k. settling e d.0 (handle_value e.heap h.0) k (deferred_promise e.promises d.0)) (sym is);
  refused = λ e. resolve-refused e d h;
}

rejecting : (d : DeferredId) (h : HandleId) (state : ℕ) → state ≡ rejected → Settles (call.RejectDeferred d h) d h state
rejecting d h state is = record {
  effects = λ e. ap (λ k. settling e d.0 (handle_value e.heap h.0) k (deferred_promise e.promises d.0)) (sym is);
  refused = λ e. reject-refused e d h;
}

-- the call of a state does
pub settling-call : (d : DeferredId) (h : HandleId) (state : ℕ) → (1 ≤ state) × (state ≤ 2) → Settles (settling_call state d h) d h state
settling-call d h state within = by (state == resolved) refl
  where
    second : (n : ℕ) → (1 ≤ n) × (n ≤ 2) → (n == 1) ≡ false → n ≡ 2
    second n within other = grind (arith, within.0, within.1, other)

    by : (b : Bool) → (state == resolved) ≡ b → Settles (cond b (call.ResolveDeferred d h) (call.RejectDeferred d h)) d h state
    by true is = resolving d h state (same-tells state resolved is)
    by false other = rejecting d h state (second state within other)

-- its handle is unknown
pub settle-unknown : (e : Environment) (s : StoreState) (scopes : HandleScopes) (m : ReferenceMap) (rs : List TsfnRoot) (a : Attachments) (p : Option ℕ)
    (ps : Promises) (c : Call) (d : DeferredId) (h : HandleId) (state : ℕ) → Settles c d h state → None ≡ gives scopes.frames h.0
    → AnswersInTime (seen_by e s scopes m rs a p ps) c (plain status.InvalidArg out.Nothing) (seen_by e s scopes m rs a p ps)
settle-unknown e s scopes m rs a p ps c d h state k none =
    let env : Environment = seen_by e s scopes m rs a p ps in
    refused-timely env c status.InvalidArg (k.refused env false (unknown-handle s scopes.frames h.0 none))

-- the deferred is unknown or settled
pub settle-refused : (e : Environment) (s : StoreState) (scopes : HandleScopes) (m : ReferenceMap) (rs : List TsfnRoot) (a : Attachments) (p : Option ℕ)
    (ps : Promises) (c : Call) (d : DeferredId) (h : HandleId) (state v : ℕ) (why : Status) → Settles c d h state → Some v ≡ gives scopes.frames h.0
    → Some why ≡ when (is_none (deferred_promise ps d.0)) status.InvalidArg
    → AnswersInTime (seen_by e s scopes m rs a p ps) c (plain why out.Nothing) (seen_by e s scopes m rs a p ps)
settle-refused e s scopes m rs a p ps c d h state v why k given refusal =
    let env : Environment = seen_by e s scopes m rs a p ps in
    let known : is_some (gives env.heap.scopes h.0) ≡ true = ap is_some (known-handle s scopes h.0 v given) in
    refused-timely env c why (k.refused env true known ∙ ap (λ (o : Option ℕ). unless (is_some o) status.InvalidArg) (seen-deferred s ps d.0) ∙ by (deferred_promise ps d.0) ∙ sym refusal)
  where
    by : (o : Option ℕ) → unless (is_some (option_map (number_in s) o)) status.InvalidArg ≡ when (is_none o) status.InvalidArg
    by None = refl
    by (Some w) = refl

-- it is settled
pub settle-answers : (e : Environment) (s t : StoreState) (scopes : HandleScopes) (m : ReferenceMap) (rs : List TsfnRoot) (a : Attachments) (p : Option ℕ)
    (ps : Promises) (c : Call) (d : DeferredId) (h : HandleId) (state v w : ℕ) → Settles c d h state
    → KeepsValues s t → IsSoundStore s → RefersToLive s m → RootsAreLive s rs → AreAttachedToLive s a → IfSome p (IsLive s) → PromisesAreLive s ps
    → Some v ≡ gives scopes.frames h.0 → deferred_promise ps d.0 ≡ Some w → heap_of t scopes ≡ with_settler (number_in s w) (number_in s v) (heap_of s scopes)
    → AnswersInTime (seen_by e s scopes m rs a p ps) c (plain status.Ok out.Nothing)
    (seen_by (record e { book = reactions_settled state (reactions_of ps w) e.book }) t scopes m rs a p (with_settled d.0 w state ps))
settle-answers e s t scopes m rs a p ps c d h state v w k kept sound live rooted attached alive promised given is heap =
    let env : Environment = seen_by e s scopes m rs a p ps in
    let known : gives env.heap.scopes h.0 ≡ Some (number_in s v) = known-handle s scopes h.0 v given in
    let seen : deferred_promise env.promises d.0 ≡ Some (number_in s w) = seen-deferred s ps d.0 ∙ ap (option_map (number_in s)) is in
    let value : handle_value env.heap h.0 ≡ number_in s v = ap (λ o. unwrap_or o undefined_value) known in
    let none : refusal_by_state env c ≡ None =
    k.refused env true (ap is_some known) ∙ ap (λ (o : Option ℕ). unless (is_some o) status.InvalidArg) seen in
    let settled : Promises = with_settled d.0 w state ps in
    let here : IsLive s w = deferred-live s ps promised d.0 w is in
    let promises : promises_seen t settled ≡ with_settled d.0 (number_in s w) state env.promises =
    promises-kept s t kept settled (promised-settled s ps d.0 w state promised) ∙ seen-with_settled s sound ps d.0 w state here promised in
    let after : Heap → Promises → List ℕ → Environment → Answer Environment =
    λ x q ns y. accepts out.Nothing (record y { heap = x; promises = q; book = reactions_settled state ns e.book }) in
    let before : List ℕ = reactions_of env.promises (number_in s w) in
    accepted-timely env (seen_by (record e { book = reactions_settled state (reactions_of ps w) e.book }) t scopes m rs a p settled) c out.Nothing none refl
    (k.effects env
    ∙ ap (λ o. settling env d.0 (handle_value env.heap h.0) state o) seen
    ∙ ap (λ n. after (with_settler (number_in s w) n env.heap) (with_settled d.0 (number_in s w) state env.promises) before env) value
    ∙ ap (λ x. after x (with_settled d.0 (number_in s w) state env.promises) before env) (sym heap)
    ∙ ap (λ q. after (heap_of t scopes) q before env) (sym promises)
    ∙ ap (λ ns. after (heap_of t scopes) (promises_seen t settled) ns env) (seen-reactions s sound ps w here promised)
    ∙ ap (λ y. after (heap_of t scopes) (promises_seen t settled) (reactions_of ps w) y) (sym (same-parts env s t m rs a p kept live rooted attached alive)))

-- A REACTION
-- what refuses one, where its handle is known or not
reacts-refused : (e : Environment) (h : HandleId) (entry payload : ℕ) (known : Bool) → is_some (gives e.heap.scopes h.0) ≡ known
    → refusal_by_state e (call.AddReaction h entry payload)
    ≡ option_or (unless known status.InvalidArg) (unless (is_some (promise_state e.promises (handle_value e.heap h.0))) status.InvalidArg)
reacts-refused e h entry payload true known = rw known refl
reacts-refused e h entry payload false known = rw known refl

pub react-unknown : (e : Environment) (s : StoreState) (scopes : HandleScopes) (m : ReferenceMap) (rs : List TsfnRoot) (a : Attachments) (p : Option ℕ)
    (ps : Promises) (h : HandleId) (entry payload : ℕ) → None ≡ gives scopes.frames h.0
    → AnswersInTime (seen_by e s scopes m rs a p ps) (call.AddReaction h entry payload) (plain status.InvalidArg out.Nothing) (seen_by e s scopes m rs a p ps)
react-unknown e s scopes m rs a p ps h entry payload none =
    let env : Environment = seen_by e s scopes m rs a p ps in
    refused-timely env (call.AddReaction h entry payload) status.InvalidArg (reacts-refused env h entry payload false (unknown-handle s scopes.frames h.0 none))

-- why a value that is known may be refused
react-known : (e : Environment) (s : StoreState) (scopes : HandleScopes) (m : ReferenceMap) (rs : List TsfnRoot) (a : Attachments) (p : Option ℕ)
    (ps : Promises) (h : HandleId) (entry payload v : ℕ) → IsSoundStore s → IsLive s v → PromisesAreLive s ps → Some v ≡ gives scopes.frames h.0
    → refusal_by_state (seen_by e s scopes m rs a p ps) (call.AddReaction h entry payload) ≡ unless (is_some (promise_state ps v)) status.InvalidArg
react-known e s scopes m rs a p ps h entry payload v sound here promised given =
    let env : Environment = seen_by e s scopes m rs a p ps in
    let known : gives env.heap.scopes h.0 ≡ Some (number_in s v) = known-handle s scopes h.0 v given in
    reacts-refused env h entry payload true (ap is_some known)
    ∙ ap (λ n. unless (is_some (promise_state env.promises n)) status.InvalidArg) (ap (λ o. unwrap_or o undefined_value) known)
    ∙ ap (λ (o : Option ℕ). unless (is_some o) status.InvalidArg) (seen-state s sound ps v here promised)

pub react-refused : (e : Environment) (s : StoreState) (scopes : HandleScopes) (m : ReferenceMap) (rs : List TsfnRoot) (a : Attachments) (p : Option ℕ)
    (ps : Promises) (h : HandleId) (entry payload v : ℕ) → IsSoundStore s → IsLive s v → PromisesAreLive s ps → Some v ≡ gives scopes.frames h.0
    → is_some (promise_state ps v) ≡ false
    → AnswersInTime (seen_by e s scopes m rs a p ps) (call.AddReaction h entry payload) (plain status.InvalidArg out.Nothing) (seen_by e s scopes m rs a p ps)
react-refused e s scopes m rs a p ps h entry payload v sound here promised given none =
    refused-timely (seen_by e s scopes m rs a p ps) (call.AddReaction h entry payload) status.InvalidArg
    (react-known e s scopes m rs a p ps h entry payload v sound here promised given ∙ by (promise_state ps v) none)
  where
    by : (o : Option ℕ) → is_some o ≡ false → unless (is_some o) status.InvalidArg ≡ Some status.InvalidArg
    by None none = refl
    by (Some n) none = cc

pub react-unrefused : (e : Environment) (s : StoreState) (scopes : HandleScopes) (m : ReferenceMap) (rs : List TsfnRoot) (a : Attachments) (p : Option ℕ)
    (ps : Promises) (h : HandleId) (entry payload v : ℕ) → IsSoundStore s → IsLive s v → PromisesAreLive s ps → Some v ≡ gives scopes.frames h.0
    → is_some (promise_state ps v) ≡ true → refusal_by_state (seen_by e s scopes m rs a p ps) (call.AddReaction h entry payload) ≡ None
react-unrefused e s scopes m rs a p ps h entry payload v sound here promised given some =
    react-known e s scopes m rs a p ps h entry payload v sound here promised given ∙ by (promise_state ps v) some
  where
    by : (o : Option ℕ) → is_some o ≡ true → unless (is_some o) status.InvalidArg ≡ None
    by None some = cc
    by (Some n) some = refl

-- it is added
pub react-answers : (e : Environment) (s : StoreState) (scopes : HandleScopes) (m : ReferenceMap) (rs : List TsfnRoot) (a : Attachments) (p : Option ℕ)
    (ps : Promises) (h : HandleId) (entry payload v : ℕ) → IsSoundStore s → IsLive s v → PromisesAreLive s ps → Some v ≡ gives scopes.frames h.0
    → is_some (promise_state ps v) ≡ true → (addon : ℕ) → addon ≡ caller_of e.frames
    → AnswersInTime (seen_by e s scopes m rs a p ps) (call.AddReaction h entry payload)
    (record (plain status.Ok out.Nothing) { made = Some (ticket_duty (new_ticket e.book)) })
    (seen_by (record e { book = with_registration (reaction_of addon entry payload (state_now ps v)) e.book }) s scopes m rs a p (with_reaction v (new_ticket e.book) ps))
react-answers e s scopes m rs a p ps h entry payload v sound here promised given some addon caller =
    let env : Environment = seen_by e s scopes m rs a p ps in
    let c : Call = call.AddReaction h entry payload in
    let t : ℕ = new_ticket e.book in
    let r : Reply = record (plain status.Ok out.Nothing) { made = Some (ticket_duty t) } in
    let value : handle_value env.heap h.0 ≡ number_in s v = ap (λ o. unwrap_or o undefined_value) (known-handle s scopes h.0 v given) in
    let after : ℕ → Promises → ℕ → Answer Environment =
    λ who q state. record { reply = r; after = record env { promises = q; book = with_registration (reaction_of who entry payload state) e.book } } in
    let same : state_now env.promises (number_in s v) ≡ state_now ps v = ap (λ o. unwrap_or o 0) (seen-state s sound ps v here promised) in
    replied-timely env (after addon (promises_seen s (with_reaction v t ps)) (state_now ps v)).after c r
    (react-unrefused e s scopes m rs a p ps h entry payload v sound here promised given some) refl
    (ap (λ n. after (caller_of e.frames) (with_reaction n t env.promises) (state_now env.promises n)) value
    ∙ ap (λ k. after (caller_of e.frames) (with_reaction (number_in s v) t env.promises) k) same
    ∙ ap (λ q. after (caller_of e.frames) q (state_now ps v)) (sym (seen-with_reaction s sound ps v t here promised))
    ∙ ap (λ who. after who (promises_seen s (with_reaction v t ps)) (state_now ps v)) (sym caller))

-- THE VALUE OF A REACTION
-- there is none
pub reads-none : (e : Environment) → reaction_value e ≡ None → AnswersInTime e call.GetReactionValue (plain status.InvalidArg out.Nothing) e
reads-none e none = refused-timely e call.GetReactionValue status.InvalidArg (ap (λ (o : Option ℕ). unless (is_some o) status.InvalidArg) none)

-- it is there
pub reads-unrefused : (e : Environment) (n : ℕ) → reaction_value e ≡ Some n → refusal_by_state e call.GetReactionValue ≡ None
reads-unrefused e n is = ap (λ (o : Option ℕ). unless (is_some o) status.InvalidArg) is

pub reads-answers : (e : Environment) (heap : Heap) (n : ℕ) (h : HandleId) → reaction_value e ≡ Some n → h.0 ≡ e.heap.handles + 1 → heap ≡ with_handle n e.heap
    → AnswersInTime e call.GetReactionValue (plain status.Ok (out.Handle h)) (record e { heap = heap })
reads-answers e heap n h is next held =
    accepted-timely e (record e { heap = heap }) call.GetReactionValue (out.Handle h) (reads-unrefused e n is) refl
    (ap (reaction_told e) is ∙ ap (in_heap e) (given-answer e.heap heap n h next held))
