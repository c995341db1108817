-- A call on values, properties or elements gives no number of its own choice.
use Rattle.std.proofs.Common.{◌≡◌, ℕ, true, List, [], ◌∷◌, length, map, refl, ap, sym, ◌∙◌, Option, Some, None, Result, Ok, Err, IfOk, OnOk, OnErr, IfSome}
use Rattle.std.specs.List.{All}
use Rattle.std.proofs.lemmas.List.{length-map}
use Rattle.std.proofs.lemmas.List.Elements.{All-nil, All-cons, All-head, All-tail}
use Rattle.napi_types.specs.declared.call.Call.{Call}
use Rattle.napi_types.specs.declared.call.Call.TheVariants as call
use Rattle.napi_types.specs.declared.status.Status.{Status}
use Rattle.napi_types.specs.declared.entry.Out.{Out}
use Rattle.napi_types.specs.declared.entry.Reply.{Reply}
use Rattle.napi_types.specs.plain.CallKinds.{is_value_call}
use Rattle.napi_types.specs.plain.Replies.{Answer, plain}
use Rattle.napi_types.specs.parts.Attachments.{Attachments}
use Rattle.napi_types.specs.parts.Frames.{caller_of}
use Rattle.napi_types.specs.parts.Graph.{StoreState, IsLive}
use Rattle.napi_types.specs.parts.Heap.{Heap}
use Rattle.napi_types.specs.parts.HeapCalls.{addon_effect, heap_answer_unless, heap_answer}
use Rattle.napi_types.specs.parts.HeapRefusals.{refusal_in}
use Rattle.napi_types.specs.parts.Promises.{Promises}
use Rattle.napi_types.specs.parts.References.{Reference, ReferenceMap}
use Rattle.napi_types.specs.environment.Calls.{effect, answer_unless}
use Rattle.napi_types.specs.environment.Changes.{is_fresh_result, issued_number}
use Rattle.napi_types.specs.environment.Environment.{Environment, TsfnRoot, with_heap, in_heap}
use Rattle.napi_types.specs.environment.Refusals.{group_refusal, refusal_by_state}
use Rattle.napi_types.proofs.plain.Lists.{option_or-none}
use Rattle.napi_types.proofs.environment.AnswersKeep.{heap_answer-keeps}
use Rattle.std.specs.Option.{option_or}
use Rattle.handle_scope.specs.HandleScopes.{HandleScopes}
use Rattle.env_values.specs.SeenValues.{seen_frame, heap_of, KeepsValues}
use Rattle.env_core.specs.Attaching.{attachments_seen, AreAttachedToLive}
use Rattle.env_core.proofs.Attaching.{attachments-kept}
use Rattle.env_core.specs.Promising.{promises_seen, PromisesAreLive}
use Rattle.env_core.proofs.Promising.{promises-kept}
use Rattle.env_core.specs.TsfnRooting.{tsfn_roots_seen, RootsAreLive}
use Rattle.env_core.proofs.TsfnRooting.{roots-kept}
use Rattle.env_core.specs.Referring.{seen_reference, references_seen, RefersToLive}
use Rattle.env_core.specs.State.{pending_seen, AnswersInTime}

accepted-any : (addon : ℕ) (heap : Heap) (c : Call) (n : ℕ) → is_value_call c ≡ true → addon_effect addon heap c 0 ≡ addon_effect addon heap c n
accepted-any addon heap call.OpenHandleScope n h = cc
accepted-any addon heap call.OpenEscapableHandleScope n h = cc
accepted-any addon heap _ n h = refl

by-any : (addon : ℕ) (heap : Heap) (c : Call) (n : ℕ) (s : Option Status) → is_value_call c ≡ true → heap_answer_unless addon heap c 0 s ≡ heap_answer_unless addon heap c n s
by-any addon heap c n None h = accepted-any addon heap c n h
by-any addon heap c n (Some s) h = refl

-- the number that a call may be given is not read
pub answer-any : (texts addon : ℕ) (heap : Heap) (c : Call) (n : ℕ) → is_value_call c ≡ true → heap_answer texts addon heap c 0 ≡ heap_answer texts addon heap c n
answer-any texts addon heap c n h = by-any addon heap c n (refusal_in texts heap c) h

accepted-fresh : (e : Environment) (addon : ℕ) (heap : Heap) (c : Call) (n : ℕ) → is_value_call c ≡ true → is_fresh_result e (addon_effect addon heap c n).reply.out ≡ true
accepted-fresh e addon heap call.OpenHandleScope n h = cc
accepted-fresh e addon heap call.OpenEscapableHandleScope n h = cc
accepted-fresh e addon heap _ n h = refl

by-fresh : (e : Environment) (addon : ℕ) (heap : Heap) (c : Call) (n : ℕ) (s : Option Status) → is_value_call c ≡ true → is_fresh_result e (heap_answer_unless addon heap c n s).reply.out ≡ true
by-fresh e addon heap c n None h = accepted-fresh e addon heap c n h
by-fresh e addon heap c n (Some s) h = refl

-- no scope number is told
pub answer-fresh : (e : Environment) (texts addon : ℕ) (heap : Heap) (c : Call) (n : ℕ) → is_value_call c ≡ true → is_fresh_result e (heap_answer texts addon heap c n).reply.out ≡ true
answer-fresh e texts addon heap c n h = by-fresh e addon heap c n (refusal_in texts heap c) h

-- such a call answers in the environment what it answers in the heap
accepted-in_heap : (e : Environment) (c : Call) (n : ℕ) → is_value_call c ≡ true → effect e c n ≡ in_heap e (addon_effect (caller_of e.frames) e.heap c n)
accepted-in_heap e call.Exit n v = cc
accepted-in_heap e _ n v = cc

given-in_heap : (e : Environment) (c : Call) (n : ℕ) (s : Option Status) → is_value_call c ≡ true → answer_unless e c n s ≡ in_heap e (heap_answer_unless (caller_of e.frames) e.heap c n s)
given-in_heap e c n None v = accepted-in_heap e c n v
given-in_heap e c n (Some s) v = refl

-- nothing beside the heap refuses it
no-group : (e : Environment) (c : Call) → is_value_call c ≡ true → group_refusal e c ≡ None
no-group e call.Exit h = cc
no-group e _ h = cc

pub timely-value : (e : Environment) (c : Call) → is_value_call c ≡ true → refusal_by_state e c ≡ refusal_in e.texts e.heap c
timely-value e c h = ap (option_or (refusal_in e.texts e.heap c)) (no-group e c h) ∙ option_or-none (refusal_in e.texts e.heap c)

-- the reply of such a call, and the heap that it leaves, are the machine's answer in the environment
pub value-answers : {E : Type 0} (e : Environment) (addon : ℕ) (c : Call) (heap : Heap) (result : Result (Status × Out) E) → is_value_call c ≡ true → addon ≡ caller_of e.frames
    → IfOk result (λ told. plain told.0 told.1 ≡ (heap_answer e.texts addon e.heap c 0).reply) → OnOk result (heap ≡ (heap_answer e.texts addon e.heap c 0).after)
    → IfOk result (λ told. AnswersInTime e c (plain told.0 told.1) (with_heap e heap))
value-answers e addon c heap (Err x) h caller replies leaves = tt
value-answers e addon c heap (Ok told) h caller replies leaves =
    let r : Reply = plain told.0 told.1 in
    let n = issued_number r.out in
    let any : heap_answer e.texts addon e.heap c 0 ≡ heap_answer e.texts (caller_of e.frames) e.heap c n =
    answer-any e.texts addon e.heap c n h ∙ ap (λ a. heap_answer e.texts a e.heap c n) caller in
    let given : answer_unless e c n (refusal_by_state e c) ≡ in_heap e (heap_answer e.texts (caller_of e.frames) e.heap c n) =
    ap (answer_unless e c n) (timely-value e c h) ∙ given-in_heap e c n (refusal_in e.texts e.heap c) h in
    record {
      fresh = ap (λ (q : Reply). is_fresh_result e q.out) replies ∙ answer-fresh e e.texts addon e.heap c 0 h;
      reply = replies ∙ ap (λ (a : Answer Heap). a.reply) any ∙ ap (λ (a : Answer Environment). a.reply) (sym given);
      after = ap (with_heap e) leaves ∙ ap (λ (a : Answer Heap). with_heap e a.after) any ∙ ap (λ (a : Answer Environment). a.after) (sym given);
    }

-- such a call leaves as many frames their scopes
pub value-frames : {X E : Type 0} (texts addon : ℕ) (c : Call) (store after_store : StoreState) (old new : HandleScopes) (result : Result X E)
    → OnOk result (heap_of after_store new ≡ (heap_answer texts addon (heap_of store old) c 0).after) → OnErr result (heap_of after_store new ≡ heap_of store old)
    → length new.frames ≡ length old.frames
value-frames texts addon c store after_store old new result leaves stays =
    sym (length-map new.frames (seen_frame after_store)) ∙ seen result leaves stays ∙ length-map old.frames (seen_frame store)
  where
    seen : {X E : Type 0} (result : Result X E)
        → OnOk result (heap_of after_store new ≡ (heap_answer texts addon (heap_of store old) c 0).after) → OnErr result (heap_of after_store new ≡ heap_of store old)
        → length (map (seen_frame after_store) new.frames) ≡ length (map (seen_frame store) old.frames)
    seen (Ok r) leaves stays = ap (λ (h : Heap). length h.scopes) leaves ∙ (heap_answer-keeps texts addon (heap_of store old) c 0).depth
    seen (Err x) leaves stays = ap (λ (h : Heap). length h.scopes) stays

-- where the heap is seen as it was, as many frames have their scopes
pub same-frames : (s t : StoreState) (old new : HandleScopes) → heap_of t new ≡ heap_of s old → length new.frames ≡ length old.frames
same-frames s t old new heap =
    sym (length-map new.frames (seen_frame t)) ∙ ap (λ (h : Heap). length h.scopes) heap ∙ length-map old.frames (seen_frame s)

-- THE PENDING EXCEPTION
-- it stays live, under its number
pub pending-live : (s t : StoreState) (p : Option ℕ) → KeepsValues s t → IfSome p (IsLive s) → IfSome p (IsLive t)
pending-live s t None kept live = tt
pending-live s t (Some v) kept live = kept.live v live

pub pending-kept : (s t : StoreState) (p : Option ℕ) → KeepsValues s t → IfSome p (IsLive s) → pending_seen t p ≡ pending_seen s p
pending-kept s t None kept live = refl
pending-kept s t (Some v) kept live = ap Some (kept.numbers v live)

-- REFERENCES
rows-live : (s t : StoreState) (rs : List Reference) → KeepsValues s t → All (λ r. IfSome r.value (IsLive s)) rs → All (λ r. IfSome r.value (IsLive t)) rs
rows-live s t [] kept live = All-nil (λ (r : Reference). IfSome r.value (IsLive t))
rows-live s t (r ∷ rs) kept live =
    let P : Reference → Type 0 = λ r. IfSome r.value (IsLive s) in
    let Q : Reference → Type 0 = λ r. IfSome r.value (IsLive t) in
    All-cons Q r rs (pending-live s t r.value kept (All-head P r rs live)) (rows-live s t rs kept (All-tail P r rs live))

-- the values to which references are stay live, under their numbers
pub referred-live : (s t : StoreState) (m : ReferenceMap) → KeepsValues s t → RefersToLive s m → RefersToLive t m
referred-live s t m kept live = rows-live s t m.rows kept live

rows-kept : (s t : StoreState) (rs : List Reference) → KeepsValues s t → All (λ r. IfSome r.value (IsLive s)) rs → map (seen_reference t) rs ≡ map (seen_reference s) rs
rows-kept s t [] kept live = refl
rows-kept s t (r ∷ rs) kept live =
    let P : Reference → Type 0 = λ r. IfSome r.value (IsLive s) in
    let first : seen_reference t r ≡ seen_reference s r = ap (λ v. record r { value = v }) (pending-kept s t r.value kept (All-head P r rs live)) in
    ap (λ x. x ∷ map (seen_reference t) rs) first ∙ ap (λ l. seen_reference s r ∷ l) (rows-kept s t rs kept (All-tail P r rs live))

pub references-kept : (s t : StoreState) (m : ReferenceMap) → KeepsValues s t → RefersToLive s m → references_seen t m ≡ references_seen s m
references-kept s t m kept live = ap (λ l. record m { rows = l }) (rows-kept s t m.rows kept live)

-- an environment, with all that names values as it is seen in this store
abbrev pub seen_by : Environment → StoreState → HandleScopes → ReferenceMap → List TsfnRoot → Attachments → Option ℕ → Promises → Environment
seen_by e s scopes m rs a p ps = record e {
  heap = heap_of s scopes;
  references = references_seen s m;
  attachments = attachments_seen s a;
  promises = promises_seen s ps;
  tsfn_roots = tsfn_roots_seen s rs;
  pending = pending_seen s p;
}

-- an environment is the same where the store keeps its values, but for the heap and the promises
pub same-parts : (e : Environment) (s t : StoreState) (m : ReferenceMap) (rs : List TsfnRoot) (a : Attachments) (p : Option ℕ)
    → KeepsValues s t → RefersToLive s m → RootsAreLive s rs → AreAttachedToLive s a → IfSome p (IsLive s)
    → record e { references = references_seen t m; attachments = attachments_seen t a; tsfn_roots = tsfn_roots_seen t rs; pending = pending_seen t p }
    ≡ record e { references = references_seen s m; attachments = attachments_seen s a; tsfn_roots = tsfn_roots_seen s rs; pending = pending_seen s p }
same-parts e s t m rs a p kept live rooted attached alive =
    let seen : ReferenceMap → Attachments → List TsfnRoot → Option ℕ → Environment =
    λ l x f q. record e { references = l; attachments = x; tsfn_roots = f; pending = q } in
    ap (λ l. seen l (attachments_seen t a) (tsfn_roots_seen t rs) (pending_seen t p)) (references-kept s t m kept live)
    ∙ ap (λ x. seen (references_seen s m) x (tsfn_roots_seen t rs) (pending_seen t p)) (attachments-kept s t kept a attached)
    ∙ ap (λ f. seen (references_seen s m) (attachments_seen s a) f (pending_seen t p)) (roots-kept s t rs kept rooted)
    ∙ ap (λ q. seen (references_seen s m) (attachments_seen s a) (tsfn_roots_seen s rs) q) (pending-kept s t p kept alive)

-- where the heap is seen as it was, so is all that names its values
pub same-seen : (e : Environment) (s t : StoreState) (old new : HandleScopes) (m : ReferenceMap) (rs : List TsfnRoot) (a : Attachments) (p : Option ℕ)
    (ps : Promises) → KeepsValues s t → RefersToLive s m
    → RootsAreLive s rs → AreAttachedToLive s a → IfSome p (IsLive s) → PromisesAreLive s ps → heap_of t new ≡ heap_of s old
    → seen_by e t new m rs a p ps ≡ seen_by e s old m rs a p ps
same-seen e s t old new m rs a p ps kept live rooted attached alive promised same =
    let seen : Heap → ReferenceMap → Attachments → List TsfnRoot → Option ℕ → Promises → Environment =
    λ h l x f q k. record e { heap = h; references = l; attachments = x; promises = k; tsfn_roots = f; pending = q } in
    let ks : Promises = promises_seen t ps in
    ap (λ h. seen h (references_seen t m) (attachments_seen t a) (tsfn_roots_seen t rs) (pending_seen t p) ks) same
    ∙ ap (λ l. seen (heap_of s old) l (attachments_seen t a) (tsfn_roots_seen t rs) (pending_seen t p) ks) (references-kept s t m kept live)
    ∙ ap (λ x. seen (heap_of s old) (references_seen s m) x (tsfn_roots_seen t rs) (pending_seen t p) ks) (attachments-kept s t kept a attached)
    ∙ ap (λ f. seen (heap_of s old) (references_seen s m) (attachments_seen s a) f (pending_seen t p) ks) (roots-kept s t rs kept rooted)
    ∙ ap (λ q. seen (heap_of s old) (references_seen s m) (attachments_seen s a) (tsfn_roots_seen s rs) q ks) (pending-kept s t p kept alive)
    ∙ ap (λ k. seen (heap_of s old) (references_seen s m) (attachments_seen s a) (tsfn_roots_seen s rs) (pending_seen s p) k) (promises-kept s t kept ps promised)

-- a call that finds no memory leaves what the machine sees
pub stopped-same : {A E : Type 0} (e : Environment) (s t : StoreState) (old new : HandleScopes) (m : ReferenceMap) (rs : List TsfnRoot) (a : Attachments) (p : Option ℕ)
    (ps : Promises) (r : Result A E)
    → KeepsValues s t → RefersToLive s m → RootsAreLive s rs → AreAttachedToLive s a → IfSome p (IsLive s) → PromisesAreLive s ps
    → OnErr r (heap_of t new ≡ heap_of s old) → OnErr r (seen_by e t new m rs a p ps ≡ seen_by e s old m rs a p ps)
stopped-same e s t old new m rs a p ps (Ok x) kept live rooted attached alive promised same = tt
stopped-same e s t old new m rs a p ps (Err x) kept live rooted attached alive promised same =
    same-seen e s t old new m rs a p ps kept live rooted attached alive promised same
