-- What the calls on exceptions answer, and what a call at a wrong moment does.
use Rattle.std.proofs.Common.{◌≡◌, ℕ, ◌+◌, List, Bool, true, false, length, refl, ap, sym, ◌∙◌, subst, Option, Some, None, is_some, option_map, IfSome, Result, Ok, Err, IfOk}
use Rattle.std.specs.Option.{unwrap_or, option_or}
use Rattle.napi_types.specs.declared.call.Call.{Call}
use Rattle.napi_types.specs.declared.call.Call.TheVariants as call
use Rattle.napi_types.specs.declared.entry.Out.{Out}
use Rattle.napi_types.specs.declared.entry.Out.TheVariants as out
use Rattle.napi_types.specs.declared.entry.Reply.{Reply}
use Rattle.napi_types.specs.declared.ids.HandleId.{HandleId}
use Rattle.napi_types.specs.declared.ids.TextNo.{TextNo}
use Rattle.napi_types.specs.declared.ids.ValueId.{ValueId}
use Rattle.napi_types.specs.declared.status.Status.{Status}
use Rattle.napi_types.specs.declared.status.Status.TheVariants as status
use Rattle.napi_types.specs.plain.CallKinds.{is_calling}
use Rattle.napi_types.specs.plain.Lists.{unless}
use Rattle.napi_types.specs.plain.Replies.{Answer, accepts, plain}
use Rattle.napi_types.specs.parts.Frames.{Frame}
use Rattle.napi_types.specs.parts.Graph.{StoreState, IsLive, number_in}
use Rattle.napi_types.specs.parts.Heap.{Heap, handle_value}
use Rattle.napi_types.specs.parts.HeapChanges.{with_handle, with_thrown, thrown_number}
use Rattle.napi_types.specs.parts.HeapRefusals.{refusal_in}
use Rattle.napi_types.specs.parts.NamedNumbers.{is_known}
use Rattle.napi_types.specs.parts.References.{ReferenceMap}
use Rattle.napi_types.specs.parts.ScopeChanges.{hold_in}
use Rattle.napi_types.specs.parts.Scopes.{gives}
use Rattle.napi_types.specs.parts.Values.{undefined_value}
use Rattle.napi_types.specs.environment.Calls.{answer_unless, answer_unless_deep, answer}
use Rattle.napi_types.specs.environment.Changes.{issued_number}
use Rattle.napi_types.specs.environment.Environment.{Environment, with_heap, TsfnRoot}
use Rattle.napi_types.specs.environment.ExceptionCalls.{with_pending, with_thrown_error}
use Rattle.napi_types.specs.environment.Moments.{refusal_by_moment}
use Rattle.napi_types.specs.environment.Refusals.{refusal_by_state, refusal_before_depth, depth_refusal}
use Rattle.napi_types.proofs.plain.Lists.{length-changed}
use Rattle.handle_scope.specs.HandleScopes.{HandleScopes, with_issued_handle}
use Rattle.env_values.specs.SeenValues.{heap_of}
use Rattle.env_values.proofs.Giving.{issued-live}
use Rattle.env_values.proofs.HandleValues.{unknown-handle}
use Rattle.env_core.specs.State.{pending_seen, IsState, Answers, AnswersInTime}
use Rattle.env_core.proofs.CoreScopes.{with_parts, by-refusal, known-handle}

-- THE MOMENT
-- only the call of a function is refused for the depth
no-depth : (fs : List Frame) (c : Call) → is_calling c ≡ false → depth_refusal fs c ≡ None
no-depth fs (call.CallFunction receiver f args) h = cc
no-depth fs _ h = refl

-- every other call answers what the refusals before the depth limit give
given-answer : (e : Environment) (c : Call) (n : ℕ) → is_calling c ≡ false → answer_unless e c n (refusal_before_depth e c) ≡ answer e c n
given-answer e c n h = ap (answer_unless_deep e c n (refusal_before_depth e c)) (sym (no-depth e.frames c h))

-- a call at a right moment answers what the other refusals give
answers-in-time : (e new : Environment) (c : Call) (r : Reply) → is_calling c ≡ false → None ≡ refusal_by_moment e c → AnswersInTime e c r new
    → Answers e c r new
answers-in-time e new c r other h a =
    let same : answer_unless e c (issued_number r.out) (refusal_by_state e c) ≡ answer e c (issued_number r.out) =
    ap (λ o. answer_unless e c (issued_number r.out) (option_or o (refusal_by_state e c))) h ∙ given-answer e c (issued_number r.out) other in
    record {
      fresh = a.fresh;
      reply = a.reply ∙ ap (λ (x : Answer Environment). x.reply) same;
      after = a.after ∙ ap (λ (x : Answer Environment). x.after) same;
    }

pub in-time : {E : Type 0} (e new : Environment) (c : Call) (r : Result Reply E) → is_calling c ≡ false → None ≡ refusal_by_moment e c
    → IfOk r (λ reply. AnswersInTime e c reply new) → IfOk r (λ reply. Answers e c reply new)
in-time e new c (Ok r) other h a = answers-in-time e new c r other h a
in-time e new c (Err x) other h a = tt

-- the same where status and result of the reply are answered alone
pub plain-in-time : {E : Type 0} (e new : Environment) (c : Call) (r : Result (Status × Out) E) → is_calling c ≡ false → None ≡ refusal_by_moment e c
    → IfOk r (λ told. AnswersInTime e c (plain told.0 told.1) new) → IfOk r (λ told. Answers e c (plain told.0 told.1) new)
plain-in-time e new c (Ok told) other h a = answers-in-time e new c (plain told.0 told.1) other h a
plain-in-time e new c (Err x) other h a = tt

-- one at a wrong moment is refused, and changes nothing
pub out-of-time : (e : Environment) (c : Call) (s : Status) → is_calling c ≡ false → Some s ≡ refusal_by_moment e c → Answers e c (plain s out.Nothing) e
out-of-time e c s other h =
    let why : Some s ≡ refusal_before_depth e c = ap (λ o. option_or o (refusal_by_state e c)) h in
    let same : answer_unless e c 0 (Some s) ≡ answer e c 0 = ap (answer_unless e c 0) why ∙ given-answer e c 0 other in
    record {
      fresh = refl;
      reply = ap (λ (x : Answer Environment). x.reply) same;
      after = ap (λ (x : Answer Environment). x.after) same;
    }

-- an exception is pending for the machine where one is
pub pending-told : (store : StoreState) (p : Option ValueId) (q : Option ℕ) → option_map (λ (v : ValueId). v.0) p ≡ q → is_some p ≡ is_some (pending_seen store q)
pending-told store None q e = ap (λ o. is_some (pending_seen store o)) e
pending-told store (Some v) q e = ap (λ o. is_some (pending_seen store o)) e

-- THROW
throw-refusal : (texts : ℕ) (heap : Heap) (h : HandleId) (b : Bool) → is_some (gives heap.scopes h.0) ≡ b → refusal_in texts heap (call.Throw h) ≡ unless b status.InvalidArg
throw-refusal texts heap h true known = rw known refl
throw-refusal texts heap h false known = rw known refl

pub unknown-throw : (e : Environment) (store : StoreState) (scopes : HandleScopes) (h : HandleId)
    → None ≡ gives scopes.frames h.0 → AnswersInTime (with_parts e store scopes) (call.Throw h) (plain status.InvalidArg out.Nothing) (with_parts e store scopes)
unknown-throw e store scopes h none =
    by-refusal e store scopes scopes (call.Throw h) status.InvalidArg (throw-refusal e.texts (heap_of store scopes) h false (unknown-handle store scopes.frames h.0 none)) refl

pub accepted-throw : (e : Environment) (store : StoreState) (scopes : HandleScopes) (h : HandleId) (v : ℕ) → Some v ≡ gives scopes.frames h.0
    → AnswersInTime (with_parts e store scopes) (call.Throw h) (plain status.Ok out.Nothing) (with_pending (Some (number_in store v)) (with_parts e store scopes))
accepted-throw e store scopes h v given =
    let env : Environment = with_parts e store scopes in
    let known : gives (heap_of store scopes).scopes h.0 ≡ Some (number_in store v) = known-handle store scopes h.0 v given in
    let none : refusal_in e.texts (heap_of store scopes) (call.Throw h) ≡ None = throw-refusal e.texts (heap_of store scopes) h true (ap is_some known) in
    let value : handle_value (heap_of store scopes) h.0 ≡ number_in store v = ap (λ o. unwrap_or o undefined_value) known in
    let answer : answer_unless env (call.Throw h) 0 (refusal_by_state env (call.Throw h)) ≡ accepts out.Nothing (with_pending (Some (number_in store v)) env) =
    ap (λ o. answer_unless env (call.Throw h) 0 (option_or o None)) none ∙ ap (λ n. accepts out.Nothing (with_pending (Some n) env)) value in
    record { fresh = refl; reply = ap (λ (a : Answer Environment). a.reply) (sym answer); after = ap (λ (a : Answer Environment). a.after) (sym answer) }

-- THROW_ERROR
pub thrown-refusal : (texts : ℕ) (heap : Heap) (code : Option TextNo) (message : TextNo) (b : Bool) → is_known texts heap (call.ThrowError code message) ≡ b
    → refusal_in texts heap (call.ThrowError code message) ≡ unless b status.InvalidArg
thrown-refusal texts heap code message true known = rw known refl
thrown-refusal texts heap code message false known = rw known refl

pub unknown-thrown : (e : Environment) (store : StoreState) (scopes : HandleScopes) (code : Option TextNo) (message : TextNo)
    → is_known e.texts (heap_of store scopes) (call.ThrowError code message) ≡ false
    → AnswersInTime (with_parts e store scopes) (call.ThrowError code message) (plain status.InvalidArg out.Nothing) (with_parts e store scopes)
unknown-thrown e store scopes code message known =
    by-refusal e store scopes scopes (call.ThrowError code message) status.InvalidArg (thrown-refusal e.texts (heap_of store scopes) code message false known) refl

pub accepted-thrown : (e : Environment) (s t : StoreState) (scopes : HandleScopes) (code : Option TextNo) (message : TextNo) (id : ℕ)
    → is_known e.texts (heap_of s scopes) (call.ThrowError code message) ≡ true
    → heap_of t scopes ≡ with_thrown code message (heap_of s scopes) → number_in t id ≡ thrown_number code message (heap_of s scopes)
    → AnswersInTime (with_parts e s scopes) (call.ThrowError code message) (plain status.Ok out.Nothing) (with_pending (Some (number_in t id)) (with_parts e t scopes))
accepted-thrown e s t scopes code message id known heap number =
    let env : Environment = with_parts e s scopes in
    let none : refusal_in e.texts (heap_of s scopes) (call.ThrowError code message) ≡ None = thrown-refusal e.texts (heap_of s scopes) code message true known in
    let answer : answer_unless env (call.ThrowError code message) 0 (refusal_by_state env (call.ThrowError code message))
    ≡ accepts out.Nothing (with_pending (Some (thrown_number code message (heap_of s scopes))) (with_heap env (with_thrown code message (heap_of s scopes)))) =
    ap (λ o. answer_unless env (call.ThrowError code message) 0 (option_or o None)) none in
    record {
      fresh = refl;
      reply = ap (λ (a : Answer Environment). a.reply) (sym answer);
      after =
          ap (λ n. with_pending (Some n) (with_parts e t scopes)) number
          ∙ ap (λ h. with_pending (Some (thrown_number code message (heap_of s scopes))) (with_heap env h)) heap
          ∙ ap (λ (a : Answer Environment). a.after) (sym answer);
    }

-- at the depth limit an error is thrown too
pub limit-thrown : (e : Environment) (s t : StoreState) (scopes : HandleScopes) (code : Option TextNo) (message : TextNo) (id : ℕ)
    → heap_of t scopes ≡ with_thrown code message (heap_of s scopes) → number_in t id ≡ thrown_number code message (heap_of s scopes)
    → with_pending (Some (number_in t id)) (with_parts e t scopes) ≡ with_thrown_error code message (with_parts e s scopes)
limit-thrown e s t scopes code message id heap number =
    ap (λ n. with_pending (Some n) (with_parts e t scopes)) number
    ∙ ap (λ h. with_pending (Some (thrown_number code message (heap_of s scopes))) (with_heap e h)) heap

-- GET_AND_CLEAR_LAST_EXCEPTION
-- what is pending, or undefined
pub pending-value : (store : StoreState) (p : Option ValueId) (q : Option ℕ) → option_map (λ (v : ValueId). v.0) p ≡ q
    → unwrap_or (option_map (λ (v : ValueId). number_in store v.0) p) undefined_value ≡ unwrap_or (pending_seen store q) undefined_value
pending-value store None q e = ap (λ o. unwrap_or (pending_seen store o) undefined_value) e
pending-value store (Some v) q e = ap (λ o. unwrap_or (pending_seen store o) undefined_value) e

pub pending-alive : (store : StoreState) (p : Option ValueId) (q : Option ℕ) → option_map (λ (v : ValueId). v.0) p ≡ q → IfSome q (IsLive store) → IfSome p (λ v. IsLive store v.0)
pending-alive store None q e live = tt
pending-alive store (Some v) q e live = subst (λ (o : Option ℕ). IfSome o (IsLive store)) (sym e) live

pub taken-pending : (e : Environment) (store : StoreState) (old new : HandleScopes) (n : ℕ) (h : HandleId)
    → n ≡ unwrap_or e.pending undefined_value → h.0 ≡ old.handles + 1 → heap_of store new ≡ with_handle n (heap_of store old)
    → AnswersInTime (with_parts e store old) call.GetAndClearLastException (plain status.Ok (out.Handle h)) (with_pending None (with_parts e store new))
taken-pending e store old new n h value next heap = record {
  fresh = refl;
  reply = ap (λ k. plain status.Ok (out.Handle (record { 0 = k }))) next;
  after =
      ap (λ k. with_pending None (with_heap e k)) heap
      ∙ ap (λ k. with_pending None (with_heap e (with_handle k (heap_of store old)))) value;
}

-- the scopes hold one handle more
pub state-issued : {m : ReferenceMap} {rs : List TsfnRoot} (store : StoreState) (old new : HandleScopes) (frame : List Frame) (thrown : Option ℕ) (v : ℕ)
    → IsState store old frame thrown m rs → IsLive store v → new ≡ with_issued_handle v old → IsState store new frame thrown m rs
state-issued store old new frame thrown v s live is = record {
  live = issued-live store old new v is live s.live;
  frames = ap (λ (x : HandleScopes). length x.frames) is ∙ length-changed (hold_in (record { handle = old.handles + 1; value = v })) old.frames ∙ s.frames;
  calls = ap (λ (x : HandleScopes). x.by_call) is ∙ s.calls;
  pending = s.pending;
  referred = s.referred;
  rooted = s.rooted;
}

-- and no exception is pending
pub state-taken : {m : ReferenceMap} {rs : List TsfnRoot} (store : StoreState) (old new : HandleScopes) (frame : List Frame) (thrown : Option ℕ) (v : ℕ)
    → IsState store old frame thrown m rs → IsLive store v → new ≡ with_issued_handle v old → IsState store new frame None m rs
state-taken {m = m} {rs = rs} store old new frame thrown v s live is =
    let i : IsState store new frame thrown m rs = state-issued store old new frame thrown v s live is in
    record { live = i.live; frames = i.frames; calls = i.calls; pending = tt; referred = i.referred; rooted = i.rooted }
