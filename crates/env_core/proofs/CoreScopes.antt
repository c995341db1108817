-- What the calls on scopes answer, and what stays of a state's parts.
use Rattle.std.proofs.Common.{◌≡◌, ℕ, ◌+◌, Bool, true, false, IsTrue, List, [], refl, ap, sym, ◌∙◌, Option, Some, None, is_some, IfSome, option_map, Result, Ok, Err, OnOk, OnErr}
use Rattle.std.specs.Option.{unwrap_or, option_or}
use Rattle.std.proofs.lemmas.List.Elements.{All-nil}
use Rattle.napi_types.specs.declared.call.Call.{Call}
use Rattle.napi_types.specs.declared.call.Call.TheVariants as call
use Rattle.napi_types.specs.declared.entry.Out.TheVariants as out
use Rattle.napi_types.specs.declared.ids.HandleId.{HandleId}
use Rattle.napi_types.specs.declared.ids.ScopeId.{ScopeId}
use Rattle.napi_types.specs.declared.ids.ScopeKind.{ScopeKind}
use Rattle.napi_types.specs.declared.ids.ScopeKind.TheVariants as scope_kind
use Rattle.napi_types.specs.declared.status.Status.{Status}
use Rattle.napi_types.specs.declared.status.Status.TheVariants as status
use Rattle.napi_types.specs.plain.Lists.{unless}
use Rattle.napi_types.specs.plain.Replies.{Answer, accepts, plain}
use Rattle.napi_types.specs.parts.Frames.{Frame}
use Rattle.napi_types.specs.parts.Graph.{StoreState, IsLive, number_in}
use Rattle.napi_types.specs.parts.Heap.{Heap, handle_value}
use Rattle.napi_types.specs.parts.HeapChanges.{in_scopes}
use Rattle.napi_types.specs.parts.HeapRefusals.{refusal_in}
use Rattle.napi_types.specs.parts.References.{Reference, ReferenceMap, no_references}
use Rattle.napi_types.specs.parts.ScopeCalls.{with_escaped}
use Rattle.napi_types.specs.parts.ScopeChanges.{open_in, close_in, escape_in}
use Rattle.napi_types.specs.parts.ScopeRefusals.{closing, escaping}
use Rattle.napi_types.specs.parts.Scopes.{OpenHandle, FrameScopes, gives, opened_scopes}
use Rattle.napi_types.specs.parts.Values.{undefined_value}
use Rattle.napi_types.specs.environment.Calls.{effect, answer_unless}
use Rattle.napi_types.specs.environment.Environment.{Environment, with_heap, in_heap, TsfnRoot}
use Rattle.napi_types.specs.environment.Refusals.{group_refusal, refusal_by_state}
use Rattle.napi_types.proofs.plain.Lists.{length-changed}
use Rattle.handle_scope.specs.HandleScopes.{HandleScopes, no_scopes, is_fresh_scope, with_open_scope, without_innermost_scope, with_escaped_handle}
use Rattle.env_values.specs.SeenValues.{heap_of}
use Rattle.env_values.proofs.Held.{escaped-holds}
use Rattle.env_values.proofs.HandleValues.{unknown-handle, given-live}
use Rattle.env_values.proofs.SeenValues.{gives-seen, escaped-seen}
use Rattle.env_core.specs.State.{IsState, AnswersInTime, opening_call, closing_call}
use Rattle.env_core.proofs.SeenScopes.{seen-opened, seen-closed, closing-seen, escaping-seen, all-opened, all-closed}

-- a state in which nothing has come yet
pub state-new : (store : StoreState) → IsState store no_scopes [] None no_references []
state-new store = record {
  live = All-nil (λ (p : OpenHandle). IsLive store p.value);
  frames = refl;
  calls = refl;
  pending = tt;
  referred = All-nil (λ (r : Reference). IfSome r.value (IsLive store));
  rooted = All-nil (λ (r : TsfnRoot). IsLive store r.value);
}

-- the environment with these values and scopes
abbrev pub with_parts : Environment → StoreState → HandleScopes → Environment
with_parts e store scopes = with_heap e (heap_of store scopes)

-- the environment with other scopes
abbrev pub with_seen : Environment → StoreState → HandleScopes → List FrameScopes → Environment
with_seen e store scopes fs = with_heap e (record (heap_of store scopes) { scopes = fs })

-- a scope opens inside the innermost one
pub accepted-open : (e : Environment) (store : StoreState) (old new : HandleScopes) (kind : ScopeKind) (scope : ScopeId)
    → IsTrue (is_fresh_scope scope.0 old) → new ≡ with_open_scope kind scope.0 old
    → AnswersInTime (with_parts e store old) (opening_call kind) (plain status.Ok (out.Scope scope)) (with_parts e store new)
accepted-open e store old new scope_kind.Plain scope fresh opened = record {
  fresh = fresh;
  reply = refl;
  after =
      ap (λ k. with_parts e store k) opened
      ∙ ap (with_seen e store (with_open_scope scope_kind.Plain scope.0 old)) (seen-opened store scope_kind.Plain scope.0 old.frames);
}
accepted-open e store old new scope_kind.Escapable scope fresh opened = record {
  fresh = fresh;
  reply = refl;
  after =
      ap (λ k. with_parts e store k) opened
      ∙ ap (with_seen e store (with_open_scope scope_kind.Escapable scope.0 old)) (seen-opened store scope_kind.Escapable scope.0 old.frames);
}

-- what a call on scopes answers whose first refusal is known
pub by-refusal : (e : Environment) (store : StoreState) (old new : HandleScopes) (c : Call) (s : Status)
    → refusal_in e.texts (heap_of store old) c ≡ Some s → new ≡ old → AnswersInTime (with_parts e store old) c (plain s out.Nothing) (with_parts e store new)
by-refusal e store old new c s why same =
    let first : Some s ≡ refusal_by_state (with_parts e store old) c = sym (ap (λ o. option_or o (group_refusal (with_parts e store old) c)) why) in
    record {
      fresh = refl;
      reply = ap (λ (o : Option Status). (answer_unless (with_parts e store old) c 0 o).reply) first;
      after = ap (λ k. with_parts e store k) same ∙ ap (λ (o : Option Status). (answer_unless (with_parts e store old) c 0 o).after) first;
    }

-- a close that is refused answers why, and leaves all as it was
pub refused-close : (e : Environment) (store : StoreState) (old new : HandleScopes) (kind : ScopeKind) (scope : ScopeId) (s : Status)
    → Some s ≡ closing scope.0 kind (opened_scopes old.frames) → new ≡ old
    → AnswersInTime (with_parts e store old) (closing_call kind scope) (plain s out.Nothing) (with_parts e store new)
refused-close e store old new scope_kind.Plain scope s h same =
    by-refusal e store old new (call.CloseHandleScope scope) s (closing-seen store scope.0 scope_kind.Plain old.frames ∙ sym h) same
refused-close e store old new scope_kind.Escapable scope s h same =
    by-refusal e store old new (call.CloseEscapableHandleScope scope) s (closing-seen store scope.0 scope_kind.Escapable old.frames ∙ sym h) same

-- what a close answers that nothing refuses
by-close : (e : Environment) (store : StoreState) (old new : HandleScopes) (c : Call)
    → refusal_in e.texts (heap_of store old) c ≡ None → group_refusal (with_parts e store old) c ≡ None → effect (with_parts e store old) c 0 ≡ in_heap (with_parts e store old) (accepts out.Nothing (in_scopes close_in (heap_of store old))) → new ≡ without_innermost_scope old
    → AnswersInTime (with_parts e store old) c (plain status.Ok out.Nothing) (with_parts e store new)
by-close e store old new c why later is closed =
    let env : Environment = with_parts e store old in
    let first : refusal_by_state env c ≡ None = ap (λ o. option_or o (group_refusal env c)) why ∙ later in
    let answer : answer_unless env c 0 (refusal_by_state env c) ≡ in_heap env (accepts out.Nothing (in_scopes close_in (heap_of store old))) =
    ap (answer_unless env c 0) first ∙ is in
    record {
      fresh = refl;
      reply = ap (λ (a : Answer Environment). a.reply) (sym answer);
      after =
          ap (λ k. with_parts e store k) closed
          ∙ ap (with_seen e store old) (seen-closed store old.frames)
          ∙ ap (λ (a : Answer Environment). a.after) (sym answer);
    }

-- one that is accepted closes the innermost scope
pub accepted-close : (e : Environment) (store : StoreState) (old new : HandleScopes) (kind : ScopeKind) (scope : ScopeId)
    → None ≡ closing scope.0 kind (opened_scopes old.frames) → new ≡ without_innermost_scope old
    → AnswersInTime (with_parts e store old) (closing_call kind scope) (plain status.Ok out.Nothing) (with_parts e store new)
accepted-close e store old new scope_kind.Plain scope h closed =
    by-close e store old new (call.CloseHandleScope scope) (closing-seen store scope.0 scope_kind.Plain old.frames ∙ sym h) refl refl closed
accepted-close e store old new scope_kind.Escapable scope h closed =
    by-close e store old new (call.CloseEscapableHandleScope scope) (closing-seen store scope.0 scope_kind.Escapable old.frames ∙ sym h) refl refl closed

-- the refusals of an escape: an unknown handle, and then those of its row
escape-refusal : (texts : ℕ) (heap : Heap) (scope : ScopeId) (h : HandleId) (b : Bool) → is_some (gives heap.scopes h.0) ≡ b
    → refusal_in texts heap (call.EscapeHandle scope h) ≡ option_or (unless b status.InvalidArg) (escaping scope.0 (opened_scopes heap.scopes))
escape-refusal texts heap scope h true known = rw known refl
escape-refusal texts heap scope h false known = rw known refl

-- a handle that no open scope holds does not escape
pub unknown-escape : (e : Environment) (store : StoreState) (scopes : HandleScopes) (scope : ScopeId) (h : HandleId)
    → None ≡ gives scopes.frames h.0 → AnswersInTime (with_parts e store scopes) (call.EscapeHandle scope h) (plain status.InvalidArg out.Nothing) (with_parts e store scopes)
unknown-escape e store scopes scope h none =
    by-refusal e store scopes scopes (call.EscapeHandle scope h) status.InvalidArg
    (escape-refusal e.texts (heap_of store scopes) scope h false (unknown-handle store scopes.frames h.0 none)) refl

-- a known one is given by its value's creation number
pub known-handle : (store : StoreState) (scopes : HandleScopes) (h v : ℕ) → Some v ≡ gives scopes.frames h → gives (heap_of store scopes).scopes h ≡ Some (number_in store v)
known-handle store scopes h v given = gives-seen store scopes.frames h ∙ ap (option_map (number_in store)) (sym given)

-- an escape that is refused answers why, and leaves all as it was
pub refused-escape : (e : Environment) (store : StoreState) (old new : HandleScopes) (scope : ScopeId) (h : HandleId) (v : ℕ) (s : Status)
    → Some v ≡ gives old.frames h.0 → Some s ≡ escaping scope.0 (opened_scopes old.frames) → new ≡ old
    → AnswersInTime (with_parts e store old) (call.EscapeHandle scope h) (plain s out.Nothing) (with_parts e store new)
refused-escape e store old new scope h v s given why same =
    by-refusal e store old new (call.EscapeHandle scope h) s
    (escape-refusal e.texts (heap_of store old) scope h true (ap is_some (known-handle store old h.0 v given)) ∙ escaping-seen store scope.0 old.frames ∙ sym why) same

-- one that is accepted gives the next handle to the scope outside
pub accepted-escape : (e : Environment) (store : StoreState) (old new : HandleScopes) (scope : ScopeId) (h made : HandleId) (v : ℕ)
    → Some v ≡ gives old.frames h.0 → None ≡ escaping scope.0 (opened_scopes old.frames) → made.0 ≡ old.handles + 1 → new ≡ with_escaped_handle scope.0 v old
    → AnswersInTime (with_parts e store old) (call.EscapeHandle scope h) (plain status.Ok (out.Handle made)) (with_parts e store new)
accepted-escape e store old new scope h made v given why next escaped =
    let heap : Heap = heap_of store old in
    let known : gives heap.scopes h.0 ≡ Some (number_in store v) = known-handle store old h.0 v given in
    let none : refusal_in e.texts heap (call.EscapeHandle scope h) ≡ None =
    escape-refusal e.texts heap scope h true (ap is_some known) ∙ escaping-seen store scope.0 old.frames ∙ sym why in
    let value : handle_value heap h.0 ≡ number_in store v = ap (λ o. unwrap_or o undefined_value) known in
    let env : Environment = with_parts e store old in
    let given_handle : ℕ → Answer Environment = λ n. in_heap env (accepts (out.Handle (record { 0 = old.handles + 1 })) (with_escaped scope.0 n heap)) in
    let answer : answer_unless env (call.EscapeHandle scope h) 0 (refusal_by_state env (call.EscapeHandle scope h)) ≡ given_handle (number_in store v) =
    ap (λ o. answer_unless env (call.EscapeHandle scope h) 0 (option_or o None)) none ∙ ap given_handle value in
    record {
      fresh = refl;
      reply = ap (λ n. plain status.Ok (out.Handle (record { 0 = n }))) next ∙ ap (λ (a : Answer Environment). a.reply) (sym answer);
      after =
          ap (λ k. with_parts e store k) escaped
          ∙ ap (with_seen e store (with_escaped_handle scope.0 v old)) (escaped-seen store scope.0 (record { handle = old.handles + 1; value = v }) old.frames)
          ∙ ap (λ (a : Answer Environment). a.after) (sym answer);
    }

-- a scope that opens leaves each frame its scopes, and what they hold live
pub state-opened : {m : ReferenceMap} {rs : List TsfnRoot} (store : StoreState) (old new : HandleScopes) (frame : List Frame) (pending : Option ℕ) (kind : ScopeKind) (n : ℕ) → IsState store old frame pending m rs → new ≡ with_open_scope kind n old → IsState store new frame pending m rs
state-opened store old new frame pending kind n s opened = rw opened (record {
  live = all-opened (λ p. IsLive store p.value) kind n old.frames s.live;
  frames = length-changed (open_in kind n) old.frames ∙ s.frames;
  calls = s.calls;
  pending = s.pending;
  referred = s.referred;
  rooted = s.rooted;
})

-- so does a handle that escapes
pub state-escaped : {m : ReferenceMap} {rs : List TsfnRoot} (store : StoreState) (old new : HandleScopes) (frame : List Frame) (pending : Option ℕ) (n h v : ℕ) → IsState store old frame pending m rs → Some v ≡ gives old.frames h → new ≡ with_escaped_handle n v old → IsState store new frame pending m rs
state-escaped store old new frame pending n h v s given escaped =
    let p : OpenHandle = record { handle = old.handles + 1; value = v } in
    rw escaped (record {
      live = escaped-holds (λ m. IsLive store m) n p old.frames (given-live store old h v s.live given) s.live;
      frames = length-changed (escape_in n p) old.frames ∙ s.frames;
      calls = s.calls;
      pending = s.pending;
      referred = s.referred;
      rooted = s.rooted;
    })

-- also where it may be refused
pub state-escaped-or-not : {A E : Type 0} {m : ReferenceMap} {rs : List TsfnRoot} (store : StoreState) (old new : HandleScopes) (frame : List Frame) (pending : Option ℕ) (n h v : ℕ) (r : Result A E)
    → IsState store old frame pending m rs → Some v ≡ gives old.frames h → OnOk r (new ≡ with_escaped_handle n v old) → OnErr r (new ≡ old) → IsState store new frame pending m rs
state-escaped-or-not store old new frame pending n h v (Ok x) s given ok err = state-escaped store old new frame pending n h v s given ok
state-escaped-or-not store old new frame pending n h v (Err x) s given ok err = rw err s

-- a close leaves each frame its scopes, and what they hold live
pub state-closed : {m : ReferenceMap} {rs : List TsfnRoot} (store : StoreState) (old new : HandleScopes) (frame : List Frame) (pending : Option ℕ)
    → IsState store old frame pending m rs → new ≡ without_innermost_scope old → IsState store new frame pending m rs
state-closed store old new frame pending s closed = rw closed (record {
  live = all-closed (λ p. IsLive store p.value) old.frames s.live;
  frames = length-changed close_in old.frames ∙ s.frames;
  calls = s.calls;
  pending = s.pending;
  referred = s.referred;
  rooted = s.rooted;
})
