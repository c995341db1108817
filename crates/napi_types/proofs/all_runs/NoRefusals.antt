-- No refusal is an acceptance.
use Rattle.std.proofs.Common.{◌≡◌, ℕ, ◌+◌, nat_lt, Bool, true, false, not, ◌&&◌, ◌||◌, cond, ◌==◌, List, [], ◌∷◌, refl, Option, Some, None, is_some, is_none, IfSome}
use Rattle.std.specs.Option.{option_or}
use Rattle.std.specs.List.{list_all}
use Rattle.napi_types.specs.declared.body.Body.{Body}
use Rattle.napi_types.specs.declared.call.Call.{Call}
use Rattle.napi_types.specs.declared.call.Call.TheVariants as call
use Rattle.napi_types.specs.declared.ids.HandleId.{HandleId}
use Rattle.napi_types.specs.declared.ids.ScopeKind.{ScopeKind}
use Rattle.napi_types.specs.declared.status.Status.{Status}
use Rattle.napi_types.specs.declared.status.Status.TheVariants as status
use Rattle.napi_types.specs.declared.call.CallGroup.{CallGroup}
use Rattle.napi_types.specs.declared.call.CallGroup.TheVariants.{OnValues, OnProperties, OnFunctions, OnScopes, OnReferences, OnWraps, OnEntering, OnHooks, OnPromises, OnBuffers, OnTsfns}
use Rattle.napi_types.specs.plain.CallFacts.{group_of}
use Rattle.napi_types.specs.plain.Guards.{is_guarded, is_registering}
use Rattle.napi_types.specs.plain.Lists.{when, unless}
use Rattle.napi_types.specs.plain.Numbers.{is_ten_or_later}
use Rattle.napi_types.specs.parts.Attachments.{Attachments}
use Rattle.napi_types.specs.parts.Bodies.{is_function, is_referable, is_string}
use Rattle.napi_types.specs.parts.BufferRefusals.{buffer_kinds}
use Rattle.napi_types.specs.parts.Buffers.{Buffers, most_buffer_bytes, most_bytes_together, buffer_length, total_bytes, is_detached_buffer, element_read}
use Rattle.napi_types.specs.parts.Frames.{Frame}
use Rattle.napi_types.specs.parts.FunctionCalls.{function_refusal}
use Rattle.napi_types.specs.parts.Heap.{Heap, handle_value, handle_body}
use Rattle.napi_types.specs.parts.HeapGroups.{heap_group}
use Rattle.napi_types.specs.parts.HeapRefusals.{kind_refusal, row_refusal, refusal_in}
use Rattle.napi_types.specs.parts.Kinds.{expects, expects_if}
use Rattle.napi_types.specs.parts.NamedNumbers.{is_known, unknown_refusal}
use Rattle.napi_types.specs.parts.PropertyCalls.{property_kinds, property_refusal}
use Rattle.napi_types.specs.parts.ReferenceRefusals.{references_of, unknown_reference, count_refusal, reference_refusal}
use Rattle.napi_types.specs.parts.References.{ReferenceMap, has_reference}
use Rattle.napi_types.specs.parts.ScopeCalls.{scope_refusal}
use Rattle.napi_types.specs.parts.ScopeRefusals.{has_scope, is_kind, closing, refuses_escape, escapable_scope}
use Rattle.napi_types.specs.parts.Scopes.{Scope, opened_scopes}
use Rattle.napi_types.specs.parts.ValueCalls.{value_kinds, value_refusal}
use Rattle.napi_types.specs.parts.WrapRefusals.{wrap_kinds, wrap_refusal}
use Rattle.napi_types.specs.environment.BufferCalls.{view_asked, limit_refusal, no_buffer_refusal, buffer_refusal}
use Rattle.napi_types.specs.environment.Environment.{Environment}
use Rattle.napi_types.specs.environment.Groups.{call_group}
use Rattle.napi_types.specs.environment.HookCalls.{hook_refusal}
use Rattle.napi_types.specs.environment.Moments.{is_tearing, guard_status, guard_refusal, registering_refusal, refusal_by_moment}
use Rattle.napi_types.specs.environment.PromiseCalls.{promise_refusal}
use Rattle.napi_types.specs.environment.ReferenceCalls.{referring_refusal}
use Rattle.napi_types.specs.environment.Refusals.{group_refusal, refusal_by_state, refusal_before_depth, depth_refusal, refusal}
use Rattle.napi_types.specs.environment.WrapCalls.{attachment_refusal}
use Rattle.napi_types.specs.all_runs.OnceLaws.{NoRefusalAccepts}

abbrev is_acceptance : Status → Bool
is_acceptance status.Ok = true
is_acceptance _ = false

-- a status that is there refuses
abbrev Refuses : Option Status → Type 0
Refuses o = IfSome o (λ s. is_acceptance s ≡ false)

by-when : (b : Bool) (s : Status) → is_acceptance s ≡ false → Refuses (when b s)
by-when true s never = never
by-when false s never = tt

by-unless : (b : Bool) (s : Status) → is_acceptance s ≡ false → Refuses (unless b s)
by-unless true s never = tt
by-unless false s never = never

either : (o p : Option Status) → Refuses o → Refuses p → Refuses (option_or o p)
either None p first second = second
either (Some s) p first second = first

if-expected : (heap : Heap) (h : Option HandleId) (test : Body → Bool) (s : Status) → is_acceptance s ≡ false → Refuses (expects_if heap h test s)
if-expected heap None test s never = tt
if-expected heap (Some h) test s never = by-unless _ s never

by-value_kind : (heap : Heap) (c : Call) → Refuses (value_kinds heap c)
by-value_kind heap (call.CreateSymbol h) = if-expected heap h _ status.StringExpected refl
by-value_kind heap (call.CreateError code message) =
    either (expects_if heap code is_string status.StringExpected) (expects heap message is_string status.StringExpected) (if-expected heap code is_string status.StringExpected refl)
    (by-unless (is_string (handle_body heap message.0)) status.StringExpected refl)
by-value_kind heap (call.GetValueInt64 h) = by-unless _ status.NumberExpected refl
by-value_kind heap (call.GetValueBigintInt64 h) = by-unless _ status.BigintExpected refl
by-value_kind heap (call.GetValueBool h) = by-unless _ status.BooleanExpected refl
by-value_kind heap (call.GetValueStringUtf8 h) = by-unless _ status.StringExpected refl
by-value_kind heap (call.GetArrayLength h) = by-unless _ status.ArrayExpected refl
by-value_kind heap _ = tt

by-property_kind : (heap : Heap) (c : Call) → Refuses (property_kinds heap c)
by-property_kind heap (call.SetNamedProperty h _ _) = by-unless _ status.ObjectExpected refl
by-property_kind heap (call.GetNamedProperty h _) = by-unless _ status.ObjectExpected refl
by-property_kind heap (call.HasNamedProperty h _) = by-unless _ status.ObjectExpected refl
by-property_kind heap (call.DeleteProperty h _) = by-unless _ status.ObjectExpected refl
by-property_kind heap (call.GetPropertyNames h) = by-unless _ status.ObjectExpected refl
by-property_kind heap (call.SetElement h _ _) = by-unless _ status.ObjectExpected refl
by-property_kind heap (call.GetElement h _) = by-unless _ status.ObjectExpected refl
by-property_kind heap (call.HasElement h _) = by-unless _ status.ObjectExpected refl
by-property_kind heap _ = tt

by-wrap_kind : (heap : Heap) (c : Call) → Refuses (wrap_kinds heap c)
by-wrap_kind heap (call.Wrap h _ _ _ _) = by-unless _ status.ObjectExpected refl
by-wrap_kind heap (call.Unwrap h) = by-unless _ status.ObjectExpected refl
by-wrap_kind heap (call.RemoveWrap h) = by-unless _ status.ObjectExpected refl
by-wrap_kind heap (call.TypeTagObject h _ _) = by-unless _ status.ObjectExpected refl
by-wrap_kind heap (call.CheckObjectTypeTag h _ _) = by-unless _ status.ObjectExpected refl
by-wrap_kind heap (call.AddFinalizer h _ _ _ _) = by-unless _ status.ObjectExpected refl
by-wrap_kind heap _ = tt

by-buffer_kind : (heap : Heap) (c : Call) → Refuses (buffer_kinds heap c)
by-buffer_kind heap (call.DetachArraybuffer h) = by-unless _ status.ObjectExpected refl
by-buffer_kind heap _ = tt

by-kind : (g : CallGroup) (heap : Heap) (c : Call) → Refuses ((heap_group g).expects heap c)
by-kind OnValues heap c = by-value_kind heap c
by-kind OnProperties heap c = by-property_kind heap c
by-kind OnWraps heap c = by-wrap_kind heap c
by-kind OnBuffers heap c = by-buffer_kind heap c
by-kind _ heap c = tt

by-closing : (n : ℕ) (kind : ScopeKind) (ss : List Scope) → Refuses (closing n kind ss)
by-closing n kind [] = refl
by-closing n kind (s ∷ ss) =
    either (when (not (has_scope n (s ∷ ss))) status.InvalidArg) (when (not ((s.number == n) && is_kind s.kind kind)) status.HandleScopeMismatch)
    (by-when (not (has_scope n (s ∷ ss))) status.InvalidArg refl) (by-when (not ((s.number == n) && is_kind s.kind kind)) status.HandleScopeMismatch refl)

by-escaping : (o : Option Scope) → Refuses (refuses_escape o)
by-escaping None = refl
by-escaping (Some s) = by-when _ status.EscapeCalledTwice refl

by-value_row : (heap : Heap) (c : Call) → Refuses (value_refusal heap c)
by-value_row heap (call.CreateInt64 i) = by-unless _ status.InvalidArg refl
by-value_row heap (call.GetValueExternal h) = by-unless _ status.InvalidArg refl
by-value_row heap _ = tt

by-property_row : (heap : Heap) (c : Call) → Refuses (property_refusal heap c)
by-property_row heap (call.GetPropertyNames h) = by-when _ status.InvalidArg refl
by-property_row heap (call.SetElement _ at _) = by-when _ status.InvalidArg refl
by-property_row heap _ = tt

by-scope_row : (heap : Heap) (c : Call) → Refuses (scope_refusal heap c)
by-scope_row heap (call.CloseHandleScope s) = by-closing s.0 _ (opened_scopes heap.scopes)
by-scope_row heap (call.CloseEscapableHandleScope s) = by-closing s.0 _ (opened_scopes heap.scopes)
by-scope_row heap (call.EscapeHandle s _) = by-escaping (escapable_scope s.0 (opened_scopes heap.scopes))
by-scope_row heap _ = tt

by-wrap_row : (heap : Heap) (c : Call) → Refuses (wrap_refusal heap c)
by-wrap_row heap (call.Wrap _ _ None _ wanted) = by-when wanted status.InvalidArg refl
by-wrap_row heap _ = tt

by-function_row : (heap : Heap) (c : Call) → Refuses (function_refusal heap c)
by-function_row heap (call.CallFunction _ f _) = by-unless _ status.InvalidArg refl
by-function_row heap (call.CreateThreadsafeFunction f entry _ count _ _) =
    either (expects_if heap f is_function status.InvalidArg) (when ((is_none f && is_none entry) || (count == 0)) status.InvalidArg) (if-expected heap f is_function status.InvalidArg refl)
    (by-when ((is_none f && is_none entry) || (count == 0)) status.InvalidArg refl)
by-function_row heap _ = tt

by-row : (g : CallGroup) (heap : Heap) (c : Call) → Refuses ((heap_group g).refuses heap c)
by-row OnValues heap c = by-value_row heap c
by-row OnProperties heap c = by-property_row heap c
by-row OnFunctions heap c = by-function_row heap c
by-row OnScopes heap c = by-scope_row heap c
by-row OnWraps heap c = by-wrap_row heap c
by-row OnEntering heap c = by-function_row heap c
by-row OnTsfns heap c = by-function_row heap c
by-row _ heap c = tt

by-attachment : (a : Attachments) (heap : Heap) (c : Call) → Refuses (attachment_refusal a heap c)
by-attachment a heap (call.Wrap h _ _ _ _) = by-when _ status.InvalidArg refl
by-attachment a heap (call.Unwrap h) = by-unless _ status.InvalidArg refl
by-attachment a heap (call.RemoveWrap h) = by-unless _ status.InvalidArg refl
by-attachment a heap (call.TypeTagObject h _ _) = by-when _ status.InvalidArg refl
by-attachment a heap _ = tt

by-hook : (e : Environment) (c : Call) → Refuses (hook_refusal e c)
by-hook e (call.AddEnvCleanupHook entry argument) = by-when _ status.InvalidArg refl
by-hook e (call.RemoveEnvCleanupHook entry argument) = by-unless _ status.InvalidArg refl
by-hook e (call.RemoveAsyncCleanupHook hook) = by-unless _ status.InvalidArg refl
by-hook e _ = tt

by-promise : (e : Environment) (c : Call) → Refuses (promise_refusal e c)
by-promise e (call.ResolveDeferred d v) = by-unless _ status.InvalidArg refl
by-promise e (call.RejectDeferred d v) = by-unless _ status.InvalidArg refl
by-promise e (call.AddReaction h entry payload) = by-unless _ status.InvalidArg refl
by-promise e call.GetReactionValue = by-unless _ status.InvalidArg refl
by-promise e _ = tt

by-limits : (b : Buffers) (size : ℕ) → Refuses (limit_refusal b size)
by-limits b size =
    either (when (nat_lt most_buffer_bytes size) status.InvalidArg) (when (nat_lt most_bytes_together (total_bytes b + size)) status.GenericFailure)
    (by-when (nat_lt most_buffer_bytes size) status.InvalidArg refl) (by-when (nat_lt most_bytes_together (total_bytes b + size)) status.GenericFailure refl)

by-no_buffer : (b : Buffers) (v : ℕ) → Refuses (no_buffer_refusal b v)
by-no_buffer b v = by-unless (is_some (buffer_length b v)) status.ArraybufferExpected refl

by-buffer : (e : Environment) (c : Call) → Refuses (buffer_refusal e c)
by-buffer e (call.CreateArraybuffer size) = by-limits e.buffers size
by-buffer e (call.CreateExternalArraybuffer size _ _ _) = by-limits e.buffers size
by-buffer e (call.GetArraybufferInfo h) = by-no_buffer e.buffers (handle_value e.heap h.0)
by-buffer e (call.DetachArraybuffer h) =
    let v : ℕ = handle_value e.heap h.0 in
    either (no_buffer_refusal e.buffers v) (when (is_detached_buffer e.buffers v) status.DetachableArraybufferExpected) (by-no_buffer e.buffers v)
    (by-when (is_detached_buffer e.buffers v) status.DetachableArraybufferExpected refl)
by-buffer e (call.CreateTypedarray kind h offset count) =
    let v : ℕ = handle_value e.heap h.0 in
    either (no_buffer_refusal e.buffers v) (unless (is_some (view_asked e.buffers kind v offset count)) status.InvalidArg) (by-no_buffer e.buffers v)
    (by-unless (is_some (view_asked e.buffers kind v offset count)) status.InvalidArg refl)
by-buffer e (call.GetView h at) = by-unless (is_some (element_read e.buffers (handle_value e.heap h.0) at)) status.InvalidArg refl
by-buffer e (call.SetView h at number) = by-unless (is_some (element_read e.buffers (handle_value e.heap h.0) at)) status.InvalidArg refl
by-buffer e _ = tt

by-count : (m : ReferenceMap) (c : Call) → Refuses (count_refusal m c)
by-count m (call.ReferenceRef r) = by-when _ status.GenericFailure refl
by-count m (call.ReferenceUnref r) = by-when _ status.GenericFailure refl
by-count m _ = tt

by-reference : (m : ReferenceMap) (c : Call) → Refuses (reference_refusal m c)
by-reference m c =
    either (unknown_reference m c) (count_refusal m c) (by-unless (list_all (has_reference m) (references_of c)) status.InvalidArg refl) (by-count m c)

by-referring : (e : Environment) (c : Call) → Refuses (referring_refusal e c)
by-referring e (call.CreateReference h _) = by-unless (is_ten_or_later e.version || is_referable (handle_body e.heap h.0)) status.InvalidArg refl
by-referring e _ = tt

by-group : (g : CallGroup) (e : Environment) (c : Call) → Refuses ((call_group g).refuses e c)
by-group OnReferences e c = either (referring_refusal e c) (reference_refusal e.references c) (by-referring e c) (by-reference e.references c)
by-group OnWraps e c = by-attachment e.attachments e.heap c
by-group OnHooks e c = by-hook e c
by-group OnPromises e c = by-promise e c
by-group OnBuffers e c = by-buffer e c
by-group _ e c = tt

by-depth : (fs : List Frame) (c : Call) → Refuses (depth_refusal fs c)
by-depth fs (call.CallFunction _ _ _) = by-when _ status.PendingException refl
by-depth fs _ = tt

by-guard : (pending ten : Bool) → is_acceptance (cond pending status.PendingException (cond ten status.CannotRunJs status.PendingException)) ≡ false
by-guard true ten = refl
by-guard false true = refl
by-guard false false = refl

by-moment : (e : Environment) (c : Call) → Refuses (refusal_by_moment e c)
by-moment e c =
    either (guard_refusal e c) (registering_refusal e c) (by-when (is_guarded c && (is_some e.pending || is_tearing e.phase)) (guard_status e) (by-guard (is_some e.pending) (is_ten_or_later e.version)))
    (by-when (is_registering c && is_tearing e.phase) status.GenericFailure refl)

refusals-refuse : (e : Environment) (c : Call) → Refuses (refusal e c)
refusals-refuse e c =
    either (refusal_before_depth e c) (depth_refusal e.frames c)
    (either (refusal_by_moment e c) (refusal_by_state e c) (by-moment e c)
    (either (refusal_in e.texts e.heap c) (group_refusal e c)
    (either (unknown_refusal e.texts e.heap c) (option_or (kind_refusal e.heap c) (row_refusal e.heap c))
    (by-unless (is_known e.texts e.heap c) status.InvalidArg refl)
    (either (kind_refusal e.heap c) (row_refusal e.heap c) (by-kind (group_of c) e.heap c) (by-row (group_of c) e.heap c)))
    (by-group (group_of c) e c)))
    (by-depth e.frames c)

pub no-refusal-accepts : NoRefusalAccepts
no-refusal-accepts e c is = by (refusal e c) (refusals-refuse e c) is
  where
    by : (o : Option Status) → Refuses o → o ≡ Some status.Ok → ⊥
    by None never is = cc
    by (Some status.Ok) never is = cc
    by (Some _) never is = cc
