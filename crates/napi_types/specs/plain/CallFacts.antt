-- The table of calls: the group of each, and what else is known of it before it is made, a row for each. A call is of one group, whose records in
-- `HeapGroups` and `Groups` tell why it is refused and what it answers.
use Rattle.std.specs.Prelude.{◌≡◌, ℕ, ◌+◌, Bool, true, false, List, [], ◌∷◌, ◌++◌, Option, Some, None, is_some}
use Rattle.napi_types.specs.declared.call.Call.{Call}
use Rattle.napi_types.specs.declared.call.Call.TheVariants as call
use Rattle.napi_types.specs.declared.call.CallGroup.{CallGroup}
use Rattle.napi_types.specs.declared.call.CallGroup.TheVariants.{OnValues, OnProperties, OnFunctions, OnScopes, OnReferences, OnWraps, OnExternals, OnEntering, OnExceptions, OnInstances, OnHooks, OnPromises, OnBuffers, OnWorks, OnTsfns, OnVersion, OnCollection, OnExit}
use Rattle.napi_types.specs.declared.call.Facts.{Facts}
use Rattle.napi_types.specs.declared.ids.HandleId.{HandleId}
use Rattle.napi_types.specs.declared.ids.TextNo.{TextNo}
use Rattle.napi_types.specs.plain.Arguments.{argument_handles}
use Rattle.napi_types.specs.plain.Lists.{singleton}

-- the call's group; whether it is guarded, whether it registers something, and whether it takes memory beside that of its places; how many places it needs; and
-- the handles, the texts and the references that it names
pub record CallFacts : Type 0 where
  pub group : CallGroup
  pub guarded : Bool
  pub registers : Bool
  pub grows : Bool
  pub need : ℕ
  pub handles : List ℕ
  pub texts : List ℕ
  pub references : List ℕ

-- a call of this group, of which no more of this holds: it needs the place of its entry alone
abbrev pub in_group : CallGroup → CallFacts
in_group g =
    record { group = g; guarded = false; registers = false; grows = false; need = 1; handles = []; texts = []; references = [] }

-- the handle of an argument that may be left out
abbrev pub handle_if : Option HandleId → List ℕ
handle_if None = []
handle_if (Some h) = singleton h.0

-- the text of an argument that may be left out
abbrev pub text_if : Option TextNo → List ℕ
text_if None = []
text_if (Some t) = singleton t.0

-- the places of a duty's frame, its begin and its end
abbrev pub duty_places : ℕ
duty_places = 2

-- the same where there is a finalizer
abbrev pub finalizer_places : Option ℕ → ℕ
finalizer_places None = 0
finalizer_places (Some entry) = duty_places

-- the table
abbrev pub facts_of : Call → CallFacts
facts_of call.GetUndefined = record (in_group OnValues) { grows = true }
facts_of call.GetNull = record (in_group OnValues) { grows = true }
facts_of call.GetGlobal = record (in_group OnValues) { grows = true }
facts_of (call.GetBoolean _) = record (in_group OnValues) { grows = true }
facts_of (call.CreateInt64 _) = record (in_group OnValues) { grows = true }
facts_of (call.CreateBigintInt64 _) = record (in_group OnValues) { grows = true }
facts_of (call.CreateStringUtf8 t) = record (in_group OnValues) { grows = true; texts = singleton t.0 }
facts_of (call.CreateSymbol h) = record (in_group OnValues) { grows = true; handles = handle_if h }
facts_of call.CreateObject = record (in_group OnValues) { grows = true }
facts_of call.CreateArray = record (in_group OnValues) { grows = true }
facts_of (call.CreateFunction _ _) = record (in_group OnFunctions) { guarded = true; grows = true }
facts_of (call.CreateExternal _ finalizer _) =
    record (in_group OnExternals) { registers = is_some finalizer; grows = true; need = 1 + finalizer_places finalizer }
facts_of (call.CreateError code message) = record (in_group OnValues) { grows = true; handles = handle_if code ++ singleton message.0 }
facts_of (call.Typeof h) = record (in_group OnValues) { handles = singleton h.0 }
facts_of (call.IsArray h) = record (in_group OnValues) { handles = singleton h.0 }
facts_of (call.IsError h) = record (in_group OnValues) { handles = singleton h.0 }
facts_of (call.GetValueInt64 h) = record (in_group OnValues) { handles = singleton h.0 }
facts_of (call.GetValueBigintInt64 h) = record (in_group OnValues) { handles = singleton h.0 }
facts_of (call.GetValueBool h) = record (in_group OnValues) { handles = singleton h.0 }
facts_of (call.GetValueStringUtf8 h) = record (in_group OnValues) { handles = singleton h.0 }
facts_of (call.GetValueExternal h) = record (in_group OnValues) { handles = singleton h.0 }
facts_of (call.GetArrayLength h) = record (in_group OnValues) { handles = singleton h.0 }
facts_of (call.StrictEquals g h) = record (in_group OnValues) { guarded = true; handles = g.0 ∷ singleton h.0 }
facts_of (call.SetNamedProperty h name v) =
    record (in_group OnProperties) { guarded = true; grows = true; handles = h.0 ∷ singleton v.0; texts = singleton name.0 }
facts_of (call.GetNamedProperty h name) = record (in_group OnProperties) { guarded = true; grows = true; handles = singleton h.0; texts = singleton name.0 }
facts_of (call.HasNamedProperty h name) = record (in_group OnProperties) { guarded = true; handles = singleton h.0; texts = singleton name.0 }
facts_of (call.DeleteProperty h name) = record (in_group OnProperties) { guarded = true; handles = singleton h.0; texts = singleton name.0 }
facts_of (call.GetPropertyNames h) = record (in_group OnProperties) { guarded = true; grows = true; handles = singleton h.0 }
facts_of (call.SetElement h _ v) = record (in_group OnProperties) { guarded = true; grows = true; handles = h.0 ∷ singleton v.0 }
facts_of (call.GetElement h _) = record (in_group OnProperties) { guarded = true; grows = true; handles = singleton h.0 }
facts_of (call.HasElement h _) = record (in_group OnProperties) { guarded = true; handles = singleton h.0 }
facts_of call.OpenHandleScope = record (in_group OnScopes) { grows = true }
facts_of call.OpenEscapableHandleScope = record (in_group OnScopes) { grows = true }
facts_of (call.CloseHandleScope _) = in_group OnScopes
facts_of (call.CloseEscapableHandleScope _) = in_group OnScopes
facts_of (call.EscapeHandle _ h) = record (in_group OnScopes) { handles = singleton h.0 }
facts_of (call.CreateReference h _) = record (in_group OnReferences) { grows = true; handles = singleton h.0 }
facts_of (call.DeleteReference r) = record (in_group OnReferences) { references = singleton r.0 }
facts_of (call.ReferenceRef r) = record (in_group OnReferences) { references = singleton r.0 }
facts_of (call.ReferenceUnref r) = record (in_group OnReferences) { references = singleton r.0 }
facts_of (call.GetReferenceValue r) = record (in_group OnReferences) { grows = true; references = singleton r.0 }
facts_of (call.Wrap h _ finalizer _ _) =
    record (in_group OnWraps) { guarded = true; registers = is_some finalizer; grows = true; need = 1 + finalizer_places finalizer; handles = singleton h.0 }
facts_of (call.Unwrap h) = record (in_group OnWraps) { guarded = true; handles = singleton h.0 }
facts_of (call.RemoveWrap h) = record (in_group OnWraps) { guarded = true; handles = singleton h.0 }
facts_of (call.TypeTagObject h _ _) = record (in_group OnWraps) { guarded = true; grows = true; handles = singleton h.0 }
facts_of (call.CheckObjectTypeTag h _ _) = record (in_group OnWraps) { guarded = true; handles = singleton h.0 }
facts_of (call.AddFinalizer h _ _ _ _) = record (in_group OnWraps) { registers = true; grows = true; need = 1 + duty_places; handles = singleton h.0 }
facts_of (call.CallFunction receiver f args) =
    record (in_group OnEntering) { guarded = true; grows = true; need = 2; handles = handle_if receiver ++ f.0 ∷ argument_handles args }
facts_of (call.Throw h) = record (in_group OnExceptions) { guarded = true; handles = singleton h.0 }
facts_of (call.ThrowError code message) = record (in_group OnExceptions) { guarded = true; grows = true; texts = text_if code ++ singleton message.0 }
facts_of call.IsExceptionPending = in_group OnExceptions
facts_of call.GetAndClearLastException = record (in_group OnExceptions) { grows = true }
facts_of call.GetLastErrorInfo = in_group OnExceptions
facts_of (call.SetInstanceData _ finalizer _) =
    record (in_group OnInstances) { registers = is_some finalizer; grows = is_some finalizer; need = 1 + finalizer_places finalizer }
facts_of call.GetInstanceData = in_group OnInstances
facts_of (call.AddEnvCleanupHook _ _) = record (in_group OnHooks) { registers = true; grows = true; need = 1 + duty_places }
facts_of (call.RemoveEnvCleanupHook _ _) = in_group OnHooks
facts_of (call.AddAsyncCleanupHook _ _) = record (in_group OnHooks) { registers = true; grows = true; need = 1 + duty_places }
facts_of (call.RemoveAsyncCleanupHook _) = in_group OnHooks
facts_of call.CreatePromise = record (in_group OnPromises) { guarded = true; grows = true }
facts_of (call.ResolveDeferred _ v) = record (in_group OnPromises) { guarded = true; handles = singleton v.0 }
facts_of (call.RejectDeferred _ v) = record (in_group OnPromises) { guarded = true; handles = singleton v.0 }
facts_of (call.AddReaction h _ _) =
    record (in_group OnPromises) { guarded = true; registers = true; grows = true; need = 1 + duty_places; handles = singleton h.0 }
facts_of call.GetReactionValue = record (in_group OnPromises) { grows = true }
facts_of (call.IsPromise h) = record (in_group OnValues) { handles = singleton h.0 }
facts_of (call.CreateArraybuffer _) = record (in_group OnBuffers) { grows = true }
facts_of (call.CreateExternalArraybuffer _ _ _ _) = record (in_group OnBuffers) { registers = true; grows = true; need = 1 + duty_places }
facts_of (call.IsArraybuffer h) = record (in_group OnBuffers) { handles = singleton h.0 }
facts_of (call.IsDetachedArraybuffer h) = record (in_group OnBuffers) { handles = singleton h.0 }
facts_of (call.GetArraybufferInfo h) = record (in_group OnBuffers) { handles = singleton h.0 }
facts_of (call.DetachArraybuffer h) = record (in_group OnBuffers) { handles = singleton h.0 }
facts_of (call.CreateTypedarray _ h _ _) = record (in_group OnBuffers) { guarded = true; grows = true; handles = singleton h.0 }
facts_of (call.GetView h _) = record (in_group OnBuffers) { handles = singleton h.0 }
facts_of (call.SetView h _ _) = record (in_group OnBuffers) { handles = singleton h.0 }
facts_of (call.CreateAsyncWork _ _ _) = record (in_group OnWorks) { registers = true; grows = true }
facts_of (call.DeleteAsyncWork _) = in_group OnWorks
facts_of (call.CancelAsyncWork _) = in_group OnWorks
facts_of (call.QueueAsyncWork _) = record (in_group OnWorks) { registers = true; need = 3 + duty_places }
facts_of (call.CreateThreadsafeFunction f _ _ _ finalizer _) =
    record (in_group OnTsfns) { registers = true; grows = true; need = 3 + finalizer_places finalizer; handles = handle_if f }
facts_of (call.CallThreadsafeFunction _ _ _) = record (in_group OnTsfns) { registers = true; grows = true; need = 1 + duty_places }
facts_of (call.AcquireThreadsafeFunction _) = in_group OnTsfns
facts_of (call.ReleaseThreadsafeFunction _ _) = in_group OnTsfns
facts_of (call.RefThreadsafeFunction _) = in_group OnTsfns
facts_of (call.UnrefThreadsafeFunction _) = in_group OnTsfns
facts_of (call.GetThreadsafeFunctionContext _) = in_group OnTsfns
facts_of call.GetVersion = in_group OnVersion
facts_of call.Collect = record (in_group OnCollection) { grows = true }
facts_of call.Exit = in_group OnExit

-- the call's group
abbrev pub group_of : Call → CallGroup
group_of c = (facts_of c).group

-- this is what code is told of the call before it is made
pub record AreFactsOf (f : Facts) (c : Call) : Type 0 where
  pub group : f.group ≡ group_of c
  pub guarded : f.guarded ≡ (facts_of c).guarded
  pub registers : f.registers ≡ (facts_of c).registers
  pub places : f.places ≡ (facts_of c).need
