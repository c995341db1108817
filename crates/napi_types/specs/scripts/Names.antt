-- The words of a trace for calls, steps of the host, kinds of values, causes and ends.
use Rattle.std.specs.Prelude.{ℕ, List, codes}
use Rattle.napi_types.specs.declared.call.Call.{Call}
use Rattle.napi_types.specs.declared.call.Call.TheVariants as call
use Rattle.napi_types.specs.declared.entry.HostStep.{HostStep}
use Rattle.napi_types.specs.declared.entry.HostStep.TheVariants as host
use Rattle.napi_types.specs.declared.entry.Cause.{Cause}
use Rattle.napi_types.specs.declared.entry.Cause.TheVariants as cause
use Rattle.napi_types.specs.declared.entry.LoopEnd.{LoopEnd}
use Rattle.napi_types.specs.declared.entry.LoopEnd.TheVariants as loop_end
use Rattle.napi_types.specs.declared.entry.What.{What}
use Rattle.napi_types.specs.declared.entry.What.TheVariants as what
use Rattle.napi_types.specs.declared.entry.Why.{Why}
use Rattle.napi_types.specs.declared.entry.Why.TheVariants as why
use Rattle.napi_types.specs.declared.status.Kind.{Kind}
use Rattle.napi_types.specs.declared.status.Kind.TheVariants as kind

-- the name that the manual gives the call, without its `napi_`; `collect` and `exit` are calls of this environment's own
abbrev pub call_name : Call → List ℕ
call_name call.GetUndefined = codes "get_undefined"
call_name call.GetNull = codes "get_null"
call_name call.GetGlobal = codes "get_global"
call_name (call.GetBoolean _) = codes "get_boolean"
call_name (call.CreateInt64 _) = codes "create_int64"
call_name (call.CreateBigintInt64 _) = codes "create_bigint_int64"
call_name (call.CreateStringUtf8 _) = codes "create_string_utf8"
call_name (call.CreateSymbol _) = codes "create_symbol"
call_name call.CreateObject = codes "create_object"
call_name call.CreateArray = codes "create_array"
call_name (call.CreateFunction _ _) = codes "create_function"
call_name (call.CreateExternal _ _ _) = codes "create_external"
call_name (call.CreateError _ _) = codes "create_error"
call_name (call.Typeof _) = codes "typeof"
call_name (call.IsArray _) = codes "is_array"
call_name (call.IsError _) = codes "is_error"
call_name (call.GetValueInt64 _) = codes "get_value_int64"
call_name (call.GetValueBigintInt64 _) = codes "get_value_bigint_int64"
call_name (call.GetValueBool _) = codes "get_value_bool"
call_name (call.GetValueStringUtf8 _) = codes "get_value_string_utf8"
call_name (call.GetValueExternal _) = codes "get_value_external"
call_name (call.GetArrayLength _) = codes "get_array_length"
call_name (call.StrictEquals _ _) = codes "strict_equals"
call_name (call.SetNamedProperty _ _ _) = codes "set_named_property"
call_name (call.GetNamedProperty _ _) = codes "get_named_property"
call_name (call.HasNamedProperty _ _) = codes "has_named_property"
call_name (call.DeleteProperty _ _) = codes "delete_property"
call_name (call.GetPropertyNames _) = codes "get_property_names"
call_name (call.SetElement _ _ _) = codes "set_element"
call_name (call.GetElement _ _) = codes "get_element"
call_name (call.HasElement _ _) = codes "has_element"
call_name call.OpenHandleScope = codes "open_handle_scope"
call_name call.OpenEscapableHandleScope = codes "open_escapable_handle_scope"
call_name (call.CloseHandleScope _) = codes "close_handle_scope"
call_name (call.CloseEscapableHandleScope _) = codes "close_escapable_handle_scope"
call_name (call.EscapeHandle _ _) = codes "escape_handle"
call_name (call.CreateReference _ _) = codes "create_reference"
call_name (call.DeleteReference _) = codes "delete_reference"
call_name (call.ReferenceRef _) = codes "reference_ref"
call_name (call.ReferenceUnref _) = codes "reference_unref"
call_name (call.GetReferenceValue _) = codes "get_reference_value"
call_name (call.Wrap _ _ _ _ _) = codes "wrap"
call_name (call.Unwrap _) = codes "unwrap"
call_name (call.RemoveWrap _) = codes "remove_wrap"
call_name (call.TypeTagObject _ _ _) = codes "type_tag_object"
call_name (call.CheckObjectTypeTag _ _ _) = codes "check_object_type_tag"
call_name (call.AddFinalizer _ _ _ _ _) = codes "add_finalizer"
call_name (call.CallFunction _ _ _) = codes "call_function"
call_name (call.Throw _) = codes "throw"
call_name (call.ThrowError _ _) = codes "throw_error"
call_name call.IsExceptionPending = codes "is_exception_pending"
call_name call.GetAndClearLastException = codes "get_and_clear_last_exception"
call_name call.GetLastErrorInfo = codes "get_last_error_info"
call_name (call.SetInstanceData _ _ _) = codes "set_instance_data"
call_name call.GetInstanceData = codes "get_instance_data"
call_name (call.AddEnvCleanupHook _ _) = codes "add_env_cleanup_hook"
call_name (call.RemoveEnvCleanupHook _ _) = codes "remove_env_cleanup_hook"
call_name (call.AddAsyncCleanupHook _ _) = codes "add_async_cleanup_hook"
call_name (call.RemoveAsyncCleanupHook _) = codes "remove_async_cleanup_hook"
call_name call.CreatePromise = codes "create_promise"
call_name (call.ResolveDeferred _ _) = codes "resolve_deferred"
call_name (call.RejectDeferred _ _) = codes "reject_deferred"
call_name (call.IsPromise _) = codes "is_promise"
call_name (call.AddReaction _ _ _) = codes "add_reaction"
call_name call.GetReactionValue = codes "get_reaction_value"
call_name (call.CreateArraybuffer _) = codes "create_arraybuffer"
call_name (call.CreateExternalArraybuffer _ _ _ _) = codes "create_external_arraybuffer"
call_name (call.IsArraybuffer _) = codes "is_arraybuffer"
call_name (call.IsDetachedArraybuffer _) = codes "is_detached_arraybuffer"
call_name (call.GetArraybufferInfo _) = codes "get_arraybuffer_info"
call_name (call.DetachArraybuffer _) = codes "detach_arraybuffer"
call_name (call.CreateTypedarray _ _ _ _) = codes "create_typedarray"
call_name (call.GetView _ _) = codes "get_view"
call_name (call.SetView _ _ _) = codes "set_view"
call_name (call.CreateAsyncWork _ _ _) = codes "create_async_work"
call_name (call.DeleteAsyncWork _) = codes "delete_async_work"
call_name (call.CancelAsyncWork _) = codes "cancel_async_work"
call_name (call.QueueAsyncWork _) = codes "queue_async_work"
call_name (call.CreateThreadsafeFunction _ _ _ _ _ _) = codes "create_threadsafe_function"
call_name (call.CallThreadsafeFunction _ _ _) = codes "call_threadsafe_function"
call_name (call.AcquireThreadsafeFunction _) = codes "acquire_threadsafe_function"
call_name (call.ReleaseThreadsafeFunction _ _) = codes "release_threadsafe_function"
call_name (call.RefThreadsafeFunction _) = codes "ref_threadsafe_function"
call_name (call.UnrefThreadsafeFunction _) = codes "unref_threadsafe_function"
call_name (call.GetThreadsafeFunctionContext _) = codes "get_threadsafe_function_context"
call_name call.GetVersion = codes "get_version"
call_name call.Collect = codes "collect"
call_name call.Exit = codes "exit"

-- the name of an event that is no call
abbrev pub host_name : HostStep → List ℕ
host_name host.Opened = codes "opened"
host_name host.Begin = codes "begin"
host_name host.End = codes "end"
host_name host.Go = codes "go"
host_name host.LoopEnd = codes "loop_end"
host_name host.Abandon = codes "abandon"
host_name host.CloseTsfn = codes "close_tsfn"
host_name host.FinishTsfn = codes "finish_tsfn"
host_name host.Drain = codes "drain"
host_name host.Finals = codes "finals"
host_name host.Gone = codes "gone"
host_name host.Start = codes "start"
host_name host.Finish = codes "finish"
host_name host.ActorEnd = codes "actor_end"

-- the name of a call or of an event that is no call
abbrev pub what_name : What → List ℕ
what_name (what.Call c) = call_name c
what_name (what.Host h) = host_name h

-- a value kind's word, in lower case
abbrev pub kind_name : Kind → List ℕ
kind_name kind.Undefined = codes "undefined"
kind_name kind.Null = codes "null"
kind_name kind.Boolean = codes "boolean"
kind_name kind.Number = codes "number"
kind_name kind.String = codes "string"
kind_name kind.Symbol = codes "symbol"
kind_name kind.Object = codes "object"
kind_name kind.Function = codes "function"
kind_name kind.External = codes "external"
kind_name kind.Bigint = codes "bigint"

-- why a frame began
abbrev pub cause_name : Cause → List ℕ
cause_name cause.Init = codes "init"
cause_name cause.Call = codes "call"
cause_name cause.Finalize = codes "finalize"
cause_name cause.Complete = codes "complete"
cause_name cause.Item = codes "item"
cause_name cause.Torn = codes "torn"
cause_name cause.Hook = codes "hook"
cause_name cause.Reaction = codes "reaction"

-- why the loop ended
abbrev pub loop_end_name : LoopEnd → List ℕ
loop_end_name loop_end.Exit = codes "exit"
loop_end_name loop_end.Idle = codes "idle"
loop_end_name loop_end.Quiet = codes "quiet"

-- why a frame or a thread was cut
abbrev pub why_name : Why → List ℕ
why_name why.Memory = codes "memory"
why_name why.Full = codes "full"
why_name why.Asks = codes "asks"
