-- The groups of calls.
use Rattle.std.specs.Prelude.{option_map}
use Rattle.napi_types.specs.declared.call.Call.{Call}
use Rattle.napi_types.specs.declared.call.CallGroup.{CallGroup}
use Rattle.napi_types.specs.declared.call.CallGroup.TheVariants.{OnFunctions, OnReferences, OnWraps, OnExternals, OnExceptions, OnInstances, OnHooks, OnPromises, OnBuffers, OnCollection, OnExit}
use Rattle.napi_types.specs.plain.CallFacts.{group_of}
use Rattle.napi_types.specs.parts.Frames.{caller_of}
use Rattle.napi_types.specs.parts.FunctionCalls.{on_functions}
use Rattle.napi_types.specs.parts.HeapGroups.{heap_group}
use Rattle.napi_types.specs.environment.BufferCalls.{buffer_calls}
use Rattle.napi_types.specs.environment.Collection.{collecting_calls}
use Rattle.napi_types.specs.environment.Environment.{in_heap}
use Rattle.napi_types.specs.environment.ExceptionCalls.{exception_calls}
use Rattle.napi_types.specs.environment.ExternalCalls.{external_calls}
use Rattle.napi_types.specs.environment.Group.{Group, answering, from_heap}
use Rattle.napi_types.specs.environment.HookCalls.{hook_calls}
use Rattle.napi_types.specs.environment.InstanceCalls.{instance_calls}
use Rattle.napi_types.specs.environment.PromiseCalls.{promise_calls}
use Rattle.napi_types.specs.environment.ReferenceCalls.{reference_calls}
use Rattle.napi_types.specs.environment.RunCalls.{run_calls}
use Rattle.napi_types.specs.environment.WrapCalls.{wrap_calls}

-- what is told of each group. A new one joins this list, or where the heap tells all of it that of `HeapGroups`. A call of a function is not answered here,
-- since it enters a frame, and the calls on works and thread-safe functions are not, since the hub answers them
abbrev pub call_group : CallGroup → Group
call_group OnFunctions = answering (λ e c n. option_map (in_heap e) (on_functions (caller_of e.frames) e.heap c))
call_group OnReferences = reference_calls
call_group OnWraps = wrap_calls
call_group OnExternals = external_calls
call_group OnExceptions = exception_calls
call_group OnInstances = instance_calls
call_group OnHooks = hook_calls
call_group OnPromises = promise_calls
call_group OnBuffers = buffer_calls
call_group OnCollection = collecting_calls
call_group OnExit = run_calls
call_group g = from_heap (heap_group g)

-- what is told of the group of a call
abbrev pub call_group_of : Call → Group
call_group_of c = call_group (group_of c)
