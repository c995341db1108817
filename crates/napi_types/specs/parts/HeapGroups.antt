-- The groups of calls, as far as the heap tells of them.
use Rattle.napi_types.specs.declared.call.Call.{Call}
use Rattle.napi_types.specs.declared.call.CallGroup.{CallGroup}
use Rattle.napi_types.specs.declared.call.CallGroup.TheVariants.{OnValues, OnProperties, OnFunctions, OnScopes, OnWraps, OnBuffers, OnEntering, OnTsfns, OnVersion}
use Rattle.napi_types.specs.plain.CallFacts.{group_of}
use Rattle.napi_types.specs.parts.BufferRefusals.{buffers_in_heap}
use Rattle.napi_types.specs.parts.FunctionCalls.{functions_in_heap}
use Rattle.napi_types.specs.parts.HeapGroup.{HeapGroup, no_heap_group}
use Rattle.napi_types.specs.parts.PropertyCalls.{properties_in_heap}
use Rattle.napi_types.specs.parts.ScopeCalls.{scopes_in_heap}
use Rattle.napi_types.specs.parts.ValueCalls.{values_in_heap}
use Rattle.napi_types.specs.parts.VersionCall.{version_in_heap}
use Rattle.napi_types.specs.parts.WrapRefusals.{wraps_in_heap}

-- what the heap tells of each group. A new one of which it tells something joins this list
abbrev pub heap_group : CallGroup → HeapGroup
heap_group OnValues = values_in_heap
heap_group OnProperties = properties_in_heap
heap_group OnFunctions = functions_in_heap
heap_group OnScopes = scopes_in_heap
heap_group OnWraps = wraps_in_heap
heap_group OnBuffers = buffers_in_heap
heap_group OnEntering = functions_in_heap
heap_group OnTsfns = functions_in_heap
heap_group OnVersion = version_in_heap
heap_group _ = no_heap_group

-- what it tells of the group of a call
abbrev pub heap_group_of : Call → HeapGroup
heap_group_of c = heap_group (group_of c)
