-- What the heap tells of the calls on array buffers: the kind that one of them expects.
use Rattle.std.specs.Prelude.{Option, None}
use Rattle.napi_types.specs.declared.call.Call.{Call}
use Rattle.napi_types.specs.declared.call.Call.TheVariants as call
use Rattle.napi_types.specs.declared.status.Status.{Status}
use Rattle.napi_types.specs.declared.status.Status.TheVariants as status
use Rattle.napi_types.specs.parts.Bodies.{is_object_like}
use Rattle.napi_types.specs.parts.Heap.{Heap}
use Rattle.napi_types.specs.parts.HeapGroup.{HeapGroup, no_heap_group}
use Rattle.napi_types.specs.parts.Kinds.{expects}

-- what is detached is an object, before it is asked whether it is a buffer
abbrev pub buffer_kinds : Heap → Call → Option Status
buffer_kinds heap (call.DetachArraybuffer h) = expects heap h is_object_like status.ObjectExpected
buffer_kinds heap _ = None

-- what the heap tells of these calls
abbrev pub buffers_in_heap : HeapGroup
buffers_in_heap = record no_heap_group { expects = buffer_kinds }
