-- What the heap tells of the calls on wraps, type tags and finalizers: the kinds that they expect, and why they are refused else.
use Rattle.std.specs.Prelude.{Option, None}
use Rattle.napi_types.specs.declared.call.Call.{Call}
use Rattle.napi_types.specs.declared.call.Call.TheVariants as call
use Rattle.napi_types.specs.declared.status.Status.{Status}
use Rattle.napi_types.specs.declared.status.Status.TheVariants as status
use Rattle.napi_types.specs.plain.Lists.{when}
use Rattle.napi_types.specs.parts.Bodies.{is_object_like, is_taggable}
use Rattle.napi_types.specs.parts.Heap.{Heap}
use Rattle.napi_types.specs.parts.HeapGroup.{HeapGroup, no_heap_group}
use Rattle.napi_types.specs.parts.Kinds.{expects}

-- an object is wrapped, and what is tagged may be an external, too
abbrev pub wrap_kinds : Heap → Call → Option Status
wrap_kinds heap (call.Wrap h _ _ _ _) = expects heap h is_object_like status.ObjectExpected
wrap_kinds heap (call.Unwrap h) = expects heap h is_object_like status.ObjectExpected
wrap_kinds heap (call.RemoveWrap h) = expects heap h is_object_like status.ObjectExpected
wrap_kinds heap (call.TypeTagObject h _ _) = expects heap h is_taggable status.ObjectExpected
wrap_kinds heap (call.CheckObjectTypeTag h _ _) = expects heap h is_taggable status.ObjectExpected
wrap_kinds heap (call.AddFinalizer h _ _ _ _) = expects heap h is_object_like status.ObjectExpected
wrap_kinds heap _ = None

-- a wrap gives a reference only where it has a finalizer
abbrev pub wrap_refusal : Heap → Call → Option Status
wrap_refusal heap (call.Wrap _ _ None _ wanted) = when wanted status.InvalidArg
wrap_refusal heap _ = None

-- what the heap tells of these calls
abbrev pub wraps_in_heap : HeapGroup
wraps_in_heap = record no_heap_group { expects = wrap_kinds; refuses = wrap_refusal }
