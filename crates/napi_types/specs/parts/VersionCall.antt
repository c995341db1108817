-- What the calls of no group answer where nothing refuses them.
use Rattle.std.specs.Prelude.{Option, Some, None}
use Rattle.napi_types.specs.declared.call.Call.{Call}
use Rattle.napi_types.specs.declared.call.Call.TheVariants as call
use Rattle.napi_types.specs.declared.entry.Out.TheVariants as out
use Rattle.napi_types.specs.plain.Numbers.{highest_version}
use Rattle.napi_types.specs.plain.Replies.{Answer, accepts}
use Rattle.napi_types.specs.parts.Heap.{Heap}
use Rattle.napi_types.specs.parts.HeapGroup.{HeapGroup, no_heap_group}

-- `get_version` tells the highest version, whatever the script asked for
abbrev pub on_version : Heap → Call → Option (Answer Heap)
on_version heap call.GetVersion = Some (accepts (out.Unsigned highest_version) heap)
on_version heap _ = None

-- what the heap tells of this call, which is all
abbrev pub version_in_heap : HeapGroup
version_in_heap = record no_heap_group { answers = λ heap c n. on_version heap c }
