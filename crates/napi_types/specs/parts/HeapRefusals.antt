-- The first refusal of a call that the heap tells.
use Rattle.std.specs.Prelude.{ℕ, Option}
use Rattle.std.specs.Option.{option_or}
use Rattle.napi_types.specs.declared.call.Call.{Call}
use Rattle.napi_types.specs.declared.status.Status.{Status}
use Rattle.napi_types.specs.parts.Heap.{Heap}
use Rattle.napi_types.specs.parts.HeapGroups.{heap_group_of}
use Rattle.napi_types.specs.parts.NamedNumbers.{unknown_refusal}

-- a status where a handle's value is not of the kind that the call expects
abbrev pub kind_refusal : Heap → Call → Option Status
kind_refusal heap c = (heap_group_of c).expects heap c

-- the call's own refusal, where the heap tells it
abbrev pub row_refusal : Heap → Call → Option Status
row_refusal heap c = (heap_group_of c).refuses heap c

-- the first of these three points that applies, in a heap and a table of so many texts
abbrev pub refusal_in : ℕ → Heap → Call → Option Status
refusal_in texts heap c = option_or (unknown_refusal texts heap c) (option_or (kind_refusal heap c) (row_refusal heap c))
