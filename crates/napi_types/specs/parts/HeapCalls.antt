-- What a call answers and leaves that is told of the heap: one on values, properties or scopes, or that makes a function.
use Rattle.std.specs.Option.{unwrap_or}
use Rattle.std.specs.Prelude.{ℕ, Option, Some, None}
use Rattle.napi_types.specs.declared.call.Call.{Call}
use Rattle.napi_types.specs.declared.entry.Out.TheVariants as out
use Rattle.napi_types.specs.declared.status.Status.{Status}
use Rattle.napi_types.specs.plain.Replies.{Answer, accepts, refuses}
use Rattle.napi_types.specs.parts.FunctionCalls.{on_functions}
use Rattle.napi_types.specs.parts.Heap.{Heap}
use Rattle.napi_types.specs.parts.HeapGroups.{heap_group_of}
use Rattle.napi_types.specs.parts.HeapRefusals.{refusal_in}

-- what an accepted call answers and leaves, as its group tells it
abbrev pub heap_effect : Heap → Call → ℕ → Answer Heap
heap_effect heap c n = unwrap_or ((heap_group_of c).answers heap c n) (accepts out.Nothing heap)

-- the same of a call of this addon: a function that it creates belongs to it
abbrev pub addon_effect : ℕ → Heap → Call → ℕ → Answer Heap
addon_effect addon heap c n = unwrap_or (on_functions addon heap c) (heap_effect heap c n)

-- what such a call answers and leaves, given the refusal that applies, if one does
abbrev pub heap_answer_unless : ℕ → Heap → Call → ℕ → Option Status → Answer Heap
heap_answer_unless addon heap c n (Some s) = refuses s heap
heap_answer_unless addon heap c n None = addon_effect addon heap c n

-- one that is refused answers the first refusal of the heap that applies, every other one its result
abbrev pub heap_answer : ℕ → ℕ → Heap → Call → ℕ → Answer Heap
heap_answer texts addon heap c n = heap_answer_unless addon heap c n (refusal_in texts heap c)
