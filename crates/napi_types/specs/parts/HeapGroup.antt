-- What the heap tells of a group of calls.
use Rattle.std.specs.Prelude.{ℕ, Option, None}
use Rattle.napi_types.specs.declared.call.Call.{Call}
use Rattle.napi_types.specs.declared.status.Status.{Status}
use Rattle.napi_types.specs.plain.Replies.{Answer}
use Rattle.napi_types.specs.parts.Heap.{Heap}

-- whether a value is of another kind than a call of the group expects, why the call is refused else, and what it answers and leaves, where n is the number
-- that it newly gives. For a call of another group each is none
pub record HeapGroup : Type 0 where
  pub expects : Heap → Call → Option Status
  pub refuses : Heap → Call → Option Status
  pub answers : Heap → Call → ℕ → Option (Answer Heap)

-- a group of which it has nothing
abbrev pub no_heap_group : HeapGroup
no_heap_group = record { expects = λ heap c. None; refuses = λ heap c. None; answers = λ heap c n. None }
