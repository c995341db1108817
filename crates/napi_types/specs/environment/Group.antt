-- What the environment tells of a group of calls.
use Rattle.std.specs.Prelude.{ℕ, Option, None, option_map}
use Rattle.napi_types.specs.declared.call.Call.{Call}
use Rattle.napi_types.specs.declared.status.Status.{Status}
use Rattle.napi_types.specs.plain.Replies.{Answer}
use Rattle.napi_types.specs.parts.HeapGroup.{HeapGroup}
use Rattle.napi_types.specs.environment.Environment.{Environment, in_heap}

-- why a call of the group is refused beside what the heap tells, and what it answers and leaves, where n is the number that it newly gives. For a call of
-- another group each is none
pub record Group : Type 0 where
  pub refuses : Environment → Call → Option Status
  pub answers : Environment → Call → ℕ → Option (Answer Environment)

-- a group that nothing refuses but what the heap refuses
abbrev pub answering : (Environment → Call → ℕ → Option (Answer Environment)) → Group
answering answers = record { refuses = λ e c. None; answers = answers }

-- a group whose answers are those of the heap
abbrev pub from_heap : HeapGroup → Group
from_heap g = answering (λ e c n. option_map (in_heap e) (g.answers e.heap c n))
