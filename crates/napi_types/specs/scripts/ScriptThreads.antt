-- The threads of a script, and its schedule.
use Rattle.std.specs.Prelude.{ℕ, List, Option, Some, None}
use Rattle.std.specs.declared.result.Result.TheVariants.{Ok}
use Rattle.serde_json.specs.Data.{Data}
use Rattle.napi_types.specs.declared.op.Op.{Op}
use Rattle.napi_types.specs.declared.entry.Actor.{Actor}
use Rattle.napi_types.specs.declared.script.ScriptPart.TheVariants as place
use Rattle.napi_types.specs.declared.script.LimitName.TheVariants as limit
use Rattle.napi_types.specs.scripts.ScriptOperations.{thread_operation}
use Rattle.napi_types.specs.scripts.ScriptReading.{Reading, ◌>>=◌, formed, list_at, every}
use Rattle.napi_types.specs.scripts.ScriptSchedule.{actor_in}

-- THREADS AND SCHEDULE
-- an operation of a thread
unfoldable pub thread_operation_at : ℕ → ℕ → Data → Reading Op
thread_operation_at t o d = formed (place.ThreadOperation t o) (thread_operation d)

-- a thread: at most 16,384 operations
unfoldable pub thread_at : ℕ → Data → Reading (List Op)
thread_at t d = do
  ds ← list_at (place.Thread t) limit.Operations 16384 (Some d)
  every (thread_operation_at t) 0 ds

-- a word of the schedule: an actor of the script
unfoldable pub word_at : ℕ → ℕ → ℕ → Data → Reading Actor
word_at threads workers s d = formed (place.Word s) (actor_in threads workers d)

-- the schedule, where there is one: at most 65,536 words
unfoldable pub schedule_in : ℕ → ℕ → Option Data → Reading (Option (List Actor))
schedule_in threads workers None = Ok None
schedule_in threads workers (Some d) = do
  ds ← list_at place.Schedule limit.Schedule 65536 (Some d)
  words ← every (word_at threads workers) 0 ds
  Ok (Some words)
