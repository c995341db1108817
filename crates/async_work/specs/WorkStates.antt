-- How far a work has come, by its place and by the queue.
use Rattle.std.specs.Prelude.{ℕ, List, Option, Some, None}
use Rattle.std.specs.Option.{option_map_or}
use Rattle.napi_types.specs.parts.Works.{WorkState, Created, Queued, Running, Finished, Completed}
use Rattle.async_work.specs.Queue.{NumberedWork, queue_stage_at, stage_state}
use Rattle.async_work.specs.WorkPlaces.{Placed}
use Rattle.async_work.specs.declared.pool.WorkProgress.{WorkProgress}
use Rattle.async_work.specs.declared.pool.WorkProgress.TheVariants as state

abbrev pub state_seen : WorkProgress → WorkState
state_seen state.Created = Created
state_seen (state.Queued n) = Queued
state_seen state.Running = Running
state_seen state.Finished = Finished
state_seen state.Completed = Completed

abbrev pub state_number : WorkProgress → Option ℕ
state_number (state.Queued n) = Some n
state_number _ = None

-- the state of the work of a number
abbrev pub numbered_state : List NumberedWork → ℕ → WorkState
numbered_state line n = stage_state (queue_stage_at line n)

-- the state of a work that stands at a place
abbrev pub place_state : List NumberedWork → Placed → WorkState
place_state line p = option_map_or (numbered_state line) p.number Created
