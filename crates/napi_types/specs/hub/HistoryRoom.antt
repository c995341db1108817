-- The room in the history: the places that the hub still owes.
use Rattle.std.specs.Prelude.{ℕ, ◌+◌, ◌*◌, sum_by, length, Option, is_some}
use Rattle.napi_types.specs.declared.entry.TsfnState.{TsfnState}
use Rattle.napi_types.specs.declared.entry.TsfnState.TheVariants.{Open, Closing, Finished, Done}
use Rattle.napi_types.specs.plain.CallFacts.{finalizer_places}
use Rattle.napi_types.specs.plain.Room.{Room, one_if}
use Rattle.napi_types.specs.parts.Functions.{FunctionState}
use Rattle.napi_types.specs.parts.Pool.{WorkPool}
use Rattle.napi_types.specs.hub.Hub.{Hub, threads_left, workers_left, stage_places}

-- the places that works owe: one that waits its start, its finish, and the begin and the end of its completion; one that runs has three left, and one that is
-- finished two
abbrev pub work_places : WorkPool → ℕ
work_places p = 4 * length p.queued + 3 * length p.executions + 2 * length p.finished

-- those of a thread-safe function: its close, its finish, and the frame of its finalizer where it has one
abbrev pub state_places : Option ℕ → TsfnState → ℕ
state_places finalizer Open = 2 + finalizer_places finalizer
state_places finalizer Closing = 1 + finalizer_places finalizer
state_places finalizer Finished = 2
state_places finalizer Done = 0

-- and the frame of each item that waits
abbrev pub function_places : FunctionState → ℕ
function_places f = state_places f.finalizer f.state + 2 * length f.items

-- the places that the history still owes: those of the great events to come, the end of each thread and each worker, those of the works and of the functions, and the
-- end of the frame that stands of a duty of the hub
abbrev pub reserved_history : Hub → ℕ
reserved_history h =
    stage_places h.stage + length (threads_left h) + length (workers_left h) + work_places h.pool + sum_by function_places h.functions + one_if (is_some h.standing)

-- the room in a history with so many entries and this limit
abbrev pub history_room : Hub → ℕ → ℕ → Room
history_room h history_length limit = record { limit = limit; occupied = history_length + reserved_history h }
