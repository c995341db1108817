-- The thread-safe functions of a hub, each found by its number: what the call of one answers, and what calls and moves leave of them.
use Rattle.std.specs.Prelude.{ℕ, ◌+◌, ◌==◌, cond, List, length, map, Option, Some, None, Result, Ok, Err}
use Rattle.napi_types.specs.declared.call.Mode.{Mode}
use Rattle.napi_types.specs.declared.entry.Actor.{Actor}
use Rattle.napi_types.specs.declared.entry.Duty.{Duty}
use Rattle.napi_types.specs.declared.entry.Duty.TheVariants as duty
use Rattle.napi_types.specs.declared.status.Status.{Status}
use Rattle.napi_types.specs.declared.status.Status.TheVariants as status
use Rattle.napi_types.specs.plain.Lists.{found}
use Rattle.napi_types.specs.parts.Functions.{FunctionState, accepted_items, call_status, first_taken, closed, finished, done}
use Rattle.napi_types.specs.hub.HubMoves.{HubMove, Delivers, Closes, Finishes}
use Rattle.tsfn.specs.Trials.{tried_of}
use Rattle.tsfn.specs.declared.function.Tried.{Tried}
use Rattle.tsfn.specs.declared.function.Tried.TheVariants.{Answer}

-- BY NUMBER
-- the function of a number
abbrev pub function_numbered : ℕ → List FunctionState → Option FunctionState
function_numbered n fs = found (λ (f : FunctionState). f.id) n fs

-- the functions, with that of a number changed
abbrev pub with_function_changed : ℕ → (FunctionState → FunctionState) → List FunctionState → List FunctionState
with_function_changed n change fs = map (λ (f : FunctionState). cond (f.id == n) (change f) f) fs

-- how many items of a function wait
abbrev pub queued_items : FunctionState → ℕ
queued_items f = length f.items

-- CALLS
-- what a call of the function that is there answers; where none is, it is refused with 1
abbrev pub status_there : (FunctionState → Status) → Option FunctionState → Status
status_there answer None = status.InvalidArg
status_there answer (Some f) = answer f

-- what it leaves of the functions, where the function that is there tells how it is changed; where none is, nothing changes
abbrev pub changed_there : (FunctionState → FunctionState → FunctionState) → Option FunctionState → List FunctionState → List FunctionState
changed_there change None fs = fs
changed_there change (Some f) fs = with_function_changed f.id (change f) fs

-- what a call that queues an item comes out as
abbrev pub tried_there : Actor → Mode → Option FunctionState → Tried
tried_there who m None = Answer status.InvalidArg None
tried_there who m (Some f) = tried_of (call_status who m f) (accepted_items f + 1)

-- the context of the function that is there
abbrev pub context_there : Option FunctionState → Result ℕ Status
context_there None = Err status.InvalidArg
context_there (Some f) = Ok f.context

-- MOVES
-- the functions as the frame of a duty begins
abbrev pub functions_after_duty : Duty → List FunctionState → List FunctionState
functions_after_duty (duty.Item id n) fs = with_function_changed id.0 first_taken fs
functions_after_duty (duty.Function id) fs = with_function_changed id.0 done fs
functions_after_duty _ fs = fs

-- and after a move
abbrev pub functions_after_move : Option HubMove → List FunctionState → List FunctionState
functions_after_move None fs = fs
functions_after_move (Some (Delivers d)) fs = functions_after_duty d.duty fs
functions_after_move (Some (Closes id)) fs = with_function_changed id closed fs
functions_after_move (Some (Finishes id)) fs = with_function_changed id finished fs
