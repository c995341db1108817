-- What a thread-safe function does of its own, and what that leaves of it.
use Rattle.std.specs.Prelude.{Bool, Option, Some, None, is_some}
use Rattle.napi_types.specs.declared.entry.Duty.{Duty}
use Rattle.napi_types.specs.declared.entry.Duty.TheVariants as duty
use Rattle.napi_types.specs.parts.Functions.{FunctionState, first_taken, closed, finished, done}
use Rattle.napi_types.specs.hub.HubMoves.{HubMove, Delivers, Closes, Finishes, tsfn_move}
use Rattle.tsfn.specs.declared.function.Moved.{Moved}
use Rattle.tsfn.specs.declared.function.Moved.TheVariants as moved

-- the move of the hub that it was
abbrev pub move_of : Moved → HubMove
move_of (moved.Delivers due) = Delivers due
move_of (moved.Closes id) = Closes id.0
move_of (moved.Finishes id) = Finishes id.0

-- a function has something to do
abbrev pub is_busy : FunctionState → Bool
is_busy f = is_some (tsfn_move f)

-- a function as the frame of its duty begins: an item is taken out, and after its finalizer it is done
abbrev pub with_duty_begun : Duty → FunctionState → FunctionState
with_duty_begun (duty.Item id n) f = first_taken f
with_duty_begun (duty.Function id) f = done f
with_duty_begun _ f = f

-- and as it moves
abbrev pub moved_by : Option HubMove → FunctionState → FunctionState
moved_by None f = f
moved_by (Some (Delivers d)) f = with_duty_begun d.duty f
moved_by (Some (Closes id)) f = closed f
moved_by (Some (Finishes id)) f = finished f
