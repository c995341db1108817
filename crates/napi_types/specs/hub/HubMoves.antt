-- What the hub does next of its own: a completion begins, or a thread-safe function moves.
use Rattle.std.specs.Prelude.{ℕ, ◌==◌, Bool, true, false, not, cond, ◌&&◌, ◌||◌, List, [], ◌∷◌, map, Option, Some, None, option_map, is_some}
use Rattle.std.specs.List.{list_all}
use Rattle.std.specs.Option.{option_or}
use Rattle.napi_types.specs.declared.duties.DueInfo.{DueInfo}
use Rattle.napi_types.specs.declared.entry.Duty.{Duty}
use Rattle.napi_types.specs.declared.entry.Duty.TheVariants as duty
use Rattle.napi_types.specs.declared.entry.LoopEnd.{LoopEnd}
use Rattle.napi_types.specs.declared.entry.LoopEnd.TheVariants as loop_end
use Rattle.napi_types.specs.declared.entry.TsfnState.{TsfnState}
use Rattle.napi_types.specs.declared.entry.TsfnState.TheVariants.{Open, Closing, Finished, Done}
use Rattle.napi_types.specs.plain.Lists.{is_empty}
use Rattle.napi_types.specs.parts.Functions.{FunctionState, item_info, torn_info, function_info, first_taken, done, is_done}
use Rattle.napi_types.specs.parts.Pool.{WorkPool, first_completion, with_completed}
use Rattle.napi_types.specs.hub.Hub.{Hub, threads_left, workers_left}

-- a move of the hub: the frame of a duty begins, a function closes, or one finishes
pub data HubMove : Type 0 where
  Delivers : DueInfo → HubMove
  Closes : ℕ → HubMove
  Finishes : ℕ → HubMove

-- WHICH COMES NEXT
-- what a function has to do. While it is open its first item is delivered; where none waits it closes once nobody holds it. While it is closing the items that
-- wait are torn; where none is left it finishes. Once it is finished its finalizer begins
abbrev pub tsfn_move_in : FunctionState → TsfnState → List ℕ → Option HubMove
tsfn_move_in f Open [] = cond (f.count == 0) (Some (Closes f.id)) None
tsfn_move_in f Open (payload ∷ later) = Some (Delivers (item_info f payload))
tsfn_move_in f Closing [] = Some (Finishes f.id)
tsfn_move_in f Closing (payload ∷ later) = Some (Delivers (torn_info f payload))
tsfn_move_in f Finished items = Some (Delivers (function_info f))
tsfn_move_in f Done items = None

abbrev pub tsfn_move : FunctionState → Option HubMove
tsfn_move f = tsfn_move_in f f.state f.items

-- that of the function with the lowest number that has something to do
abbrev pub first_move : List FunctionState → Option HubMove
first_move [] = None
first_move (f ∷ fs) = option_or (tsfn_move f) (first_move fs)

-- the completion of the work that finished first, or else the move of a function
abbrev pub hub_move : Hub → Option HubMove
hub_move h = option_or (option_map Delivers (first_completion h.pool)) (first_move h.functions)

-- WHERE NOTHING MOVES
-- no work waits, runs or is finished
abbrev pub is_workless : WorkPool → Bool
is_workless p = is_empty p.queued && is_empty p.executions && is_empty p.finished

-- nothing is left to do: no work, and every thread-safe function for which the loop waits is done
abbrev pub is_idle : Hub → Bool
is_idle h = is_workless h.pool && list_all (λ f. not f.referenced || is_done f.state) h.functions

-- nobody is left who could give it something to do: every thread has ended, no work runs, and none waits for which there is a worker
abbrev pub is_quiet : Hub → Bool
is_quiet h = is_empty (threads_left h) && is_empty h.pool.executions && (is_empty h.pool.queued || (h.workers == 0))

-- so the loop ends idle, or else quiet, where nothing moves
abbrev pub idle_reason : Hub → Option LoopEnd
idle_reason h = cond (is_idle h) (Some loop_end.Idle) (cond (is_quiet h) (Some loop_end.Quiet) None)

-- why the loop ends, given whether exit was asked and whether a ticket is due: once exit was asked it ends for that, and else where neither a ticket is due nor
-- the hub has a move
abbrev pub loop_end_of : Bool → Bool → Hub → Option LoopEnd
loop_end_of true due h = Some loop_end.Exit
loop_end_of false true h = None
loop_end_of false false h = cond (is_some (hub_move h)) None (idle_reason h)

-- every thread and every worker has ended, and no work runs
abbrev pub is_spent : Hub → Bool
is_spent h = is_empty (threads_left h) && is_empty (workers_left h) && is_empty h.pool.executions

-- WHAT IT LEAVES
-- the pool changed so, and the function of a number
abbrev pub in_pool : (WorkPool → WorkPool) → Hub → Hub
in_pool change h = record h { pool = change h.pool }

abbrev pub in_tsfn : ℕ → (FunctionState → FunctionState) → Hub → Hub
in_tsfn n change h = record h { functions = map (λ (f : FunctionState). cond (f.id == n) (change f) f) h.functions }

-- a duty leaves its place in the hub
abbrev pub without_duty : Duty → Hub → Hub
without_duty (duty.Work n) h = in_pool with_completed h
without_duty (duty.Item f n) h = in_tsfn f.0 first_taken h
without_duty (duty.Function f) h = in_tsfn f.0 done h
without_duty (duty.Ticket t) h = h

-- its frame begins
abbrev pub with_delivered : DueInfo → Hub → Hub
with_delivered d h = record (without_duty d.duty h) { standing = Some d }
