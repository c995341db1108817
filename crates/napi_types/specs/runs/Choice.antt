-- The next event where no frame stands: the one that the environment decides alone, or else the hub's.
use Rattle.std.specs.Option.{option_or}
use Rattle.std.specs.Prelude.{ℕ, ◌==◌, cond, Option, Some, None, option_map}
use Rattle.napi_types.specs.declared.entry.Phase.{Phase}
use Rattle.napi_types.specs.declared.entry.Phase.TheVariants as phase
use Rattle.napi_types.specs.parts.AsyncHooks.{count_waiting}
use Rattle.napi_types.specs.environment.Environment.{Environment}
use Rattle.napi_types.specs.hub.Hub.{Hub, Stage, Before, Live, LoopEnded, HooksAbandoned, Drained, Final}
use Rattle.napi_types.specs.hub.HubMoves.{hub_move, idle_reason, is_quiet, is_spent}
use Rattle.napi_types.specs.runs.Loop.{Event, Moves, Goes, EndsLoop, Abandons, Drains, FinalsCome, init_choice, loop_choice}
use Rattle.napi_types.specs.runs.Machine.{Machine}
use Rattle.napi_types.specs.runs.Teardown.{teardown_choice}

-- THE ENVIRONMENT'S
-- the event that the environment decides alone in each phase, where it does
abbrev pub local_choice_in : Environment → Phase → Option Event
local_choice_in e phase.Init = init_choice e
local_choice_in e phase.Live = loop_choice e
local_choice_in e p = teardown_choice e p

-- it reads the environment alone
abbrev pub local_choice : Environment → Option Event
local_choice e = local_choice_in e e.phase

-- THE HUB'S
-- once the hub is spent `finals` comes
abbrev pub finals_choice : Hub → Option Event
finals_choice h = cond (is_spent h) (Some FinalsCome) None

-- while asynchronous hooks wait its moves come first, and then, once nobody is left who could remove one, they are abandoned; where none waits the drain comes
abbrev pub hooks_choice : Hub → ℕ → Option Event
hooks_choice h waiting = cond (waiting == 0) (Some Drains) (option_or (option_map Moves (hub_move h)) (cond (is_quiet h) (Some Abandons) None))

-- its next event by how many hooks wait and by how far it is: in the loop and after the drain its moves come first, and then the loop ends for the hub's own
-- reason, or `finals` comes
abbrev pub hub_choice_at : Hub → ℕ → Stage → Option Event
hub_choice_at h waiting Before = Some Goes
hub_choice_at h waiting Live = option_or (option_map Moves (hub_move h)) (option_map EndsLoop (idle_reason h))
hub_choice_at h waiting LoopEnded = hooks_choice h waiting
hub_choice_at h waiting HooksAbandoned = Some Drains
hub_choice_at h waiting Drained = option_or (option_map Moves (hub_move h)) (finals_choice h)
hub_choice_at h waiting Final = None

abbrev pub hub_choice : Hub → ℕ → Option Event
hub_choice h waiting = hub_choice_at h waiting h.stage

-- BOTH
-- how many asynchronous hooks of the environment wait
abbrev pub waiting_hooks : Environment → ℕ
waiting_hooks e = count_waiting e.async_hooks

-- the hub decides only where the environment does not
abbrev pub choice : Machine → Option Event
choice m = option_or (local_choice m.env) (hub_choice m.hub (waiting_hooks m.env))
