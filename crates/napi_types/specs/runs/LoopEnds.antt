-- Why the loop ends: the machine's choice and the hub's word say the same.
use Rattle.std.specs.Option.{option_or}
use Rattle.std.specs.Prelude.{◌≡◌, ℕ, cond, is_some, Option, Some, None, option_map}
use Rattle.napi_types.specs.declared.entry.LoopEnd.{LoopEnd}
use Rattle.napi_types.specs.declared.entry.LoopEnd.TheVariants as loop_end
use Rattle.napi_types.specs.declared.entry.Phase.TheVariants as phase
use Rattle.napi_types.specs.environment.Tickets.{ticket_in}
use Rattle.napi_types.specs.hub.Hub.{Hub, Live}
use Rattle.napi_types.specs.hub.HubMoves.{hub_move, is_idle, is_quiet, loop_end_of}
use Rattle.napi_types.specs.runs.Choice.{hub_choice_at, choice}
use Rattle.napi_types.specs.runs.Loop.{Event, Moves, EndsLoop}
use Rattle.napi_types.specs.runs.Machine.{Machine}

-- why the loop ends at this event, where it does
abbrev pub loop_end_told : Option Event → Option LoopEnd
loop_end_told (Some (EndsLoop w)) = Some w
loop_end_told _ = None

-- in the loop the event that the machine chooses ends it for the reason that the hub's word gives, and where that gives none no event ends it
abbrev pub LoopsEndForTheReason : Type 0
LoopsEndForTheReason = (m : Machine) → m.env.phase ≡ phase.Live → m.hub.stage ≡ Live
    → loop_end_told (choice m) ≡ loop_end_of m.env.exit_asked (is_some (ticket_in m.env phase.Live)) m.hub

-- where the hub has no move the loop ends idle, or else quiet
abbrev pub LoopsEndIdleOrQuiet : Type 0
LoopsEndIdleOrQuiet = (h : Hub) (waiting : ℕ) → hub_choice_at h waiting Live
    ≡ option_or (option_map Moves (hub_move h)) (cond (is_idle h) (Some (EndsLoop loop_end.Idle)) (cond (is_quiet h) (Some (EndsLoop loop_end.Quiet)) None))
