-- The events of the environment where no frame stands, and what it decides alone up to the end of the loop.
use Rattle.std.specs.Prelude.{ℕ, cond, nat_lt, Option, Some, None, option_map}
use Rattle.napi_types.specs.declared.entry.LoopEnd.{LoopEnd}
use Rattle.napi_types.specs.declared.entry.LoopEnd.TheVariants as loop_end
use Rattle.napi_types.specs.declared.entry.Phase.{Phase}
use Rattle.napi_types.specs.declared.entry.Phase.TheVariants as phase
use Rattle.napi_types.specs.environment.Environment.{Environment}
use Rattle.napi_types.specs.environment.Tickets.{ticket_in}
use Rattle.napi_types.specs.hub.HubMoves.{HubMove}

-- an event of the environment where no frame stands: the opening, the init frame of an addon, the frame of a ticket, a move of the hub, its great events, and the end
pub data Event : Type 0 where
  Opens : Event
  Inits : ℕ → Event
  Tickets : ℕ → Event
  Moves : HubMove → Event
  Goes : Event
  EndsLoop : LoopEnd → Event
  Abandons : Event
  Drains : Event
  FinalsCome : Event
  IsGone : Event

-- before the loop: first the opening, then the init frame of each addon in order
abbrev pub init_choice : Environment → Option Event
init_choice e = cond e.opened (cond (nat_lt e.inits e.addons) (Some (Inits e.inits)) None) (Some Opens)

-- the frame of the ticket that is next
abbrev pub ticket_choice : Environment → Phase → Option Event
ticket_choice e p = option_map Tickets (ticket_in e p)

-- in the loop, what the environment decides alone: the loop ends once exit was asked, whatever is due; until then this ticket begins
abbrev pub loop_choice : Environment → Option Event
loop_choice e = cond e.exit_asked (Some (EndsLoop loop_end.Exit)) (ticket_choice e phase.Live)
