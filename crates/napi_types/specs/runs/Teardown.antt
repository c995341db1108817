-- The events of the environment's own after the loop, where no frame stands.
use Rattle.std.specs.Option.{option_or}
use Rattle.std.specs.Prelude.{Option, Some, None}
use Rattle.napi_types.specs.declared.entry.Phase.{Phase}
use Rattle.napi_types.specs.declared.entry.Phase.TheVariants as phase
use Rattle.napi_types.specs.environment.Environment.{Environment}
use Rattle.napi_types.specs.runs.Loop.{Event, IsGone, ticket_choice}

-- in Hooks the hooks begin; after `finals` the tickets that are due, and where none is the environment is gone. Nothing comes after that
abbrev pub teardown_choice : Environment → Phase → Option Event
teardown_choice e phase.Hooks = ticket_choice e phase.Hooks
teardown_choice e phase.Finals = option_or (ticket_choice e phase.Finals) (Some IsGone)
teardown_choice e _ = None
