-- The phases of the environment in their order.
use Rattle.std.specs.Prelude.{Option, Some, None}
use Rattle.napi_types.specs.declared.entry.Phase.{Phase}
use Rattle.napi_types.specs.declared.entry.Phase.TheVariants as phase

-- the phases in their order
abbrev pub next_phase : Phase → Option Phase
next_phase phase.Init = Some phase.Live
next_phase phase.Live = Some phase.Hooks
next_phase phase.Hooks = Some phase.Drain
next_phase phase.Drain = Some phase.Finals
next_phase phase.Finals = Some phase.Gone
next_phase phase.Gone = None
