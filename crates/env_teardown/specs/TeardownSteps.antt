-- The steps of the teardown.
use Rattle.std.specs.Prelude.{◌≡◌, ℕ, Bool, true, false, cond, length, Option, Some, None}
use Rattle.napi_types.specs.declared.duties.DueInfo.{DueInfo}
use Rattle.napi_types.specs.declared.entry.HostStep.TheVariants as host
use Rattle.napi_types.specs.declared.entry.Out.TheVariants as out
use Rattle.napi_types.specs.declared.entry.Phase.{Phase}
use Rattle.napi_types.specs.declared.entry.Phase.TheVariants as phase
use Rattle.napi_types.specs.plain.Entries.{host_entry}
use Rattle.napi_types.specs.hub.Hub.{Hub}
use Rattle.napi_types.specs.hub.HubEvents.{delivery_entry}
use Rattle.napi_types.specs.hub.HubMoves.{Delivers, Closes, Finishes}
use Rattle.napi_types.specs.runs.Choice.{hub_choice}
use Rattle.napi_types.specs.runs.Loop.{Event, Moves, Abandons, Drains, FinalsCome}
use Rattle.shared_hub.specs.HubStates.{HubSeen, AddsEntry}
use Rattle.env_teardown.specs.declared.step.TearStep.{TearStep}
use Rattle.env_teardown.specs.declared.step.TearStep.TheVariants as tear

-- the phases from the end of the loop up to `gone`
abbrev pub is_in_teardown : Phase → Bool
is_in_teardown phase.Hooks = true
is_in_teardown phase.Drain = true
is_in_teardown phase.Finals = true
is_in_teardown _ = false

-- the environment's turn is next, by the phase and by whether a ticket is next: in Hooks while one is, in Drain never, and in Finals always
abbrev pub is_local_turn : Phase → Bool → Bool
is_local_turn phase.Hooks local = local
is_local_turn phase.Drain local = false
is_local_turn _ local = true

-- the event that a step makes of the hub: the one that it chooses where so many hooks wait, and the environment's turn is not next
abbrev pub tear_event : Phase → Bool → ℕ → Hub → Option Event
tear_event p local waiting h = cond (is_local_turn p local) None (hub_choice h waiting)

-- the phase after the event: `drain` and `finals` start the one that is called so
abbrev pub phase_after : Option Event → Phase → Phase
phase_after (Some Drains) p = phase.Drain
phase_after (Some FinalsCome) p = phase.Finals
phase_after _ p = p

-- the event adds its entry to the history; `abandon` tells how many hooks wait
abbrev pub AddsEvent : ℕ → HubSeen → Event → HubSeen → Type 0
AddsEvent waiting old (Moves (Delivers d)) new = AddsEntry old (delivery_entry d) new
AddsEvent waiting old (Moves (Closes n)) new = AddsEntry old (host_entry host.CloseTsfn (out.Function (record { 0 = n }))) new
AddsEvent waiting old (Moves (Finishes n)) new = AddsEntry old (host_entry host.FinishTsfn (out.Function (record { 0 = n }))) new
AddsEvent waiting old Abandons new = AddsEntry old (host_entry host.Abandon (out.Unsigned waiting)) new
AddsEvent waiting old Drains new = AddsEntry old (host_entry host.Drain (out.Unsigned (length old.hub.pool.queued))) new
AddsEvent waiting old FinalsCome new = AddsEntry old (host_entry host.Finals out.Nothing) new
AddsEvent waiting old _ new = ⊥

module _ {J : Type 0} where
  -- what the step of an event comes to: the frame of a duty begins, or else it has moved
  abbrev pub IsStepOf : Event → TearStep J → Type 0
  IsStepOf (Moves (Delivers d)) (tear.Begin due job) = due ≡ d
  IsStepOf (Moves (Delivers d)) _ = ⊥
  IsStepOf _ t = t ≡ tear.Moved

  -- a fact of what a duty tells and of the job that is handed out with it, where its frame begins
  abbrev pub IfBegins : TearStep J → (DueInfo → Option J → Type 0) → Type 0
  IfBegins (tear.Begin due job) P = P due job
  IfBegins _ P = Unit {0}
