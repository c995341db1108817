-- A running environment: its core, the duty whose frame stands, and the end of a frame that is pending; and how it fits with the hub beside it.
use Rattle.std.specs.Prelude.{◌≡◌, ◌≢◌, ◌<◌, ◌≤◌, Bool, true, cond, ◌&&◌, ◌||◌, List, [], ◌∷◌, ◌++◌, length, Option, Some, None, is_some, option_map, IfSome}
use Rattle.std.specs.List.{All}
use Rattle.std.specs.Option.{option_to_list}
use Rattle.napi_types.specs.declared.duties.DueInfo.{DueInfo}
use Rattle.napi_types.specs.declared.entry.Cause.TheVariants as cause
use Rattle.napi_types.specs.declared.entry.Local.{Local}
use Rattle.napi_types.specs.declared.entry.Phase.TheVariants as phase
use Rattle.napi_types.specs.declared.entry.SharedCall.{SharedCall}
use Rattle.napi_types.specs.declared.entry.Why.{Why}
use Rattle.napi_types.specs.declared.entry.Why.TheVariants as why
use Rattle.napi_types.specs.plain.Guards.{is_shared}
use Rattle.napi_types.specs.parts.Duties.{duties_of, AreNested}
use Rattle.napi_types.specs.parts.Frames.{Frame, asks_made, duty_of, is_hub_duty, most_asks}
use Rattle.napi_types.specs.environment.Asks.{AsksWithin}
use Rattle.napi_types.specs.environment.Environment.{Environment, opened_with}
use Rattle.napi_types.specs.environment.Hooked.{IsHooked}
use Rattle.napi_types.specs.environment.Owners.{IsOwned}
use Rattle.napi_types.specs.environment.SharedCalls.{shared_call_of}
use Rattle.napi_types.specs.hub.Hub.{IsStageOf}
use Rattle.napi_types.specs.hub.HubOwners.{IsOwnedHub}
use Rattle.env_core.specs.Core.{Core, opened_core}
use Rattle.shared_hub.specs.HubStates.{HubSeen}
use Rattle.env_loop.specs.declared.run.FrameEnd.{FrameEnd}
use Rattle.env_loop.specs.declared.run.FrameEnd.TheVariants as end

-- THE RUN
-- the environment with its journal; what the duty told whose frame stands, where one does; and how the innermost frame is to end, where that is pending
pub record Run : Type 0 where
  pub core : Core
  pub begun : Option DueInfo
  pub ending : Option FrameEnd

-- a run of which no turn was made: the environment has opened
abbrev pub opened_run : Core → Run
opened_run core = record { core = core; begun = None; ending = None }

-- a core as it opens
abbrev pub IsOpened : Core → Type 0
IsOpened core = core ≡ opened_core (opened_with core.env) core.limit

-- why a frame is cut that ends so, where it is
abbrev pub cut_at : FrameEnd → Option Why
cut_at end.Leaves = None
cut_at (end.Cut w) = Some w

-- the hub is to answer a call, or to make the end of the frame of one of its duties
abbrev pub pending_at_hub : Run → Bool
pending_at_hub run = is_some run.core.awaited || (is_some run.ending && is_hub_duty (duty_of run.core.env.frames))

-- WHAT A RUN KEEPS
-- what the frames of a run keep: each runs an addon of the script and makes no more asks than it may, a frame that a duty began is the outermost one, and no
-- call begins the frame of a ticket; each function and each ticket belongs to an addon of the script, each hook is registered up to `finals`, and no frame
-- stands once the environment is gone
pub record IsSoundEnvironment (e : Environment) : Type 0 where
  pub opened : e.opened ≡ true
  pub owned : IsOwned e.addons e
  pub asks : AsksWithin e
  pub nested : AreNested e.frames
  pub uncalled : All (λ r. r.cause ≢ cause.Call) e.book
  pub hooked : IsHooked e
  pub gone : e.phase ≡ phase.Gone → e.frames ≡ []

-- the duty that began one of these frames is the one that has begun and has not ended, if there is one
abbrev pub HoldsDuty : List Frame → Option DueInfo → Type 0
HoldsDuty fs begun = duties_of fs ≡ option_to_list (option_map (λ d. d.duty) begun)

-- a call that is awaited is a shared one of the innermost frame, handed over as it stands there
pub record IsAwaited (e : Environment) (c : SharedCall) : Type 0 where
  pub stands : e.frames ≢ []
  pub within : asks_made e.frames < most_asks
  pub shared : is_shared c.call ≡ true
  pub handed : c ≡ shared_call_of e c.call

-- an end is pending, of a frame that stands. One that leaves is the frame of a duty of the hub, and one is cut for its asks after the last of them
pub record IsPendingEnd (e : Environment) (how : FrameEnd) : Type 0 where
  pub stands : e.frames ≢ []
  pub leaves : how ≡ end.Leaves → is_hub_duty (duty_of e.frames) ≡ true
  pub asks : how ≡ end.Cut why.Asks → asks_made e.frames ≡ most_asks

-- what a run keeps: besides, the duty of its frames is the one that it holds, and a call is pending, or an end, or neither
pub record IsRunning (core : Core) (begun : Option DueInfo) (ending : Option FrameEnd) : Type 0 where
  pub sound : IsSoundEnvironment core.env
  pub held : HoldsDuty core.env.frames begun
  pub awaited : IfSome core.awaited (IsAwaited core.env)
  pub ends : IfSome ending (IsPendingEnd core.env)
  pub one : core.awaited ≢ None → ending ≡ None

-- THE HUB BESIDE IT
-- the duty that has begun, where it is one of the hub
abbrev pub hub_begun : Option DueInfo → Option DueInfo
hub_begun None = None
hub_begun (Some d) = cond (is_hub_duty (Some d.duty)) (Some d) None

-- a run and a hub that fit together: how far they are, the duty whose frame stands, that works and functions are of the script's addons, and that the run has
-- seen no more than there is
pub record FitsHub (run : Run) (seen : HubSeen) : Type 0 where
  pub stage : IsStageOf run.core.env.phase seen.hub.stage
  pub standing : seen.hub.standing ≡ hub_begun run.begun
  pub owned : IsOwnedHub run.core.env.addons seen.hub
  pub noted : run.core.position ≤ length seen.history

-- the second list has one entry more at its end
pub record OneMore (old new : List Local) : Type 0 where
  pub entry : Local
  pub last : new ≡ old ++ entry ∷ []
