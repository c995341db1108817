-- The frames that stand: each runs one entry of one addon.
use Rattle.std.specs.Prelude.{ℕ, ◌+◌, ◌-◌, Bool, true, false, not, List, [], ◌∷◌, filter, Option, Some, None}
use Rattle.napi_types.specs.declared.duties.DueInfo.{DueInfo}
use Rattle.napi_types.specs.declared.entry.Cause.{Cause}
use Rattle.napi_types.specs.declared.entry.Cause.TheVariants as cause
use Rattle.napi_types.specs.declared.entry.Duty.{Duty}
use Rattle.napi_types.specs.declared.entry.Duty.TheVariants as duty
use Rattle.napi_types.specs.declared.entry.Out.{Out}
use Rattle.napi_types.specs.declared.entry.Out.TheVariants as out
use Rattle.napi_types.specs.plain.Lists.{first_changed}

-- a frame: why it began, which entry of which addon it runs, the duty that began it where one did, whether it makes asks, and how many it made; one that makes
-- none can only leave
pub record Frame : Type 0 where
  pub cause : Cause
  pub addon : ℕ
  pub entry : ℕ
  pub duty : Option Duty
  pub makes_asks : Bool
  pub asks : ℕ

-- a frame that no duty began, as it begins
abbrev pub frame_of : Cause → ℕ → ℕ → Frame
frame_of c addon entry = record { cause = c; addon = addon; entry = entry; duty = None; makes_asks = true; asks = 0 }

-- a frame that a duty began, as it begins
abbrev pub frame_of_duty : DueInfo → Frame
frame_of_duty d = record { cause = d.cause; addon = d.addon; entry = d.entry; duty = Some d.duty; makes_asks = d.runs; asks = 0 }

-- what the begin of a frame tells
abbrev pub begin_told : Frame → Out
begin_told f = out.Begin f.cause f.addon f.entry f.duty

-- how many frames may stand, the outermost counted
abbrev pub most_frames : ℕ
most_frames = 64

-- how many asks a frame may make
abbrev pub most_asks : ℕ
most_asks = 65536

-- the addon of the innermost frame, which makes the calls
abbrev pub caller_of : List Frame → ℕ
caller_of [] = 0
caller_of (f ∷ fs) = f.addon

-- why the innermost frame began
abbrev pub cause_of : List Frame → Cause
cause_of [] = cause.Init
cause_of (f ∷ fs) = f.cause

-- the duty that began the innermost frame, where one did
abbrev pub duty_of : List Frame → Option Duty
duty_of [] = None
duty_of (f ∷ fs) = f.duty

-- the ticket of a duty, where it is that of one
abbrev pub ticket_of : Option Duty → Option ℕ
ticket_of (Some (duty.Ticket t)) = Some t.0
ticket_of _ = None

-- whether a duty is there that is the hub's: that of a work, an item or a thread-safe function
abbrev pub is_hub_duty : Option Duty → Bool
is_hub_duty None = false
is_hub_duty (Some (duty.Ticket t)) = false
is_hub_duty (Some _) = true

-- the frames whose end stands in the journal: all that no duty of the hub began
abbrev pub local_frames : List Frame → List Frame
local_frames fs = filter (λ f. not (is_hub_duty f.duty)) fs

-- whether the innermost frame makes asks
abbrev pub is_asking : List Frame → Bool
is_asking [] = false
is_asking (f ∷ fs) = f.makes_asks

-- how many asks the innermost frame made
abbrev pub asks_made : List Frame → ℕ
asks_made [] = 0
asks_made (f ∷ fs) = f.asks

-- the innermost frame made one ask more
abbrev pub ask_counted : List Frame → List Frame
ask_counted fs = first_changed (λ f. record f { asks = f.asks + 1 }) fs

-- the innermost frame as it made its last ask
abbrev pub at_last_ask : List Frame → List Frame
at_last_ask fs = first_changed (λ f. record f { asks = f.asks - 1 }) fs
