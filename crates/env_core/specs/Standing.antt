-- The frames that stand, as the machine sees them.
use Rattle.std.specs.Prelude.{ℕ, ◌≤◌, List, length}
use Rattle.napi_types.specs.parts.Frames.{Frame, most_frames}
use Rattle.env_core.specs.declared.frames.StandingFrame.{StandingFrame}

-- a frame as the machine sees it
abbrev pub machine_frame : StandingFrame → Frame
machine_frame f = record { cause = f.cause; addon = f.addon; entry = f.entry; duty = f.duty; makes_asks = f.makes_asks; asks = f.asks }

-- no more frames stand than may, and the memory for all that may is there
pub record IsStanding (frames : List StandingFrame) (places : ℕ) : Type 0 where
  pub few : length frames ≤ most_frames
  pub fits : most_frames ≤ places
