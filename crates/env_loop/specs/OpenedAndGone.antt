-- Where a run that is followed begins, and what it is at its end.
use Rattle.std.specs.Prelude.{◌≡◌, ℕ, ◌<◌, List, [], length}
use Rattle.napi_types.specs.declared.duties.DueInfo.{DueInfo}
use Rattle.napi_types.specs.declared.entry.Entry.{Entry}
use Rattle.napi_types.specs.declared.entry.Phase.TheVariants as phase
use Rattle.napi_types.specs.scripts.Plans.{Plan, registers_of}
use Rattle.napi_types.specs.scripts.Registers.{blank_registers}
use Rattle.napi_types.specs.hub.Replays.{HubReplays}
use Rattle.napi_types.specs.runs.Setting.{Setting, opens_with, opening_of}
use Rattle.env_core.specs.Core.{Core, opened_core}
use Rattle.napi_types.specs.declared.lists.Record.{Record}
use Rattle.env_loop.specs.FollowedRuns.{IsFollowed, HasNumbers}
use Rattle.shared_hub.specs.HubStates.{hub_seen}
use Rattle.shared_hub.specs.declared.naming.Numbers.{Numbers}
use Rattle.env_loop.specs.RecordedRuns.{Run, opened_run, IsOpened, FitsHub}
use Rattle.env_loop.specs.Recording.{AddonStates, IsEnded, IsOf}

-- the environment has opened, and no turn of it was made
pub record IsOpenedRun (run : Run) : Type 0 where
  pub opened : run ≡ opened_run run.core
  pub core : IsOpened run.core

-- such a run fits with a hub that opens
abbrev pub OpenedRunsFit : Type 0
OpenedRunsFit = (n : Numbers) (run : Run) → IsOpenedRun run → FitsHub run (hub_seen n [])

-- a run that opened with what a script's environment opens with, under its limit, is followed over the empty history, where its addons' registers are cleared
abbrev pub OpenedRunsAreFollowed : Type 0
OpenedRunsAreFollowed = (s : Setting) (core : Core) (all : AddonStates) → core ≡ opened_core (opens_with s) s.limits.journal
    → ((addon : ℕ) → addon < length s.plans → registers_of all.registers addon ≡ blank_registers)
    → IsFollowed s (opened_run core) [] all all.seen

-- a run that is followed and whose environment is gone came to its end, where the whole history replays at the hub
abbrev pub GoneRunsHaveEnded : Type 0
GoneRunsHaveEnded = (s : Setting) (run : Run) (history : List Entry) (all : AddonStates) (firsts : List (List DueInfo))
    → HubReplays s.limits.history (opening_of s).hub 0 history
    → IsFollowed s run history all firsts
    → run.core.env.phase ≡ phase.Gone
    → IsEnded s run.core.journal history all firsts

-- for every setting with these addons and whatever they saw first: where the run was followed from its opening, the two lists are those of a run that came to
-- its end
abbrev pub EndsWhole : Numbers → List Plan → Run → AddonStates → Record → AddonStates → Type 0
EndsWhole n plans first before left now =
    (s : Setting) (firsts : List (List DueInfo)) → HasNumbers s n → IsOf s plans first.core → IsFollowed s first [] before firsts
    → IsEnded s left.journal left.history now firsts
