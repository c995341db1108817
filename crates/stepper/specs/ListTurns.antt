-- The turns of a run as its two lists show them.
use Rattle.std.specs.Prelude.{◌≡◌, ℕ, List, [], ◌++◌, slice_get, Some, is_some}
use Rattle.std.specs.List.{All}
use Rattle.napi_types.specs.declared.duties.DueInfo.{DueInfo}
use Rattle.napi_types.specs.declared.entry.Actor.{Actor}
use Rattle.napi_types.specs.declared.lists.Record.{Record}
use Rattle.napi_types.specs.declared.op.Op.{Op}
use Rattle.napi_types.specs.scripts.Plans.{Plan}
use Rattle.napi_types.specs.runs.Setting.{Setting}
use Rattle.napi_types.specs.all_runs.TurnsInOrder.{BothLists, TurnsLead, AroseByTurns}
use Rattle.shared_hub.specs.declared.naming.Numbers.{Numbers}
use Rattle.env_loop.specs.declared.actor.ActorRun.{ActorRun}
use Rattle.env_loop.specs.declared.actor.ActorRun.TheVariants as run
use Rattle.env_loop.specs.FollowedRuns.{IsFollowed, HasNumbers}
use Rattle.env_loop.specs.RecordedRuns.{Run}
use Rattle.env_loop.specs.Recording.{AddonStates, IsOf}
use Rattle.stepper.specs.TakingPart.{turns_of, rounds_of}
use Rattle.stepper.specs.GivenTurns.{Moment}

module _ {J : Type 0} where
  -- what stands on the two lists at a moment, and whether the end of a frame is pending
  abbrev pub lists_at : Moment J → BothLists
  lists_at m = record { journal = m.env.run.core.journal; history = m.env.hub.history; stopped = is_some m.env.run.ending }

  -- a thread has the script of its number
  abbrev pub HasScript : List (List Op) → ActorRun J → Type 0
  HasScript scripts (run.OfThread t) = slice_get scripts t.number ≡ Some t.operations
  HasScript scripts (run.OfWorker w) = Unit {0}

  -- for every setting with these addons and threads, and whatever the addons saw first: a run that was followed went on by these turns, as its two lists show
  -- them
  abbrev pub LeadsLists : Numbers → List Plan → List Actor → Moment J → Moment J → Type 0
  LeadsLists n plans turns old new =
      (s : Setting) (scripts : List (List Op)) (firsts : List (List DueInfo)) → HasNumbers s n → IsOf s plans old.env.run.core
      → IsFollowed s old.env.run old.env.hub.history old.env.addons firsts → All (HasScript scripts) old.actors
      → TurnsLead s scripts turns (lists_at old) (lists_at new)

  -- so the two lists of a run that was followed from its opening arose by the turns of a schedule, and then by those of so many rounds
  abbrev pub AroseWhole : Numbers → List Plan → List Actor → Run → AddonStates → List (ActorRun J) → Record → Type 0
  AroseWhole n plans schedule first before actors left =
      (rounds : ℕ) × ((s : Setting) (scripts : List (List Op)) (firsts : List (List DueInfo)) → HasNumbers s n → IsOf s plans first.core
      → IsFollowed s first [] before firsts → All (HasScript scripts) actors
      → AroseByTurns s scripts (turns_of schedule ++ rounds_of n rounds) left.journal left.history)
