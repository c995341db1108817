-- A run that is recorded with what is pending, over the prefix of the history that the environment has seen, while others went on behind it.
use Rattle.std.specs.Prelude.{◌≡◌, ◌&&◌, true, false, List, ◌++◌, length, Option, None, IfSome, IsTrue}
use Rattle.std.specs.List.{All}
use Rattle.napi_types.specs.declared.call.Ask.{Ask}
use Rattle.napi_types.specs.declared.call.Ask.TheVariants as ask
use Rattle.napi_types.specs.declared.duties.DueInfo.{DueInfo}
use Rattle.napi_types.specs.declared.entry.Entry.{Entry}
use Rattle.napi_types.specs.declared.entry.Out.TheVariants as out
use Rattle.napi_types.specs.declared.entry.Why.{Why}
use Rattle.napi_types.specs.declared.ids.HandleId.{HandleId}
use Rattle.napi_types.specs.plain.Entries.{is_environment}
use Rattle.napi_types.specs.parts.Frames.{Frame, duty_of, is_hub_duty}
use Rattle.napi_types.specs.scripts.Plans.{Plan, Registers}
use Rattle.napi_types.specs.environment.Changes.{may_ask}
use Rattle.napi_types.specs.hub.HubSteps.{hub_along}
use Rattle.napi_types.specs.hub.Replays.{HubReplays}
use Rattle.napi_types.specs.runs.InPlace.{asks_hub, is_stopped}
use Rattle.napi_types.specs.runs.Machine.{Machine}
use Rattle.napi_types.specs.runs.Plan.{frames_ask}
use Rattle.napi_types.specs.runs.Setting.{Setting, opening_of}
use Rattle.napi_types.specs.runs.Step.{may_cut}
use Rattle.shared_hub.specs.HubStates.{HubSeen, AddsEntry}
use Rattle.shared_hub.specs.declared.naming.Numbers.{Numbers}
use Rattle.env_loop.specs.declared.run.FrameEnd.{FrameEnd}
use Rattle.env_loop.specs.declared.run.FrameEnd.TheVariants as end
use Rattle.env_loop.specs.Recording.{AddonStates, machine_of, IsOf, IsRecorded, IsBehindOwn}
use Rattle.env_loop.specs.RecordedRuns.{Run, FitsHub}

-- WHAT IS PENDING
-- the innermost frame asks this, by the plans and from these registers
abbrev pub Asks : Setting → Registers → List Frame → Ask → Type 0
Asks s rss fs a = a ≡ frames_ask s.plans rss fs a

-- the call stopped at the hub, and its frame is to be cut so
abbrev pub StoppedAtHub : Ask → Why → Type 0
StoppedAtHub a w = IsTrue (asks_hub a && is_stopped (out.Cut w))

-- the innermost frame may end so on the machine: it leaves, or it may be cut at what it asks. Where it is no frame of the hub's it was stopped there
abbrev pub MayEndSo : Setting → Registers → Machine → FrameEnd → Type 0
MayEndSo s rss m end.Leaves = (v : Option HandleId) × Asks s rss m.env.frames (ask.Leave v) × (may_ask m.env ≡ true)
MayEndSo s rss m (end.Cut w) =
    (a : Ask) × Asks s rss m.env.frames a × (may_cut m a w ≡ true) × (is_hub_duty (duty_of m.env.frames) ≡ false → StoppedAtHub a w)

-- the call that is awaited is what the innermost frame asks, and the frame may end as is pending
pub record PendingIsAsked (s : Setting) (rss : Registers) (m : Machine) (run : Run) : Type 0 where
  pub call : IfSome run.core.awaited (λ c. Asks s rss m.env.frames (ask.Do c.call))
  pub end : IfSome run.ending (MayEndSo s rss m)

-- THE RUN OVER A HISTORY
-- the run is recorded over this history, which has led to this hub, with what is pending
pub record IsRecordedWithPending (s : Setting) (run : Run) (history : List Entry) (all : AddonStates) (firsts : List (List DueInfo)) : Type 0 where
  pub recorded : IsRecorded s run.core (hub_along (opening_of s).hub history) history all firsts
  pub owed : PendingIsAsked s all.registers (machine_of s.limits run.core (hub_along (opening_of s).hub history) history) run

-- it is recorded over a prefix of the history, and behind it are others' entries alone. The environment made the last entry of that prefix, unless an end is
-- pending
pub record IsFollowed (s : Setting) (run : Run) (history : List Entry) (all : AddonStates) (firsts : List (List DueInfo)) : Type 0 where
  pub prefix : List Entry
  pub rest : List Entry
  pub history_is : history ≡ prefix ++ rest
  pub others : All (λ x. is_environment x.actor ≡ false) rest
  pub joined : IsRecordedWithPending s run prefix all firsts
  pub own : run.ending ≡ None → IsBehindOwn run.core prefix

-- AS OTHERS GO ON
-- the run as it has taken in this history
abbrev pub taken_in : List Entry → Run → Run
taken_in history run = record run { core = record run.core { position = length history } }

-- where the whole history replays at the hub, the run is recorded over all of it, with what is pending; only the position moves
abbrev pub OthersAreTakenIn : Type 0
OthersAreTakenIn = (s : Setting) (run : Run) (history : List Entry) (all : AddonStates) (firsts : List (List DueInfo))
    → HubReplays s.limits.history (opening_of s).hub 0 history
    → IsFollowed s run history all firsts
    → IsRecordedWithPending s (taken_in history run) history all firsts

-- others may add entries at any time
abbrev pub OthersMayAdd : Type 0
OthersMayAdd = (s : Setting) (run : Run) (history rest : List Entry) (all : AddonStates) (firsts : List (List DueInfo)) → IsFollowed s run history all firsts
    → All (λ x. is_environment x.actor ≡ false) rest → IsFollowed s run (history ++ rest) all firsts

-- a run fits with its hub still once another actor has added an entry
abbrev pub FittingRunsStand : Type 0
FittingRunsStand = (run : Run) (before after : HubSeen) (x : Entry) → FitsHub run before → is_environment x.actor ≡ false → AddsEntry before x after
    → FitsHub run after

-- TURNS
-- for every setting with these addons and whatever they saw first: a run that is followed before the turn is followed after it
abbrev pub FollowsOn : List Plan → Run → List Entry → AddonStates → Run → List Entry → AddonStates → Type 0
FollowsOn plans old before all new after now =
    (s : Setting) (firsts : List (List DueInfo)) → IsOf s plans old.core → IsFollowed s old before all firsts → IsFollowed s new after now firsts

-- the script has so many threads and workers, and the history this limit
pub record HasNumbers (s : Setting) (n : Numbers) : Type 0 where
  pub threads : s.threads ≡ n.threads
  pub workers : s.workers ≡ n.workers
  pub limit : s.limits.history ≡ n.limits.history

-- the same, for settings with these numbers of threads, workers and places
abbrev pub FollowsOnAt : Numbers → List Plan → Run → List Entry → AddonStates → Run → List Entry → AddonStates → Type 0
FollowsOnAt n plans old before all new after now =
    (s : Setting) (firsts : List (List DueInfo)) → HasNumbers s n → IsOf s plans old.core → IsFollowed s old before all firsts → IsFollowed s new after now firsts
