-- What the runs of actors and of the environment keep as rows come that others made, by the rows that the turn lock counts.
use Rattle.std.specs.Prelude.{◌≡◌, ◌≢◌, ℕ, List, ◌++◌}
use Rattle.std.specs.List.{All}
use Rattle.napi_types.specs.declared.duties.DueInfo.{DueInfo}
use Rattle.napi_types.specs.declared.entry.Actor.{Actor}
use Rattle.napi_types.specs.declared.entry.Actor.TheVariants as actor
use Rattle.napi_types.specs.declared.entry.Entry.{Entry}
use Rattle.napi_types.specs.hub.HistoryLaws.{LeadsTo}
use Rattle.napi_types.specs.runs.Setting.{Setting}
use Rattle.shared_hub.specs.HubRows.{pass_of, rows_of}
use Rattle.shared_hub.specs.HubStates.{HubSeen}
use Rattle.shared_hub.specs.declared.naming.Numbers.{Numbers}
use Rattle.env_loop.specs.ActorRuns.{ThreadSeen, IsThreadOf, WorkerSeen, IsWorkerOf}
use Rattle.env_loop.specs.ActorTurns.{actor_of, IsActorOf}
use Rattle.env_loop.specs.FollowedRuns.{IsFollowed}
use Rattle.env_loop.specs.RecordedRuns.{Run, FitsHub}
use Rattle.env_loop.specs.Recording.{AddonStates}
use Rattle.env_loop.specs.declared.actor.ActorRun.{ActorRun}

-- the history that is seen of a hub replays, and has led to the hub
abbrev pub IsReplayed : Numbers → HubSeen → Type 0
IsReplayed n s = LeadsTo n.limits.history n.threads n.workers s.history s.hub

-- behind these entries came others, whose rows are of other passes than this one
pub record OthersCame (threads pass : ℕ) (before after : List Entry) : Type 0 where
  pub rest : List Entry
  pub goes_on : after ≡ before ++ rest
  pub others : All (λ r. r.pass ≢ pass) (rows_of threads rest)

-- rows of other passes leave the run of a thread one of the hub's, ..
abbrev pub ThreadRunsStandOverRows : Type 0
ThreadRunsStandOverRows = (n : Numbers) (s new : HubSeen) (t : ThreadSeen) → IsReplayed n s → IsReplayed n new → IsThreadOf n s t
    → OthersCame n.threads (pass_of n.threads (actor.Thread t.number)) s.history new.history → IsThreadOf n new t

-- .. and a worker's
abbrev pub WorkerRunsStandOverRows : Type 0
WorkerRunsStandOverRows = (n : Numbers) (s new : HubSeen) (w : WorkerSeen) → IsReplayed n s → IsReplayed n new → IsWorkerOf n s w
    → OthersCame n.threads (pass_of n.threads (actor.Worker w.number)) s.history new.history → IsWorkerOf n new w

-- the same of an actor
abbrev pub ActorRunsStandOverRows : Type 0 → Type 0
ActorRunsStandOverRows J = (n : Numbers) (s new : HubSeen) (a : ActorRun J) → IsReplayed n s → IsReplayed n new → IsActorOf n s a
    → OthersCame n.threads (pass_of n.threads (actor_of a)) s.history new.history → IsActorOf n new a

-- rows of other passes than the environment's leave its run followed
abbrev pub RunsAreFollowedOverRows : Type 0
RunsAreFollowedOverRows = (s : Setting) (run : Run) (threads : ℕ) (before after : List Entry) (all : AddonStates) (firsts : List (List DueInfo))
    → IsFollowed s run before all firsts → OthersCame threads (pass_of threads actor.Env) before after → IsFollowed s run after all firsts

-- and they leave it fitting with the hub
abbrev pub FittingRunsStandOverRows : Type 0
FittingRunsStandOverRows = (n : Numbers) (run : Run) (s new : HubSeen) → IsReplayed n s → IsReplayed n new → FitsHub run s
    → OthersCame n.threads (pass_of n.threads actor.Env) s.history new.history → FitsHub run new
