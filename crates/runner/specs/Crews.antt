-- All actors of a run but the environment, and what is left of their run on threads.
use Rattle.std.specs.Prelude.{◌≡◌, ℕ, ◌+◌, ◌≤◌, List, [], length, map, vec_capacity}
use Rattle.napi_types.specs.declared.entry.Phase.TheVariants as phase
use Rattle.napi_types.specs.scripts.Plans.{Plan}
use Rattle.turn_lock.specs.Passes.{PassState, TurnState}
use Rattle.shared_hub.specs.declared.naming.Numbers.{Numbers}
use Rattle.env_loop.specs.ActorTurns.{unstarted_run}
use Rattle.env_loop.specs.RecordedRuns.{Run}
use Rattle.env_loop.specs.Recording.{AddonStates}
use Rattle.env_loop.specs.declared.actor.ActorRun.{ActorRun}
use Rattle.runner.specs.declared.start_room.StartRoom.{StartRoom}
use Rattle.runner.specs.declared.unstarted.Unstarted.{Unstarted}
use Rattle.runner.specs.Environments.{HasFollowedOnAtPass, OfFirst}
use Rattle.runner.specs.StartRoom.{IsNumberedPass, AreUnstarted, AreAllBack}

-- the runs of actors that wait
abbrev pub runs_of : (J : Type 0) → List Unstarted → List (ActorRun J)
runs_of J crew = map (λ w. unstarted_run w.actor) crew

-- the environment's pass of this lock, before its first turn, and all other actors with theirs
pub record IsCrew (J : Type 0) (n : Numbers) (h : TurnState) (first : PassState) (crew : List Unstarted) : Type 0 where
  pub all : h.passes ≡ 1 + length crew
  pub numbered : IsNumberedPass h 0 first
  pub unseen : first.own ≡ []
  pub unstarted : AreUnstarted J n h 1 crew

-- room for what becomes of so many starts, and for their passes beside the environment's
pub record HasStartRoom {J N : Type 0} (len : ℕ) (p : StartRoom J N) : Type 0 where
  pub children : len ≤ vec_capacity p.children
  pub strays : len ≤ vec_capacity p.strays
  pub passes : 1 + len ≤ vec_capacity p.passes

-- a crew that has all that its run on threads takes: so many words, one for each actor, and room
pub record IsEquipped {J N : Type 0} (n : Numbers) (h : TurnState) (first : PassState) (crew : List Unstarted) (count : ℕ) (p : StartRoom J N) : Type 0 where
  pub members : IsCrew J n h first crew
  pub words : count ≡ length crew
  pub room : HasStartRoom (length crew) p

-- the environment is gone, all other actors have ended, and all passes came back
pub record IsLeft (J : Type 0) (n : Numbers) (h : TurnState) (crew : List Unstarted) (plans : List Plan) (opened : Run) (before : AddonStates) (env : Run)
    (passes : List PassState) (after : AddonStates) : Type 0 where
  pub gone : env.core.env.phase ≡ phase.Gone
  pub back : AreAllBack n h (runs_of J crew) passes
  pub ran : OfFirst passes (λ p. HasFollowedOnAtPass n plans opened before p env after)
