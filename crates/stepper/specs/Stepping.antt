-- What all turns keep, what turns in an order lead to, and why they come to an end.
use Rattle.std.specs.Prelude.{◌≡◌, ◌≢◌, ◌⊎◌, ℕ, ◌+◌, ◌-◌, ◌*◌, ◌<◌, Bool, true, false, List, length, map, drop, set, slice_index_or, None, is_none}
use Rattle.std.specs.List.{All, AllZip}
use Rattle.napi_types.specs.declared.entry.Actor.{Actor}
use Rattle.napi_types.specs.declared.entry.Phase.TheVariants as phase
use Rattle.napi_types.specs.plain.Room.{one_if}
use Rattle.napi_types.specs.scripts.Plans.{Plan}
use Rattle.napi_types.specs.hub.Hub.{Final}
use Rattle.shared_hub.specs.declared.naming.Numbers.{Numbers}
use Rattle.shared_hub.specs.HubStates.{HubSeen}
use Rattle.shared_hub.specs.KeptHubs.{IsLedHub}
use Rattle.env_loop.specs.ActorTurns.{actor_of, is_over, IsActorOf, IsBlocked, IsSameActor, with_work_executed}
use Rattle.env_loop.specs.FollowedRuns.{FollowsOnAt}
use Rattle.env_loop.specs.HubTurns.{SpentAtFinals}
use Rattle.env_loop.specs.RecordedRuns.{Run, FitsHub}
use Rattle.env_loop.specs.declared.actor.ActorRun.{ActorRun}
use Rattle.env_loop.specs.declared.turn.LocalTurn.{LocalTurn}
use Rattle.env_loop.specs.declared.turn.LocalTurn.TheVariants as local
use Rattle.stepper.specs.TakingPart.{actors_of, round_of}
use Rattle.stepper.specs.GivenTurns.{RunAtHub, EnvironmentTurns, IsIdle, WasGone, ActorTurns, Moment, TurnsThrough}
use Rattle.stepper.specs.ListTurns.{LeadsLists}

-- HOW FAR IT IS FROM ITS END
-- the places of both lists that no entry has taken count two each, and one more counts that no end is pending. An entry takes a place and may pay an end; a
-- call that the hub stops comes to owe one
abbrev pub measure : Numbers → Run → HubSeen → ℕ
measure n run hub = 2 * ((run.core.limit - length run.core.journal) + (n.limits.history - length hub.history)) + one_if (is_none run.ending)

-- WHAT ALL TURNS KEEP
-- of the environment: it fits with the hub, and no call awaits its answer
pub record RunStands (m : RunAtHub) : Type 0 where
  pub fits : FitsHub m.run m.hub
  pub answered : m.run.core.awaited ≡ None

-- so many addons are the environment's, as before, its journal has the limit that it had, and the other addons keep their registers. Whatever run was
-- followed goes on
pub record RunKeeps (n : Numbers) (plans : List Plan) (old new : RunAtHub) : Type 0 where
  pub addons : new.run.core.env.addons ≡ old.run.core.env.addons
  pub limit : new.run.core.limit ≡ old.run.core.limit
  pub others : drop old.run.core.env.addons new.addons.registers ≡ drop old.run.core.env.addons old.addons.registers
  pub goes : FollowsOnAt n plans old.run old.hub.history old.addons new.run new.hub.history new.addons

-- a turn of the environment, by what its own turn came to: it was of one of the kinds, kept what all turns keep, and unless the environment was gone or idle
-- it came nearer to the end. Where it made its entry alone the hub is as it was
pub record EnvironmentSteps (n : Numbers) (plans : List Plan) (made : LocalTurn) (old new : RunAtHub) : Type 0 where
  pub led : IsLedHub n old.hub
  pub turn : EnvironmentTurns n plans old new
  pub stands : RunStands new
  pub kept : RunKeeps n plans old new
  pub spent : SpentAtFinals old.hub.hub new.hub.hub
  pub was : made ≡ local.Gone → WasGone old new
  pub falls : made ≢ local.Gone → (measure n new.run new.hub < measure n old.run old.hub) ⊎ IsIdle old new
  pub alone : made ≡ local.Made → (new.hub ≡ old.hub) × (measure n new.run new.hub < measure n old.run old.hub)

module _ {J : Type 0} where
  -- it has ended, or it waits, and it holds no work that is still to be executed: at this hub its turn changes nothing
  pub record RestsAt (n : Numbers) (hub : HubSeen) (a : ActorRun J) : Type 0 where
    pub still : (is_over a ≡ true) ⊎ IsBlocked n hub a
    pub executed : with_work_executed a ≡ a

  -- the actors are the hub's, in the order of a round, each with exactly the entries that it made; and all have ended once `finals` has come
  pub record ActorsStand (n : Numbers) (hub : HubSeen) (actors : List (ActorRun J)) : Type 0 where
    pub order : map actor_of actors ≡ actors_of n
    pub stands : All (IsActorOf n hub) actors
    pub ended : hub.hub.stage ≡ Final → All (λ a. is_over a ≡ true) actors

  pub record Stands (n : Numbers) (m : Moment J) : Type 0 where
    pub env : RunStands m.env
    pub actors : ActorsStand n m.env.hub m.actors

  -- the actor at a place made its turn, and is the same actor, and the hub's; and the others are as before. Where it made no entry it rests
  pub record ActorSteps (n : Numbers) (place : ℕ) (made : Bool) (old : List (ActorRun J)) (before : HubSeen) (new : List (ActorRun J)) (after : HubSeen)
      : Type 0 where
    pub actor : ActorRun J
    pub actors : new ≡ set old place actor
    pub turn : ActorTurns n (slice_index_or old place actor) before actor after
    pub stands : IsActorOf n after actor
    pub same : IsSameActor (slice_index_or old place actor) actor
    pub led : IsLedHub n before × IsLedHub n after
    pub rests : made ≡ false → (after ≡ before) × RestsAt n after actor

  -- TURNS IN AN ORDER
  -- these turns led from one moment to another, as the two lists show it, and kept what all turns keep
  pub record Steps (n : Numbers) (plans : List Plan) (order : List Actor) (old new : Moment J) : Type 0 where
    pub turns : TurnsThrough n plans order old new
    pub lists : LeadsLists n plans order old new
    pub stands : Stands n new
    pub same : AllZip IsSameActor old.actors new.actors
    pub kept : RunKeeps n plans old.env new.env

  -- a round, before which the environment was gone or was not. Unless it was gone each made its turn, and all came nearer to the end
  pub record RoundSteps (n : Numbers) (plans : List Plan) (gone : Bool) (old new : Moment J) : Type 0 where
    pub was : gone ≡ true → (old.env.run.core.env.phase ≡ phase.Gone) × (new ≡ old)
    pub steps : gone ≡ false → Steps n plans (round_of n) old new
    pub falls : gone ≡ false → measure n new.env.run new.env.hub < measure n old.env.run old.env.hub
