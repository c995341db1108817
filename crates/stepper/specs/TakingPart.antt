-- Who takes part: the environment, the threads and the workers, in the order of a round.
use Rattle.std.specs.Prelude.{ℕ, zero, suc, ◌+◌, Bool, true, false, List, [], ◌∷◌, ◌++◌}
use Rattle.napi_types.specs.declared.entry.Actor.{Actor}
use Rattle.napi_types.specs.declared.entry.Actor.TheVariants as actor
use Rattle.shared_hub.specs.declared.naming.Numbers.{Numbers}
pub use Rattle.env_loop.specs.ActorTurns.{actors_of}
use Rattle.env_loop.specs.declared.actor.ActorRun.{ActorRun}
use Rattle.env_loop.specs.declared.actor.ActorRun.TheVariants as run

-- THE ORDER
-- the turns of a round: the environment's comes first
abbrev pub round_of : Numbers → List Actor
round_of n = actor.Env ∷ actors_of n

-- the turns of so many rounds
abbrev pub rounds_of : Numbers → ℕ → List Actor
rounds_of n zero = []
rounds_of n (suc count) = round_of n ++ rounds_of n count

-- the turns of a schedule: the first one of the environment is its opening, at which it does nothing more
abbrev pub turns_of : List Actor → List Actor
turns_of [] = []
turns_of (actor.Env ∷ later) = later
turns_of (who ∷ later) = who ∷ turns_of later

-- the place of an actor among the threads and workers
abbrev pub actor_place : ℕ → Actor → ℕ
actor_place threads actor.Env = 0
actor_place threads (actor.Thread t) = t
actor_place threads (actor.Worker w) = threads + w

module _ {J : Type 0} where
  abbrev pub is_thread_run : ActorRun J → Bool
  is_thread_run (run.OfThread t) = true
  is_thread_run (run.OfWorker w) = false
