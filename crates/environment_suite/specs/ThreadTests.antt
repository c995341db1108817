-- The run of an actor that is a thread's.
use Rattle.env_loop.specs.declared.actor.ActorRun.{ActorRun}
use Rattle.env_loop.specs.declared.actor.ActorRun.TheVariants as run

module _ {J : Type 0} where
  abbrev pub IsOfThread : ActorRun J → Type 0
  IsOfThread (run.OfThread t) = Unit {0}
  IsOfThread (run.OfWorker w) = ⊥
