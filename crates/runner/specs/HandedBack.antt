-- Actors before their first turns, and what their threads hand back.
use Rattle.std.specs.Prelude.{◌≡◌, false}
use Rattle.turn_lock.specs.Passes.{TurnState}
use Rattle.shared_hub.specs.declared.naming.Numbers.{Numbers}
use Rattle.hub_lock.specs.SeenTurns.{SamePass}
use Rattle.env_loop.specs.ActorTurns.{unstarted_run}
use Rattle.runner.specs.declared.unstarted.HandedBack.{HandedBack}
use Rattle.runner.specs.declared.unstarted.HandedBack.TheVariants as back
use Rattle.runner.specs.declared.unstarted.Unstarted.{Unstarted}
use Rattle.runner.specs.AtPasses.{IsUnstartedAtPass, HasEndedAt}

-- an actor before its first turn, with its pass of this lock
pub record IsUnstartedAt (J : Type 0) (n : Numbers) (h : TurnState) (w : Unstarted) : Type 0 where
  pub lock : w.pass.lock ≡ h.lock
  pub free : w.pass.holds ≡ false
  pub fresh : IsUnstartedAtPass n w.pass (unstarted_run {J = J} w.actor)

-- the pass that comes back is the one that was given, and the actor has ended; or both come back as they were
abbrev pub KeepsActor : Type 0 → Numbers → Unstarted → HandedBack → Type 0
KeepsActor J n given (back.Ran p) = SamePass given.pass p × HasEndedAt n p (unstarted_run {J = J} given.actor)
KeepsActor J n given (back.Unused w) = w ≡ given
