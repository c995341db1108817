-- The same actor at different moments.
use Rattle.std.proofs.Common.{◌∙◌, refl}
use Rattle.env_loop.specs.ActorTurns.{IsSameActor}
use Rattle.env_loop.specs.declared.actor.ActorRun.{ActorRun}
use Rattle.env_loop.specs.declared.actor.ActorRun.TheVariants as run

module _ {J : Type 0} where
  pub same-actor-none : (a : ActorRun J) → IsSameActor a a
  same-actor-none (run.OfThread t) = record { number = refl; operations = refl }
  same-actor-none (run.OfWorker w) = refl

  pub same-actor-then : (a b c : ActorRun J) → IsSameActor a b → IsSameActor b c → IsSameActor a c
  same-actor-then (run.OfThread s) (run.OfThread t) (run.OfThread u) x y = record { number = y.number ∙ x.number; operations = y.operations ∙ x.operations }
  same-actor-then (run.OfWorker s) (run.OfWorker t) (run.OfWorker u) x y = y ∙ x
  same-actor-then (run.OfThread s) (run.OfThread t) (run.OfWorker u) x y = absurd y
  same-actor-then (run.OfThread s) (run.OfWorker t) c x y = absurd x
  same-actor-then (run.OfWorker s) (run.OfThread t) c x y = absurd x
  same-actor-then (run.OfWorker s) (run.OfWorker t) (run.OfThread u) x y = absurd y
