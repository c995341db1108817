use Rattle.runner.proofs.TakenTurns.{unstarted-is-at}
use Rattle.env_loop.proofs.SameActors.{same-actor-none}
use Rattle.runner.proofs.SameStrays.{same-pass-none}
use Rattle.runner.proofs.actor.run_actor.Goals as goal

pub loop-init : goal.loop-init
loop-init g c = (
  tt,
  tt,
  same-pass-none c.args.pass.now c.requires.free,
  same-actor-none c.args.actor,
  unstarted-is-at g.N.Naming.numbers c.args.pass.now c.args.actor c.requires.fresh,
)
