use Rattle.runner.proofs.SameStrays.{same-strays-none}
use Rattle.runner.proofs.environment.give_way.Goals as goal

pub returns-then-ne-clause-same : goal.returns-then-ne-clause-same
returns-then-ne-clause-same g c = same-strays-none g.N.Naming.numbers c.args.hub.now c.args.strays.now.items c.requires
