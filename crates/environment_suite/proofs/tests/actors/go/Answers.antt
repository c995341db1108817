use Rattle.environment_suite.proofs.ThreadTests.{go-stands}
use Rattle.environment_suite.proofs.tests.actors.go.Goals as goal

pub returns : goal.returns
returns g c = go-stands g.N.Naming.numbers c.args.hub.now c.go.new.self c.args.thread.now c.requires.thread c.invariant.ensures c.requires.stands c.go.ensures
