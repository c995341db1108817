use Rattle.environment_suite.proofs.DrivenRuns.{actor-stands}
use Rattle.environment_suite.proofs.tests.driving.turn.Goals as goal

pub returns-in-NeedsHub-clause-actors : goal.returns-in-NeedsHub-clause-actors
returns-in-NeedsHub-clause-actors g c =
    actor-stands g.N.Naming.numbers c.hub_turn.result c.args.hub.now c.hub_turn.new.hub c.invariant.ensures c.hub_turn.ensures.made c.hub_turn.ensures.hub
