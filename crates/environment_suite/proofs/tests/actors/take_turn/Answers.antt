use Rattle.environment_suite.proofs.DrivenRuns.{fits-beside, ended-free}
use Rattle.environment_suite.proofs.tests.actors.take_turn.Goals as goal

pub returns-clause-fits : goal.returns-clause-fits
returns-clause-fits g c = fits-beside c.turn.result c.between.new.self c.args.hub.now c.turn.new.hub c.turn.ensures.made (λ other. (c.turn.ensures.same other).0)

pub returns-clause-free : goal.returns-clause-free
returns-clause-free g c =
    ended-free g.N.Naming.numbers c.turn.result c.args.hub.now c.turn.new.hub c.between.new.self c.turn.new.self c.invariant.ensures c.turn.ensures.stands c.turn.ensures.same c.turn.ensures.ended
