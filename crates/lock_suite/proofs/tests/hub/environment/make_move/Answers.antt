use Rattle.lock_suite.proofs.EnvironmentTurns.{moves, moves-and-ends}
use Rattle.lock_suite.proofs.tests.hub.environment.make_move.Goals as goal

pub returns-in-Begin : goal.returns-in-Begin
returns-in-Begin g c = moves-and-ends _ _ _ _ c.poll.result _ c.poll.ensures.event c.end_frame.ensures.next

pub returns-in-Closed : goal.returns-in-Closed
returns-in-Closed g c = moves _ _ _ c.poll.result c.poll.ensures.event
