use Rattle.std.proofs.Common.{refl}
use Rattle.lock_suite.proofs.EnvironmentTurns.{adds}
use Rattle.lock_suite.proofs.tests.hub.environment.end_loop.Goals as goal

pub returns-then-is_at : goal.returns-then-is_at
returns-then-is_at g c = adds _ _ _ _ refl (rw c.loop_end-why.ensures.reason at c.loop_end-why.ensures.ended)
