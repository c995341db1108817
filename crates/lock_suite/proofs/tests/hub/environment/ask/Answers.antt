use Rattle.lock_suite.proofs.EnvironmentTurns.{call-goes-on}
use Rattle.lock_suite.proofs.tests.hub.environment.ask.Goals as goal

pub returns-in-Ok : goal.returns-in-Ok
returns-in-Ok g c = call-goes-on _ _ _ _ c.env_shared.result c.env_shared.ensures.next c.env_shared.ensures.stop
