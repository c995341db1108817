use Rattle.parts_suite.proofs.HubsGoOn.{timely, call-stays}
use Rattle.parts_suite.proofs.tests.hub.asked.Goals as goal

pub env_shared-requires-clause-timely : goal.env_shared-requires-clause-timely
env_shared-requires-clause-timely g c = λ κs out. timely _ _ _ c.requires.timely

pub returns-clause-actors : goal.returns-clause-actors
returns-clause-actors g c = call-stays _ _ c.env_shared.result _ c.env_shared.ensures.next c.env_shared.ensures.stop
