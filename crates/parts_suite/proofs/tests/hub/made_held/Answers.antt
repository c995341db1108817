use Rattle.parts_suite.proofs.HubsGoOn.{timely, call-stays}
use Rattle.parts_suite.proofs.tests.hub.made_held.Goals as goal

pub env_shared-outcome-requires-clause-timely : goal.env_shared-outcome-requires-clause-timely
env_shared-outcome-requires-clause-timely g c = λ κs out. timely _ _ _ (λ looped registers. c.requires.timely looped)

pub returns-clause-actors : goal.returns-clause-actors
returns-clause-actors g c = call-stays _ _ c.env_shared-outcome.result _ c.env_shared-outcome.ensures.next c.env_shared-outcome.ensures.stop
