use Rattle.std.proofs.Common.{refl}
use Rattle.parts_suite.proofs.HubsGoOn.{drained-on, actors-stay}
use Rattle.parts_suite.proofs.tests.hub.drained.Goals as goal

pub returns-clause-stage : goal.returns-clause-stage
returns-clause-stage g c = drained-on c.drain.ensures.drained c.requires.looped

pub returns-clause-actors : goal.returns-clause-actors
returns-clause-actors g c = actors-stay _ _ _ c.drain.ensures.drained refl
