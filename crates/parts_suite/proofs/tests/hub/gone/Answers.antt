use Rattle.std.proofs.Common.{refl}
use Rattle.parts_suite.proofs.HubsGoOn.{gone-on, actors-stay}
use Rattle.parts_suite.proofs.tests.hub.gone.Goals as goal

pub returns-clause-stage : goal.returns-clause-stage
returns-clause-stage g c = gone-on c.go.ensures c.requires.first

pub returns-clause-actors : goal.returns-clause-actors
returns-clause-actors g c = actors-stay _ _ _ c.go.ensures refl
