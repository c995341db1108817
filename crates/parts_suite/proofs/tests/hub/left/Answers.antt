use Rattle.std.proofs.Common.{refl}
use Rattle.napi_types.specs.declared.entry.LoopEnd.TheVariants as loop_end
use Rattle.parts_suite.proofs.HubsGoOn.{looped-on, actors-stay}
use Rattle.parts_suite.proofs.tests.hub.left.Goals as goal

pub returns-clause-stage : goal.returns-clause-stage
returns-clause-stage g c = looped-on loop_end.Exit (rw c.loop_end.ensures.reason at c.loop_end.ensures.ended) c.requires.going

pub returns-clause-actors : goal.returns-clause-actors
returns-clause-actors g c = actors-stay _ _ _ (rw c.loop_end.ensures.reason at c.loop_end.ensures.ended) refl
