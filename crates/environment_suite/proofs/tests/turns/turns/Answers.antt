use Rattle.environment_suite.proofs.DrivenRuns.{opened-fits}
use Rattle.environment_suite.proofs.tests.turns.turns.Goals as goal

pub to_end-later-requires-clause-fits : goal.to_end-later-requires-clause-fits
to_end-later-requires-clause-fits g c =
    c.thirteen-first.ensures.fits c.opened_hub-hub.result
    (opened-fits g.N.Naming.numbers 100 c.opened-env.result c.opened_hub-hub.result c.opened-env.ensures c.opened_hub-hub.ensures)
