use Rattle.machine_laws.proofs.Choosing.{go-last, gone-last, go-of-runs, abandon-of-runs, drain-behind-abandon, drain-of-runs, finals-of-runs}
use Rattle.machine_laws.proofs.Settling.{gone-of-runs}
use Rattle.machine_laws.proofs.choices.great_events.Goals as goal

pub returns-clause-go : goal.returns-clause-go
returns-clause-go c = go-last

pub returns-clause-gone : goal.returns-clause-gone
returns-clause-gone c = gone-last

pub returns-clause-go_only : goal.returns-clause-go_only
returns-clause-go_only c = go-of-runs

pub returns-clause-abandon_only : goal.returns-clause-abandon_only
returns-clause-abandon_only c = abandon-of-runs

pub returns-clause-abandon_last : goal.returns-clause-abandon_last
returns-clause-abandon_last c = drain-behind-abandon

pub returns-clause-drain_only : goal.returns-clause-drain_only
returns-clause-drain_only c = drain-of-runs

pub returns-clause-finals_only : goal.returns-clause-finals_only
returns-clause-finals_only c = finals-of-runs

pub returns-clause-gone_only : goal.returns-clause-gone_only
returns-clause-gone_only c = gone-of-runs
