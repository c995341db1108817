use Rattle.machine_laws.proofs.Exiting.{exit-by-call, ends-by-reason, ends-by-exit-or-idle, due-waits}
use Rattle.machine_laws.proofs.exits.exit_ends_the_loop.Goals as goal

pub returns-clause-asked : goal.returns-clause-asked
returns-clause-asked c = exit-by-call

pub returns-clause-reason : goal.returns-clause-reason
returns-clause-reason c = ends-by-reason

pub returns-clause-alone : goal.returns-clause-alone
returns-clause-alone c = ends-by-exit-or-idle

pub returns-clause-waits : goal.returns-clause-waits
returns-clause-waits c = due-waits
