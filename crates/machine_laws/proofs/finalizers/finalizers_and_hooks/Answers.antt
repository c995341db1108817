use Rattle.machine_laws.proofs.Settling.{only-outermost, none-registered}
use Rattle.machine_laws.proofs.Causes.{finalizers-begin, hooks-begin}
use Rattle.machine_laws.proofs.finalizers.finalizers_and_hooks.Goals as goal

pub returns-clause-outermost : goal.returns-clause-outermost
returns-clause-outermost c = only-outermost

pub returns-clause-registered : goal.returns-clause-registered
returns-clause-registered c = none-registered

pub returns-clause-finalizers : goal.returns-clause-finalizers
returns-clause-finalizers c = finalizers-begin

pub returns-clause-hooks : goal.returns-clause-hooks
returns-clause-hooks c = hooks-begin
