use Rattle.machine_laws.proofs.PromisesKept.{pending-roots, deferreds-kept, reacted-roots, reactions-kept, settled-none}
use Rattle.machine_laws.proofs.promises.promises_are_kept.Goals as goal

pub returns-clause-pending : goal.returns-clause-pending
returns-clause-pending c = pending-roots

pub returns-clause-deferreds : goal.returns-clause-deferreds
returns-clause-deferreds c = deferreds-kept

pub returns-clause-reacted : goal.returns-clause-reacted
returns-clause-reacted c = reacted-roots

pub returns-clause-reactions : goal.returns-clause-reactions
returns-clause-reactions c = reactions-kept

pub returns-clause-settled : goal.returns-clause-settled
returns-clause-settled c = settled-none
