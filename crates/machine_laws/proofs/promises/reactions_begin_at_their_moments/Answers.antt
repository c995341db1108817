use Rattle.machine_laws.proofs.Causes.{reactions-begin}
use Rattle.machine_laws.proofs.PromisesKept.{reactions-own}
use Rattle.machine_laws.proofs.promises.reactions_begin_at_their_moments.Goals as goal

pub returns-clause-own : goal.returns-clause-own
returns-clause-own c = reactions-own

pub returns-clause-moments : goal.returns-clause-moments
returns-clause-moments c = reactions-begin
