use Rattle.machine_laws.proofs.BeginningFrames.{lowest-first, lowest-lowest, hook-first, tickets-begin}
use Rattle.machine_laws.proofs.choices.moments_of_duties.Goals as goal

pub returns-clause-lowest : goal.returns-clause-lowest
returns-clause-lowest c = lowest-first

pub returns-clause-least : goal.returns-clause-least
returns-clause-least c = lowest-lowest

pub returns-clause-hook : goal.returns-clause-hook
returns-clause-hook c = hook-first

pub returns-clause-moments : goal.returns-clause-moments
returns-clause-moments c = tickets-begin
