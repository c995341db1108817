use Rattle.std.proofs.Common.{refl}
use Rattle.std.specs.Fmt.{digits}
use Rattle.trace_text.proofs.SummaryCounts.{no-order}
use Rattle.trace_text.proofs.laws.summaries.Goals as goal

pub returns-clause-order : goal.returns-clause-order
returns-clause-order c = no-order

pub returns-clause-examples : goal.returns-clause-examples
unfolding digits
returns-clause-examples c = record { refused = refl; wraps = refl; busy = refl }
