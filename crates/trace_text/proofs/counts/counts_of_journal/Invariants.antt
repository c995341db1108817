use Rattle.std.proofs.Common.{◌≡◌, take}
use Rattle.trace_text.specs.SummaryCounts.{counts_of, placed}
use Rattle.trace_text.proofs.counts.counts_of_journal.Given as goal

abbrev pub invariant-loop-local : goal.invariant-loop-local
invariant-loop-local l = l.counts ≡ counts_of (placed l.last (take l.local-index l.journal))
