use Rattle.std.proofs.Common.{◌≡◌, take}
use Rattle.trace_text.specs.SummaryCounts.{counts_of}
use Rattle.trace_text.proofs.counts.counts_of_history.Given as goal

abbrev pub invariant-loop-shared : goal.invariant-loop-shared
invariant-loop-shared l = l.counts ≡ counts_of (take l.shared-index l.history)
