use Rattle.std.proofs.Common.{sym, subst}
use Rattle.trace_text.specs.SummaryCounts.{AreCountable}
use Rattle.trace_text.proofs.SummaryCounts.{few-placed-all, counts_of-weave}
use Rattle.trace_text.proofs.summary.counts_of_run.Goals as goal

pub plus-requires-clause-few : goal.plus-requires-clause-few
plus-requires-clause-few c =
    subst AreCountable (sym c.counts_of_journal-local.ensures) (few-placed-all _ _ c.requires.journal)

pub returns : goal.returns
returns c =
    rw (c.plus.ensures, c.counts_of_journal-local.ensures, c.counts_of_history-shared.ensures)
    (sym (counts_of-weave c.args.journal.now c.args.history.now))
