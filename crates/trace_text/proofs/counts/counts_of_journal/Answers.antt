use Rattle.std.proofs.Common.{sym, ◌∙◌, ap, subst, take_all}
use Rattle.trace_text.specs.SummaryCounts.{AreCountable, counts_of, placed}
use Rattle.trace_text.proofs.SummaryCounts.{few-placed, journal-more}
use Rattle.trace_text.proofs.counts.counts_of_journal.Goals as goal

pub plus-counts-requires-clause-few : goal.plus-counts-requires-clause-few
plus-counts-requires-clause-few c =
    subst AreCountable (sym c.loop-local.invariant) (few-placed _ c.loop-local.local-index _ c.requires)

pub loop-local-preserved : goal.loop-local-preserved
loop-local-preserved c =
    rw (c.plus-counts.ensures, c.loop-local.invariant, c.counts_of_local.ensures) (sym (journal-more _ _ _ _ c.loop-local-test.true))

pub returns : goal.returns
returns c = c.loop-local.invariant ∙ ap (λ js. counts_of (placed c.args.last js)) (take_all c.loop-local.local-index c.args.journal.now c.loop-local-test.false)
