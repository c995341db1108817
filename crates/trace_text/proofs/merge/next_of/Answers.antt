use Rattle.std.proofs.Common.{◌+◌, length, drop, refl, arith}
use Rattle.std.proofs.lemmas.Bool.{iff_false}
use Rattle.napi_types.proofs.plain.Weaves.{bounds-rise}
use Rattle.trace_text.proofs.Merging.{rises-local, rises-shared, unwoven-local, unwoven-shared}
use Rattle.trace_text.proofs.merge.next_of.Goals as goal

pub returns-then-is_local_next-clause-woven : goal.returns-then-is_local_next-clause-woven
returns-then-is_local_next-clause-woven c =
    unwoven-local c.args.journal.now c.args.history.now c.args.passed.locals c.args.passed.shared _ (c.if-is_local_next.ensures.0 refl)

pub returns-then-is_local_next-clause-rises : goal.returns-then-is_local_next-clause-rises
returns-then-is_local_next-clause-rises c =
    rises-local c.args.journal.now c.args.passed.locals c.args.passed.shared (length c.args.history.now)
    (c.if-is_local_next.ensures.0 refl) c.requires.rises

pub returns-else-is_local_next-clause-rises : goal.returns-else-is_local_next-clause-rises
returns-else-is_local_next-clause-rises c =
    rises-shared c.args.journal.now c.args.passed.locals c.args.passed.shared (length c.args.history.now)
    c.requires.rises (iff_false c.if-is_local_next.ensures refl) c.requires.within c.requires.more

pub bounds-history-passed : goal.bounds-history-passed
bounds-history-passed c =
    let rises = rises-shared c.args.journal.now c.args.passed.locals c.args.passed.shared (length c.args.history.now)
    c.requires.rises (iff_false c.if-is_local_next.ensures refl) c.requires.within c.requires.more in
    let bound = bounds-rise (c.args.passed.shared + 1) (length c.args.history.now) (drop c.args.passed.locals c.args.journal.now) rises in
    omega arith

pub returns-else-is_local_next-clause-woven : goal.returns-else-is_local_next-clause-woven
returns-else-is_local_next-clause-woven c =
    unwoven-shared c.args.journal.now c.args.history.now c.args.passed.locals c.args.passed.shared _
    (rises-shared c.args.journal.now c.args.passed.locals c.args.passed.shared (length c.args.history.now)
    c.requires.rises (iff_false c.if-is_local_next.ensures refl) c.requires.within c.requires.more)
