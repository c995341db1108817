use Rattle.std.proofs.Common.{◌≡◌, ◌+◌, length, drop, arith}
use Rattle.napi_types.proofs.plain.Weaves.{bounds-rise}
use Rattle.trace_text.proofs.Merging.{owes_line, owes_none, unwoven-end}
use Rattle.trace_text.proofs.merge.add_merged.Goals as goal

pub loop-preserved : goal.loop-preserved
loop-preserved g c = record {
  rises = c.next_of.ensures.rises;
  within = c.next_of.ensures.within;
  count = omega arith;
  number = omega arith;
  owes = owes_line _ _ _ _ _ _ c.next_of.ensures.woven c.loop.invariant.owes (rw c.loop.invariant.number at c.add_line.ensures);
}

pub returns : goal.returns
returns g c =
    let bound = bounds-rise c.loop.passed.shared (length c.args.history.now)
    (drop c.loop.passed.locals c.args.journal.now) c.loop.invariant.rises in
    let all : c.loop.passed.locals + c.loop.passed.shared ≡ length c.args.journal.now + length c.args.history.now = omega arith in
    let none = unwoven-end c.args.journal.now c.args.history.now c.loop.passed.locals c.loop.passed.shared
    c.loop.invariant.within bound all in
    owes_none _ _ _ _ none c.loop.invariant.owes
