use Rattle.std.proofs.Common.{arith, ◌≡◌, length}
use Rattle.trace_text.proofs.Weaving.{owes_place, owes_end}
use Rattle.trace_text.proofs.scan.add_scanned.Goals as goal

pub loop-at-preserved : goal.loop-at-preserved
loop-at-preserved g c = record {
  few = omega arith;
  owes = owes_place _ _ _ _ _ _ _ _ c.loop-at-test.true c.add_place-number.ensures.next c.loop-at.invariant.owes
      c.add_place-number.ensures.added;
}

pub returns : goal.returns
returns g c =
    let ends : c.loop-at.at ≡ length c.args.history.now = omega arith in
    owes_end _ _ _ _ _ _ ends c.loop-at.invariant.owes c.add_locals.ensures.added
