use Rattle.std.proofs.Common.{arith}
use Rattle.trace_text.proofs.Adding.{adds_none}
use Rattle.trace_text.proofs.Weaving.{locals_more, locals_count}
use Rattle.trace_text.proofs.scan.add_locals.Goals as goal

pub loop-local-init : goal.loop-local-init
loop-local-init g c = record { few = omega arith; count = omega arith; added = adds_none _ }

pub loop-local-preserved : goal.loop-local-preserved
loop-local-preserved g c = record {
  few = omega arith;
  count = locals_count _ _ _ _ _ _ _ c.loop-local-test.true c.loop-local.invariant.count c.add_local-number.ensures.next;
  added = locals_more _ _ _ _ _ _ _ c.loop-local-test.true c.loop-local.invariant.count c.loop-local.invariant.added
      c.add_local-number.ensures.added;
}
