use Rattle.trace_text.proofs.Adding.{adds_more, adds_none}
use Rattle.trace_text.proofs.line.add_all_escaped.Goals as goal

pub loop-byte-init : goal.loop-byte-init
loop-byte-init g c = adds_none _

pub loop-byte-preserved : goal.loop-byte-preserved
loop-byte-preserved g c = adds_more _ _ _ _ c.loop-byte-test.true c.loop-byte.invariant c.add_escaped.ensures
