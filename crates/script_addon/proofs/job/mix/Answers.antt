use Rattle.std.proofs.Common.{suc, arith}
use Rattle.script_addon.proofs.job.mix.Goals as goal

pub loop-preserved : goal.loop-preserved
loop-preserved c left h = rw c.mixed_once-x.ensures (c.loop.invariant (suc left) (omega arith))

pub returns : goal.returns
returns c = c.loop.invariant 0 (omega arith)
