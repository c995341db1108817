use Rattle.std.proofs.Common.{length}
use Rattle.async_work.specs.Draining.{IsDraining}
use Rattle.async_work.proofs.pool.Pool.cancel_all_queued.Given as goal

abbrev pub decreases-loop-number : goal.decreases-loop-number
decreases-loop-number g l = length l.self.queued

abbrev pub invariant-loop-number : goal.invariant-loop-number
invariant-loop-number g l = IsDraining l.fn.self l.self
