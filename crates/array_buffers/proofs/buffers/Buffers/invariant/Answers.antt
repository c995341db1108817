use Rattle.array_buffers.proofs.Kept.{seen, limits-now, maps-now}
use Rattle.array_buffers.proofs.buffers.Buffers.invariant.Goals as goal

pub returns-clause-limits : goal.returns-clause-limits
returns-clause-limits c = limits-now _ _ _ _ (seen c.self.view_is) c.self.invariant

pub returns-clause-maps : goal.returns-clause-maps
returns-clause-maps c = maps-now _ _ _ _ (seen c.self.view_is) c.self.invariant
