-- A pool whose waiting works are cancelled one by one.
use Rattle.std.specs.Prelude.{◌≡◌, ◌++◌, map}
use Rattle.napi_types.specs.parts.Pool.{WorkPool}
use Rattle.napi_types.specs.parts.Works.{cancelled_outcome}

-- so far the works that were queued first have ended, and nothing else changed
pub record IsDraining (start p : WorkPool) : Type 0 where
  pub others : p ≡ record start { queued = p.queued; finished = p.finished }
  pub out : p.finished ++ map cancelled_outcome p.queued ≡ start.finished ++ map cancelled_outcome start.queued
