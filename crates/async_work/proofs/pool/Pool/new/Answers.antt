use Rattle.std.proofs.Common.{ap}
use Rattle.async_work.specs.Queue.{outcomes_seen}
use Rattle.async_work.specs.WorkPlaces.{places_seen}
use Rattle.async_work.proofs.KeepingPools.{kept-new}
use Rattle.async_work.proofs.pool.Pool.new.Goals as goal

pub invariant_of-result : goal.invariant_of-result
invariant_of-result g c =
    kept-new _ _ _ _ _ _ (ap (places_seen g.J.Job.spec) c.new.ensures) (ap (λ s. s.issued) c.new.ensures) c.new-2.ensures (ap
    (outcomes_seen g.J.Job.spec) c.new-3.ensures.items)
