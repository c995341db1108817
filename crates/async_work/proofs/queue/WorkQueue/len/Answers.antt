use Rattle.std.proofs.Common.{length, ap, arith}
use Rattle.async_work.specs.Queue.{QueueSeen}
use Rattle.async_work.proofs.KeptQueue.{length-line}
use Rattle.async_work.proofs.queue.WorkQueue.len.Goals as goal

pub returns : goal.returns
returns g c =
    omega (
      arith,
      c.len.ensures,
      c.self.inside.works.ok.0,
      length-line g.J.Job.spec c.self.inside.dropped c.self.inside.works.items,
      ap (λ (l : QueueSeen). length l.works) c.self.view_is,
    )
