use Rattle.std.proofs.Common.{◌∙◌, ◌++◌, [], ◌∷◌, length, ap, arith}
use Rattle.async_work.specs.Queue.{QueueSeen, StillQueued, queue_seen}
use Rattle.async_work.proofs.KeptQueue.{length-line, line-push}
use Rattle.async_work.proofs.queue.WorkQueue.push.Goals as goal

pub invariant_of-self : goal.invariant_of-self
invariant_of-self g c =
    omega (
      arith,
      c.requires.few,
      c.self.inside.works.ok.0,
      c.push_back_reserved.ensures.len,
      c.push_back_reserved.new.self.ok.0,
      length-line g.J.Job.spec c.self.inside.dropped c.self.inside.works.items,
      ap (λ (l : QueueSeen). length l.works) c.self.view_is,
    )

pub returns-clause-number : goal.returns-clause-number
returns-clause-number g c =
    omega (
      arith,
      c.len.ensures,
      c.self.inside.works.ok.0,
      length-line g.J.Job.spec c.self.inside.dropped c.self.inside.works.items,
      ap (λ (l : QueueSeen). length l.works) c.self.view_is,
    )

pub returns-clause-longer : goal.returns-clause-longer
returns-clause-longer g c =
    ap (queue_seen g.J.Job.spec c.self.inside.dropped) c.push_back_reserved.ensures.items
    ∙ line-push g.J.Job.spec c.self.inside.dropped c.self.inside.works.items _ ∙ ap
    (λ (l : QueueSeen). l.works ++ record { id = c.args.id; stage = StillQueued (g.J.Job.spec c.args.job) } ∷ []) c.self.view_is
