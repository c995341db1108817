use Rattle.std.proofs.Common.{◌∙◌, IsSome, refl, sym, ap, subst, arith}
use Rattle.async_work.specs.Queue.{QueueSeen, Ended, waiting_job, is_done_in_queue, queue_stage_at, with_stage_at, unstarted_outcome}
use Rattle.async_work.proofs.KeptQueue.{bounds-live, place-within, stage-kept, kept-set, waits-unfinished}
use Rattle.async_work.proofs.queue.WorkQueue.cancel.Goals as goal

pub overflow_sub-number-2 : goal.overflow_sub-number-2
overflow_sub-number-2 g c =
    let works = ap (λ (l : QueueSeen). l.works) c.self.view_is in
    let open_still = ap (λ l. is_done_in_queue (queue_stage_at l c.args.number)) works ∙ waits-unfinished _ c.requires in
    let bounds = bounds-live g.J.Job.spec c.self.inside.dropped c.self.inside.works.items c.args.number open_still in
    omega (arith, bounds.0)

pub index_mut-requires : goal.index_mut-requires
index_mut-requires g c =
    let works = ap (λ (l : QueueSeen). l.works) c.self.view_is in
    let open_still = ap (λ l. is_done_in_queue (queue_stage_at l c.args.number)) works ∙ waits-unfinished _ c.requires in
    omega (
      arith,
      place-within g.J.Job.spec c.self.inside.dropped c.self.inside.works.items c.args.number _ open_still refl,
      c.self.inside.works.ok.0,
    )

pub cancel-requires-after_bounds : goal.cancel-requires-after_bounds
cancel-requires-after_bounds g c = λ κs lives.
    let works = ap (λ (l : QueueSeen). l.works) c.self.view_is in
    let open_still = ap (λ l. is_done_in_queue (queue_stage_at l c.args.number)) works ∙ waits-unfinished _ c.requires in
    let there = sym (ap (λ l. queue_stage_at l c.args.number) works)
    ∙ stage-kept g.J.Job.spec c.self.inside.dropped c.self.inside.works.items c.args.number _ open_still refl c.index_mut.result.now c.index_mut.ensures.value in
    subst (λ s. IsSome (waiting_job s)) there c.requires

pub returns-clause-outcome : goal.returns-clause-outcome
returns-clause-outcome g c =
    let works = ap (λ (l : QueueSeen). l.works) c.self.view_is in
    let open_still = ap (λ l. is_done_in_queue (queue_stage_at l c.args.number)) works ∙ waits-unfinished _ c.requires in
    let there = sym (ap (λ l. queue_stage_at l c.args.number) works)
    ∙ stage-kept g.J.Job.spec c.self.inside.dropped c.self.inside.works.items c.args.number _ open_still refl c.index_mut.result.now c.index_mut.ensures.value in
    c.cancel.ensures.outcome ∙ ap (λ s. unstarted_outcome c.args.number (waiting_job s)) (sym there)

pub returns-clause-finished : goal.returns-clause-finished
returns-clause-finished g c =
    let works = ap (λ (l : QueueSeen). l.works) c.self.view_is in
    let open_still = ap (λ l. is_done_in_queue (queue_stage_at l c.args.number)) works ∙ waits-unfinished _ c.requires in
    kept-set g.J.Job.spec c.self.inside.dropped c.self.inside.works.items c.args.number _ open_still refl c.cancel.new.numbered c.index_mut.result.now Ended
    c.index_mut.ensures.value c.cancel.ensures.same c.cancel.ensures.finished ∙ ap (with_stage_at c.args.number Ended) works
