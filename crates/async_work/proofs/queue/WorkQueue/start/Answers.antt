use Rattle.std.proofs.Common.{◌∙◌, IsSome, refl, sym, ap, subst, arith}
use Rattle.async_work.specs.Queue.{QueueSeen, Runs, waiting_job, is_done_in_queue, queue_stage_at, with_stage_at}
use Rattle.async_work.proofs.KeptQueue.{bounds-live, place-within, stage-kept, kept-set, waits-unfinished}
use Rattle.async_work.proofs.queue.WorkQueue.start.Goals as goal

pub overflow_sub-number-2 : goal.overflow_sub-number-2
overflow_sub-number-2 g c =
    let works = ap (λ (l : QueueSeen). l.works) c.self.view_is in
    let open_still = ap (λ l. is_done_in_queue (queue_stage_at l c.args.number)) works ∙ waits-unfinished _ c.requires in
    let bounds = bounds-live g.J.Job.spec c.self.inside.dropped c.self.inside.works.items c.args.number open_still in
    omega (arith, bounds.0)

pub index_mut-requires : goal.index_mut-requires
index_mut-requires g c =
    let works = ap (λ (l : QueueSeen). l.works) c.self.view_is in
    let open_still = ap (λ l. is_done_in_queue (queue_stage_at l c.args.number)) works ∙ waits-unfinished _ c.requires in
    omega (
      arith,
      place-within g.J.Job.spec c.self.inside.dropped c.self.inside.works.items c.args.number _ open_still refl,
      c.self.inside.works.ok.0,
    )

pub start-requires-after_bounds : goal.start-requires-after_bounds
start-requires-after_bounds g c = λ κs lives.
    let works = ap (λ (l : QueueSeen). l.works) c.self.view_is in
    let open_still = ap (λ l. is_done_in_queue (queue_stage_at l c.args.number)) works ∙ waits-unfinished _ c.requires in
    let there = sym (ap (λ l. queue_stage_at l c.args.number) works)
    ∙ stage-kept g.J.Job.spec c.self.inside.dropped c.self.inside.works.items c.args.number _ open_still refl c.index_mut.result.now c.index_mut.ensures.value in
    subst (λ s. IsSome (waiting_job s)) there c.requires

pub returns-clause-job : goal.returns-clause-job
returns-clause-job g c =
    let works = ap (λ (l : QueueSeen). l.works) c.self.view_is in
    let open_still = ap (λ l. is_done_in_queue (queue_stage_at l c.args.number)) works ∙ waits-unfinished _ c.requires in
    let there = sym (ap (λ l. queue_stage_at l c.args.number) works)
    ∙ stage-kept g.J.Job.spec c.self.inside.dropped c.self.inside.works.items c.args.number _ open_still refl c.index_mut.result.now c.index_mut.ensures.value in
    ap waiting_job there ∙ c.start.ensures.job

pub returns-clause-started : goal.returns-clause-started
returns-clause-started g c =
    let works = ap (λ (l : QueueSeen). l.works) c.self.view_is in
    let open_still = ap (λ l. is_done_in_queue (queue_stage_at l c.args.number)) works ∙ waits-unfinished _ c.requires in
    kept-set g.J.Job.spec c.self.inside.dropped c.self.inside.works.items c.args.number _ open_still refl c.start.new.numbered c.index_mut.result.now
    (Runs c.args.worker) c.index_mut.ensures.value c.start.ensures.same c.start.ensures.started ∙ ap (with_stage_at c.args.number (Runs c.args.worker)) works
