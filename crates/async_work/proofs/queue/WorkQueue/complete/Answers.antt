use Rattle.std.proofs.Common.{◌∙◌, ◌-◌, Some, refl, sym, ap, arith}
use Rattle.async_work.specs.Queue.{QueueSeen, Done, is_done_in_queue, queue_stage_at, queue_id_at, with_stage_at}
use Rattle.async_work.proofs.KeptQueue.{bounds-live, place-within, id-kept, kept-set}
use Rattle.async_work.proofs.Linking.{ended-unfinished}
use Rattle.std.proofs.lemmas.List.{length-set}
use Rattle.async_work.proofs.queue.WorkQueue.complete.Goals as goal

pub overflow_sub-number-2 : goal.overflow_sub-number-2
overflow_sub-number-2 g c =
    let works = ap (λ (l : QueueSeen). l.works) c.self.view_is in
    let open_still = ap (λ l. is_done_in_queue (queue_stage_at l c.args.number)) works ∙ ended-unfinished _ c.requires in
    let bounds = bounds-live g.J.Job.spec c.self.inside.dropped c.self.inside.works.items c.args.number open_still in
    omega (arith, bounds.0)

pub index_mut-requires : goal.index_mut-requires
index_mut-requires g c =
    let works = ap (λ (l : QueueSeen). l.works) c.self.view_is in
    let open_still = ap (λ l. is_done_in_queue (queue_stage_at l c.args.number)) works ∙ ended-unfinished _ c.requires in
    omega (
      arith,
      place-within g.J.Job.spec c.self.inside.dropped c.self.inside.works.items c.args.number _ open_still refl,
      c.self.inside.works.ok.0,
    )

pub drop_completed-dropped-requires-after_bounds : goal.drop_completed-dropped-requires-after_bounds
drop_completed-dropped-requires-after_bounds g c = λ κs lives.
    omega (arith, c.self.invariant, length-set c.self.inside.works.items (c.args.number - 1 - c.self.inside.dropped) c.complete-id.new.numbered)

pub invariant_of-self : goal.invariant_of-self
invariant_of-self g c =
    omega (
      arith,
      c.self.invariant,
      length-set c.self.inside.works.items (c.args.number - 1 - c.self.inside.dropped) c.complete-id.new.numbered,
      c.drop_completed-dropped.ensures.as_many,
    )

pub returns-clause-id : goal.returns-clause-id
returns-clause-id g c =
    let works = ap (λ (l : QueueSeen). l.works) c.self.view_is in
    let open_still = ap (λ l. is_done_in_queue (queue_stage_at l c.args.number)) works ∙ ended-unfinished _ c.requires in
    sym (ap (λ l. queue_id_at l c.args.number) works)
    ∙ id-kept g.J.Job.spec c.self.inside.dropped c.self.inside.works.items c.args.number _ open_still refl c.index_mut.result.now c.index_mut.ensures.value
    ∙ ap (λ i. Some i) (sym c.complete-id.ensures.id)

pub returns-clause-completed : goal.returns-clause-completed
returns-clause-completed g c =
    let works = ap (λ (l : QueueSeen). l.works) c.self.view_is in
    let open_still = ap (λ l. is_done_in_queue (queue_stage_at l c.args.number)) works ∙ ended-unfinished _ c.requires in
    c.drop_completed-dropped.ensures.same
    ∙ kept-set g.J.Job.spec c.self.inside.dropped c.self.inside.works.items c.args.number _ open_still refl c.complete-id.new.numbered c.index_mut.result.now Done
    c.index_mut.ensures.value c.complete-id.ensures.same c.complete-id.ensures.completed ∙ ap (with_stage_at c.args.number Done) works
