use Rattle.std.proofs.Common.{◌∙◌, sym, arith}
use Rattle.async_work.proofs.KeptQueue.{front-dropped}
use Rattle.async_work.proofs.queue.drop_completed.Goals as goal

pub loop-works-preserved : goal.loop-works-preserved
loop-works-preserved g c =
    let dropped = front-dropped g.J.Job.spec c.loop-works.gone c.loop-works.works.items c.pop_front.new.self.items c.front.result c.front.ensures.lookup
    (λ some. omega (arith, c.front.ensures.variant.0 some, c.loop-works.works.ok.0)) (sym c.is_completed.ensures ∙ c.loop-works-test.true)
    c.pop_front.ensures.rest in
    record {
      same = dropped.0 ∙ c.loop-works.invariant.same;
      as_many = omega (arith, dropped.1, c.loop-works.invariant.as_many);
      fewer = omega (arith, dropped.1, c.loop-works.invariant.fewer);
      capacity = c.pop_front.ensures.capacity ∙ c.loop-works.invariant.capacity;
    }
