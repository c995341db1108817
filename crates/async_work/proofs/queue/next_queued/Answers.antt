use Rattle.std.proofs.Common.{◌≡◌, ◌∙◌, ◌+◌, arith, inl, inr}
use Rattle.std.proofs.lemmas.Bool.{cases_lt}
use Rattle.async_work.proofs.KeptQueue.{waits-kept}
use Rattle.async_work.proofs.queue.next_queued.Goals as goal

pub returns-then-is_queued-clause-queued : goal.returns-then-is_queued-clause-queued
returns-then-is_queued-clause-queued g c = λ within.
    waits-kept g.J.Job.spec c.args.works.now.items c.loop-place.place c.index.result.now c.is_queued.result c.index.ensures within c.is_queued.ensures
    ∙ c.if-is_queued.true

pub loop-place-preserved : goal.loop-place-preserved
loop-place-preserved g c = λ n above within. elim (cases_lt c.loop-place.place n) [
  | inr sooner ↦ c.loop-place.invariant n above sooner
  | inl later ↦ let same : n ≡ c.loop-place.place + 1 = omega arith in rw same
      (waits-kept g.J.Job.spec c.args.works.now.items c.loop-place.place c.index.result.now c.is_queued.result c.index.ensures
      (omega (arith, c.loop-place-test.true, c.len-place-end.ensures, c.args.works.now.ok.0)) c.is_queued.ensures ∙ c.if-is_queued.false)
]
