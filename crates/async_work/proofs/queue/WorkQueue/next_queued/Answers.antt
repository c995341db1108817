use Rattle.std.proofs.Common.{◌≡◌, ◌∙◌, ◌+◌, ◌-◌, length, map, sym, ap, arith, inl, inr, is_some}
use Rattle.std.proofs.lemmas.Bool.{cases_lt}
use Rattle.async_work.specs.Queue.{QueueSeen, entry_seen, queued_at, waiting_job}
use Rattle.async_work.proofs.KeptQueue.{length-line, stage-behind, waits-behind}
use Rattle.async_work.proofs.queue.WorkQueue.next_queued.Goals as goal

pub next_queued-place-requires-after_bounds : goal.next_queued-place-requires-after_bounds
next_queued-place-requires-after_bounds g c = λ κs lives.
    omega (
      arith,
      c.requires,
      c.saturating_sub-first.ensures,
      length-line g.J.Job.spec c.self.inside.dropped c.self.inside.works.items,
      ap (λ (l : QueueSeen). length l.works) c.self.view_is,
    )

pub returns-clause-within : goal.returns-clause-within
returns-clause-within g c =
    let long = length-line g.J.Job.spec c.self.inside.dropped c.self.inside.works.items in
    let seen = ap (λ (l : QueueSeen). length l.works) c.self.view_is in
    (omega (arith, c.saturating_sub-first.ensures, c.next_queued-place.ensures.within.0), omega (arith, c.next_queued-place.ensures.within.1, long, seen))

pub returns-clause-passed : goal.returns-clause-passed
returns-clause-passed g c = λ n above within.
    sym (ap (λ (l : QueueSeen). queued_at l.works n) c.self.view_is) ∙ elim (cases_lt c.self.inside.dropped n) [
      | inl kept ↦ waits-behind c.self.inside.dropped (map (entry_seen g.J.Job.spec) c.self.inside.works.items) n kept
          ∙ c.next_queued-place.ensures.passed (n - c.self.inside.dropped) (omega (arith, c.saturating_sub-first.ensures, above, kept)) (omega (arith, within, kept))
      | inr gone ↦ ap (λ s. is_some (waiting_job s)) (stage-behind c.self.inside.dropped (map (entry_seen g.J.Job.spec) c.self.inside.works.items) n gone)
    ]

pub returns-clause-queued : goal.returns-clause-queued
returns-clause-queued g c = λ more.
    let long = length-line g.J.Job.spec c.self.inside.dropped c.self.inside.works.items in
    let seen = ap (λ (l : QueueSeen). length l.works) c.self.view_is in
    let place : c.self.inside.dropped + c.next_queued-place.result + 1 - c.self.inside.dropped ≡ c.next_queued-place.result + 1 = omega arith in
    sym (ap (λ (l : QueueSeen). queued_at l.works (c.self.inside.dropped + c.next_queued-place.result + 1)) c.self.view_is)
    ∙ waits-behind c.self.inside.dropped (map (entry_seen g.J.Job.spec) c.self.inside.works.items) (c.self.inside.dropped + c.next_queued-place.result + 1) (omega arith)
    ∙ ap (queued_at (map (entry_seen g.J.Job.spec) c.self.inside.works.items)) place ∙ c.next_queued-place.ensures.queued (omega (arith, more, long, seen))
