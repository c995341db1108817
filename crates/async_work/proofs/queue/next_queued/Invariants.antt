use Rattle.std.proofs.Common.{◌≡◌, ℕ, ◌<◌, ◌≤◌, false}
use Rattle.async_work.specs.Queue.{queue_seen, queued_at}
use Rattle.async_work.proofs.queue.next_queued.Given as goal

abbrev pub invariant-loop-place : goal.invariant-loop-place
invariant-loop-place g l = (n : ℕ) → l.from < n → n ≤ l.place → queued_at (queue_seen g.J.Job.spec 0 l.works.items) n ≡ false
