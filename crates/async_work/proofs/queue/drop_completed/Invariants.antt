use Rattle.std.proofs.Common.{◌≡◌, ◌+◌, ◌≤◌, length, deque_capacity}
use Rattle.async_work.specs.Queue.{queue_seen}
use Rattle.async_work.proofs.queue.drop_completed.Given as goal

abbrev pub invariant-loop-works : goal.invariant-loop-works
invariant-loop-works g l = record {
  same : queue_seen g.J.Job.spec l.gone l.works.items ≡ queue_seen g.J.Job.spec l.fn.dropped l.fn.works.items;
  as_many : l.gone + length l.works.items ≡ l.fn.dropped + length l.fn.works.items;
  fewer : length l.works.items ≤ length l.fn.works.items;
  capacity : deque_capacity l.works ≡ deque_capacity l.fn.works;
}

abbrev pub decreases-loop-works : goal.decreases-loop-works
decreases-loop-works g l = length l.works.items
