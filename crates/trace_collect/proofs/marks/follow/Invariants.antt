use Rattle.std.proofs.Common.{◌≡◌, ◌+◌, ◌≤◌, ℕ, List, length, vec_capacity}
use Rattle.value_store.specs.StoreChanges.{numbers_of}
use Rattle.trace_collect.specs.MarkedValues.{IsMarking, unmarked_count}
use Rattle.trace_collect.proofs.marks.follow.Given as goal

abbrev pub invariant-loop-id : goal.invariant-loop-id
invariant-loop-id l = record {
  marking : (roots : List ℕ) → IsMarking l.store roots l.fn.marks (numbers_of l.fn.left.items) → IsMarking l.store roots l.marks (numbers_of l.left.items);
  room : length l.left.items + unmarked_count l.store l.marks ≤ vec_capacity l.left;
  size : length l.marks ≡ length l.fn.marks;
}

abbrev pub decreases-loop-id : goal.decreases-loop-id
decreases-loop-id l = length l.left.items + unmarked_count l.store l.marks
