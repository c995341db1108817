use Rattle.std.proofs.Common.{◌≡◌, take, vec_capacity}
use Rattle.value_store.specs.StoreChanges.{numbers_of}
use Rattle.trace_collect.specs.MarkedValues.{Marks}
use Rattle.trace_collect.proofs.marks.mark_each.Given as goal

abbrev pub invariant-loop-id : goal.invariant-loop-id
invariant-loop-id l = record {
  marked : Marks l.store (numbers_of (take l.id-index l.ids)) l.fn.marks (numbers_of l.fn.left.items) l.marks (numbers_of l.left.items);
  capacity : vec_capacity l.left ≡ vec_capacity l.fn.left;
}
