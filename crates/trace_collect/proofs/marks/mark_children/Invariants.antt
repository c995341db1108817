use Rattle.std.proofs.Common.{◌≡◌, length, vec_capacity}
use Rattle.std.specs.List.{All}
use Rattle.napi_types.specs.parts.Graph.{IsLive}
use Rattle.value_store.specs.StoreChanges.{numbers_of}
use Rattle.trace_collect.specs.MarkedValues.{MarksUpTo}
use Rattle.trace_collect.proofs.marks.mark_children.Given as goal

abbrev pub invariant-loop-child : goal.invariant-loop-child
invariant-loop-child l = record {
  marked : MarksUpTo l.store l.initial.children l.children l.fn.marks (numbers_of l.fn.left.items) l.marks (numbers_of l.left.items);
  live : All (IsLive l.store) l.children;
  capacity : vec_capacity l.left ≡ vec_capacity l.fn.left;
}

abbrev pub decreases-loop-child : goal.decreases-loop-child
decreases-loop-child l = length l.children
