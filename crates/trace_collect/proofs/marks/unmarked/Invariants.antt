use Rattle.std.proofs.Common.{◌≡◌, ◌-◌, ◌<◌, ◌≤◌, false, length}
use Rattle.value_store.specs.StoreChanges.{numbers_of}
use Rattle.mark_bits.specs.PlaceMarks.{is_marked}
use Rattle.trace_collect.specs.MarkedValues.{unmarked_ids}
use Rattle.trace_collect.proofs.marks.unmarked.Given as goal

abbrev pub invariant-loop-place : goal.invariant-loop-place
invariant-loop-place l = record {
  listed : numbers_of l.list.items ≡ unmarked_ids l.store l.marks l.place;
  within : l.place ≤ length l.marks;
  unset : l.place < length l.marks → is_marked l.marks l.place ≡ false;
}

abbrev pub decreases-loop-place : goal.decreases-loop-place
decreases-loop-place l = length l.marks - l.place
