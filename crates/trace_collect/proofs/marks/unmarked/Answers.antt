use Rattle.std.proofs.Common.{◌≡◌, ◌∙◌, ◌+◌, false, ap, sym, arith}
use Rattle.value_store.specs.StoreChanges.{numbers_of}
use Rattle.mark_bits.specs.PlaceMarks.{is_marked}
use Rattle.trace_collect.specs.MarkedValues.{unmarked_ids}
use Rattle.trace_collect.proofs.Unmarked.{unmarked-next, unmarked-over}
use Rattle.trace_collect.proofs.marks.unmarked.Goals as goal

pub loop-place-init : goal.loop-place-init
loop-place-init c = record {
  listed = ap numbers_of c.new-list.ensures.items ∙ sym (unmarked-over c.args.store.now c.args.marks.now 0 c.next_unset-place.result c.next_unset-place.ensures.within.0 c.next_unset-place.ensures.passed);
  within = c.next_unset-place.ensures.within.1;
  unset = c.next_unset-place.ensures.unset;
}

pub loop-place-preserved : goal.loop-place-preserved
loop-place-preserved c =
    let free : is_marked c.args.marks.now c.loop-place.place ≡ false = c.loop-place.invariant.unset (omega (arith, c.loop-place-test.true, c.len.ensures)) in
    let one : numbers_of c.add.new.list.items ≡ unmarked_ids c.args.store.now c.args.marks.now (c.loop-place.place + 1) =
    unmarked-next c.args.store.now c.args.marks.now c.loop-place.place c.loop-place.list.items c.add.new.list.items c.at_place.result free c.at_place.ensures.value c.in_ok-add.ensures c.loop-place.invariant.listed in
    let step = c.next_unset-place-in-loop-place in
    record {
      listed = one ∙ sym (unmarked-over c.args.store.now c.args.marks.now (c.loop-place.place + 1) step.result step.ensures.within.0 step.ensures.passed);
      within = step.ensures.within.1;
      unset = step.ensures.unset;
    }
