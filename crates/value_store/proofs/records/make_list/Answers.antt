use Rattle.std.proofs.Common.{◌≡◌, ◌+◌, ◌∙◌, ap, sym, subst, length, IsSome, refl, arith}
use Rattle.napi_types.specs.parts.Properties.{element_at}
use Rattle.value_store.proofs.Listing.{so-many, list-start, list-turn, list-end}
use Rattle.value_store.proofs.RenamedParts.{array-there}
use Rattle.value_store.proofs.RecordValues.{elements-here}
use Rattle.value_store.proofs.records.make_list.Goals as goal

pub put-id-requires : goal.put-id-requires
put-id-requires c = omega (arith, c.loop-at.invariant.room, c.loop-at-test.true)

pub put-requires : goal.put-requires
put-requires c = omega (arith, c.loop-at.invariant.room, c.loop-at.auto.at-end)

pub set_again-requires : goal.set_again-requires
set_again-requires c = record {
  index = omega (arith, c.loop-at-test.true, c.requires.count);
  there =
      subst (λ es. IsSome (element_at c.loop-at.at es)) (sym (ap (λ v. v.elements) (c.loop-at.invariant.elements 0)) ∙ elements-here 0 c.loop-at.array)
      (array-there c.loop-at.at (length c.args.bodies.now) c.loop-at.invariant.ids
      (so-many c.args.values.now c.args.made c.args.bodies.now c.loop-at.values c.loop-at.array c.loop-at.at c.loop-at.invariant c.loop-at.auto.at-end) c.loop-at-test.true);
}

pub loop-at-init : goal.loop-at-init
loop-at-init c =
    list-start c.args.values.now c.args.made c.args.bodies.now c.reserve.new.self c.in_ok-array.array c.requires.good c.requires.once c.reserve.ensures.kept c.in_ok-array.ensures c.in_ok-reserve.ensures.reserved

pub loop-at-preserved : goal.loop-at-preserved
loop-at-preserved c =
    list-turn c.args.values.now c.args.made c.args.bodies.now c.loop-at.values c.put-id.new.values c.loop-at.array c.set_again.new.array c.loop-at.at (c.args.made + c.loop-at.at + 1) c.put-id.result.0 _ c.requires.alone c.loop-at.invariant
    c.loop-at-test.true refl c.put-id.ensures.added c.put-id.ensures.room c.set_again.ensures

pub returns-clause-listed : goal.returns-clause-listed
returns-clause-listed c =
    let all : c.loop-at.at ≡ length c.args.bodies.now = omega (arith, c.loop-at.auto.at-end, c.loop-at-test.false) in
    list-end c.args.values.now c.args.made c.args.bodies.now c.loop-at.values c.put.new.values c.loop-at.array c.loop-at.at (c.args.made + length c.args.bodies.now + 1) c.put.result.0 all c.loop-at.invariant refl c.put.ensures.added
