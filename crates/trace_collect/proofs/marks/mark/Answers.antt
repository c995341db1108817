use Rattle.std.proofs.Common.{◌≡◌, ◌∙◌, ◌+◌, ◌<◌, [], ◌∷◌, length, true, slice_set, sym, arith}
use Rattle.std.proofs.lemmas.List.{map-append}
use Rattle.napi_types.specs.declared.ids.ValueId.{ValueId}
use Rattle.value_store.specs.StoreChanges.{numbers_of}
use Rattle.trace_collect.specs.MarkedValues.{unmarked_count}
use Rattle.trace_collect.proofs.Marking.{marks-set}
use Rattle.trace_collect.proofs.Unmarked.{unmarked-set}
use Rattle.trace_collect.proofs.marks.mark.Goals as goal

pub push_reserved-requires : goal.push_reserved-requires
push_reserved-requires c =
    let less : c.place_of-place.result < length c.args.marks.now = omega (arith, c.place_of-place.ensures.within, c.requires.size) in
    let fewer : unmarked_count c.args.store.now (slice_set c.args.marks.now c.place_of-place.result true) + 1 ≡ unmarked_count c.args.store.now c.args.marks.now =
    unmarked-set c.args.store.now c.args.marks.now c.place_of-place.result c.args.id.0 less (sym c.is_set.ensures ∙ c.if-is_set.false) c.place_of-place.ensures.there in
    omega (arith, fewer, c.requires.room, c.args.left.now.ok.0)

pub returns-clause-marked : goal.returns-clause-marked
returns-clause-marked c =
    let less : c.place_of-place.result < length c.args.marks.now = omega (arith, c.place_of-place.ensures.within, c.requires.size) in
    rw (c.set.ensures, c.push_reserved.ensures.items, map-append (λ (v : ValueId). v.0) c.args.left.now.items (c.args.id ∷ []))
    (marks-set c.args.store.now c.args.marks.now (numbers_of c.args.left.now.items) c.args.id.0 c.place_of-place.result c.place_of-place.ensures less (sym c.is_set.ensures ∙ c.if-is_set.false))
