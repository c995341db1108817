use Rattle.std.proofs.Common.{◌≡◌, ◌+◌, ◌++◌, [], ◌∷◌, List, ℕ, length, ap, arith, subst, ◌∙◌}
use Rattle.std.proofs.lemmas.List.{map-append}
use Rattle.napi_types.specs.declared.ids.ValueId.{ValueId}
use Rattle.value_store.specs.StoreChanges.{numbers_of}
use Rattle.trace_collect.specs.MarkedValues.{IsMarking, unmarked_count}
use Rattle.trace_collect.proofs.Marking.{room-kept}
use Rattle.trace_collect.proofs.Reached.{marking-turn}
use Rattle.trace_collect.proofs.marks.follow.Goals as goal

pub loop-id-preserved : goal.loop-id-preserved
loop-id-preserved c =
    let last : numbers_of c.loop-id.left.items ≡ numbers_of c.pop.new.self.items ++ c.in-Some.id.0 ∷ [] = ap numbers_of c.in-Some.ensures.items ∙ map-append (λ (v : ValueId). v.0) c.pop.new.self.items (c.in-Some.id ∷ []) in
    let same : length c.mark_children.new.left.items + unmarked_count c.args.store.now c.mark_children.new.marks ≡ length c.pop.new.self.items + unmarked_count c.args.store.now c.loop-id.marks = room-kept c.args.store.now _ _ _ _ _ c.mark_children.ensures.marked in
    record {
      marking = λ roots before. marking-turn c.args.store.now c.requires.once c.requires.sound roots _ _ _ _ c.in-Some.id.0
          (subst (λ (left : List ℕ). IsMarking c.args.store.now roots c.loop-id.marks left) last (c.loop-id.invariant.marking roots before)) c.mark_children.ensures.marked;
      room = omega (arith, same, c.in-Some.ensures.len, c.pop.ensures.capacity, c.mark_children.ensures.capacity, c.loop-id.invariant.room);
      size = c.mark_children.ensures.marked.size ∙ c.loop-id.invariant.size;
    }

pub loop-id-smaller : goal.loop-id-smaller
loop-id-smaller c =
    let same : length c.mark_children.new.left.items + unmarked_count c.args.store.now c.mark_children.new.marks ≡ length c.pop.new.self.items + unmarked_count c.args.store.now c.loop-id.marks = room-kept c.args.store.now _ _ _ _ _ c.mark_children.ensures.marked in
    omega (arith, same, c.in-Some.ensures.len)

pub returns-clause-followed : goal.returns-clause-followed
returns-clause-followed c = λ roots before. subst (λ (left : List ValueId). IsMarking c.args.store.now roots c.loop-id.marks (numbers_of left)) (none c.loop-id.left.items (omega (arith, c.in_default.ensures.cases))) (c.loop-id.invariant.marking roots before)
  where
    none : (left : List ValueId) → length left ≡ 0 → left ≡ []
    none [] h = cc
    none (v ∷ left) h = absurd (omega arith)
