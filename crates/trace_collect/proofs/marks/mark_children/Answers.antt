use Rattle.std.proofs.Common.{◌∙◌, List, [], ℕ, refl, subst}
use Rattle.std.specs.List.{All}
use Rattle.std.proofs.lemmas.List.Elements.{All-head, All-tail}
use Rattle.napi_types.specs.parts.Graph.{IsLive}
use Rattle.trace_collect.proofs.Marking.{marks-none, child-next, children-done, marks-same}
use Rattle.trace_collect.proofs.marks.mark_children.Goals as goal

pub loop-child-init : goal.loop-child-init
loop-child-init c = record {
  marked = record { before = []; whole = refl; marks = marks-none c.args.store.now c.args.marks.now _ };
  live = c.children-children.ensures.live;
  capacity = refl;
}

pub mark-requires-clause-live : goal.mark-requires-clause-live
mark-requires-clause-live c =
    All-head (IsLive c.args.store.now) c.in-Some.child.0 c.next.new.self (subst (λ (ns : List ℕ). All (IsLive c.args.store.now) ns) c.in-Some.ensures c.loop-child.invariant.live)

pub loop-child-preserved : goal.loop-child-preserved
loop-child-preserved c = record {
  marked = child-next c.args.store.now _ _ _ c.in-Some.child.0 _ _ _ _ _ _ c.in-Some.ensures c.loop-child.invariant.marked c.mark.ensures.marked;
  live = All-tail (IsLive c.args.store.now) c.in-Some.child.0 c.next.new.self (subst (λ (ns : List ℕ). All (IsLive c.args.store.now) ns) c.in-Some.ensures c.loop-child.invariant.live);
  capacity = c.mark.ensures.capacity ∙ c.loop-child.invariant.capacity;
}

pub returns-clause-marked : goal.returns-clause-marked
returns-clause-marked c =
    marks-same c.args.store.now c.children-children.result _ _ _ _ _ c.children-children.ensures.same
    (children-done c.args.store.now c.children-children.result c.loop-child.children _ _ _ _ c.in_default.ensures c.loop-child.invariant.marked)
