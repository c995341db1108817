use Rattle.std.proofs.Common.{rules, ◌≡◌, [], ◌∷◌, length, vec_len, sym, ap, subst, arith}
use Rattle.std.proofs.lemmas.List.{nil_from_length}
use Rattle.std.specs.Vec.Iter.{into_iter_items}
use Rattle.runner.specs.StartRoom.{Fills, IsEndedAt}
use Rattle.runner.proofs.JoinedActors.{Joining, joining-none, joining-more, joining-all, joining-none-left}
use Rattle.runner.proofs.join.join_all.Goals as goal

pub loop-child-init : goal.loop-child-init
loop-child-init g c = (
  search rules,
  λ actors f. subst (λ cs. Joining g.N.Naming.numbers c.args.hub.now actors c.args.passes.now.items cs c.args.strays.items c.args.passes.now.items)
      (sym c.into_iter-child-iterator.ensures.into_iter_gives.0)
      (joining-none g.N.Naming.numbers c.args.hub.now actors c.args.passes.now.items c.args.children.items c.args.strays.items f),
)

pub join_one-pass-requires-after_bounds : goal.join_one-pass-requires-after_bounds
join_one-pass-requires-after_bounds g c κs within =
    let n = g.N.Naming.numbers in
    let h = c.args.hub.now in
    let joining = c.loop-child.invariant.1 c.requires.fills.0 c.requires.fills.1 in
    let step : into_iter_items c.loop-child.child-iterator ≡ c.in-Some.child ∷ into_iter_items c.next.new.self = search rules in
    (joining.next, joining.later, into_iter_items c.next.new.self, subst (λ cs. Fills (IsEndedAt n h) n h joining.next joining.later cs c.loop-child.strays.items) step joining.fills)

pub loop-child-preserved : goal.loop-child-preserved
loop-child-preserved g c =
    let n = g.N.Naming.numbers in
    let h = c.args.hub.now in
    let old = c.args.passes.now.items in
    let now = c.loop-child.passes.items in
    let step : into_iter_items c.loop-child.child-iterator ≡ c.in-Some.child ∷ into_iter_items c.next.new.self = search rules in (
      search rules,
      λ actors f. subst (Joining n h actors old (into_iter_items c.next.new.self) c.join_one-pass.new.strays.items) (sym c.push_reserved.ensures.items)
          (joining-more n h actors old c.in-Some.child (into_iter_items c.next.new.self) c.loop-child.strays.items c.join_one-pass.new.strays.items now c.join_one-pass.result
          (subst (λ cs. Joining n h actors old cs c.loop-child.strays.items now) step (c.loop-child.invariant.1 actors f)) c.join_one-pass.ensures),
    )

pub destroy_empty-requires : goal.destroy_empty-requires
destroy_empty-requires g c =
    let n = g.N.Naming.numbers in
    let h = c.args.hub.now in
    let left : length (into_iter_items c.loop-child.child-iterator) ≡ 0 = search rules in
    let none : into_iter_items c.loop-child.child-iterator ≡ [] = nil_from_length _ left in
    let empty : c.loop-child.strays.items ≡ [] = joining-none-left n h c.requires.fills.0 c.args.passes.now.items c.loop-child.strays.items c.loop-child.passes.items
    (subst (λ cs. Joining n h c.requires.fills.0 c.args.passes.now.items cs c.loop-child.strays.items c.loop-child.passes.items) none
    (c.loop-child.invariant.1 c.requires.fills.0 c.requires.fills.1)) in
    let len : length c.loop-child.strays.items ≡ vec_len c.loop-child.strays = search rules in
    let none_left : length c.loop-child.strays.items ≡ 0 = ap length empty in
    omega (arith, len, none_left)

pub returns : goal.returns
returns g c = λ actors f.
    let n = g.N.Naming.numbers in
    let h = c.args.hub.now in
    let left : length (into_iter_items c.loop-child.child-iterator) ≡ 0 = search rules in
    let none : into_iter_items c.loop-child.child-iterator ≡ [] = nil_from_length _ left in
    joining-all n h actors c.args.passes.now.items c.loop-child.strays.items c.loop-child.passes.items
    (subst (λ cs. Joining n h actors c.args.passes.now.items cs c.loop-child.strays.items c.loop-child.passes.items) none (c.loop-child.invariant.1 actors f))
