use Rattle.std.proofs.Common.{rules, ◌≡◌, ◌<◌, sym, subst, length}
use Rattle.runner.specs.ActorsAtTheLock.{IsStray, HasEndedStray}
use Rattle.runner.proofs.StraysInOrder.{one-more-ended, ended-at-last, stray-left}
use Rattle.runner.proofs.strays.end_strays.Goals as goal

pub end_stray-requires-after_bounds : goal.end_stray-requires-after_bounds
end_stray-requires-after_bounds g c κs within =
    let n = g.N.Naming.numbers in
    let xs = c.loop-next.strays.items in
    let place = c.loop-next.next in
    let below : place < length xs = search rules in
    subst (IsStray n c.args.hub.now) (sym c.index_mut.ensures.value)
    (stray-left n c.args.hub.now c.args.strays.now.items xs place c.index_mut.result.now c.requires c.loop-next.invariant.0 below)

pub loop-next-preserved : goal.loop-next-preserved
loop-next-preserved g c =
    let n = g.N.Naming.numbers in
    let xs = c.loop-next.strays.items in
    let place = c.loop-next.next in
    let new = c.end_stray.new.stray in
    let below : place < length xs = search rules in (
      one-more-ended n c.args.strays.now.items xs place c.index_mut.result.now new c.loop-next.invariant.0 below
          (subst (λ s. HasEndedStray n s new) c.index_mut.ensures.value c.end_stray.ensures.ended),
      search rules,
    )

pub returns : goal.returns
returns g c =
    let all : c.loop-next.next ≡ length c.args.strays.now.items = search rules in
    ended-at-last g.N.Naming.numbers c.args.strays.now.items c.loop-next.strays.items c.loop-next.next all c.loop-next.invariant.0
