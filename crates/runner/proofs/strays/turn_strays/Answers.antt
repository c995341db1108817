use Rattle.std.proofs.Common.{rules, ◌<◌, refl, subst, length}
use Rattle.std.proofs.lemmas.List.Elements.{All-set}
use Rattle.runner.specs.ActorsAtTheLock.{IsStray, IsSameStray}
use Rattle.runner.proofs.SameStrays.{same-strays-none}
use Rattle.runner.proofs.StraysInOrder.{same-strays-set}
use Rattle.runner.proofs.strays.turn_strays.Goals as goal

pub loop-place-init : goal.loop-place-init
loop-place-init g c = (c.requires, same-strays-none g.N.Naming.numbers c.args.hub.now c.args.strays.now.items c.requires, refl)

pub loop-place-preserved : goal.loop-place-preserved
loop-place-preserved g c =
    let xs = c.loop-place.strays.items in
    let place = c.loop-place.place in
    let new = c.turn_stray.new.stray in
    let within : place < length xs = search rules in (
      All-set (IsStray g.N.Naming.numbers c.args.hub.now) xs place new c.turn_stray.ensures.stray c.loop-place.invariant.0,
      same-strays-set c.args.strays.now.items xs place c.index_mut.result.now new c.loop-place.invariant.1 within
          (subst (λ s. IsSameStray s new) c.index_mut.ensures.value c.turn_stray.ensures.same),
      search rules,
    )
