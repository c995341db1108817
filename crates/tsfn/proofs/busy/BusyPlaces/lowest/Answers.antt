use Rattle.std.proofs.Common.{◌<◌, refl, subst, arith, length, heap_items, Bool, List}
use Rattle.tsfn.specs.BusyPlaces.{IsLowestBusy}
use Rattle.tsfn.proofs.BusyHeaps.{top-lowest}
use Rattle.tsfn.proofs.busy.BusyPlaces.lowest.Goals as goal

pub returns-clause-lowest : goal.returns-clause-lowest
returns-clause-lowest c =
    let x = c.in_ok-top.top.now in
    let some : 0 < length (heap_items c.self.inside.heap) = let l = c.in_ok-top.ensures.variant.0 refl in omega (arith, l, c.self.inside.heap.data.ok.0) in
    let lowest : IsLowestBusy c.self.inside.busy.items x.0 =
    top-lowest _ _ _ _ c.self.invariant x c.in_ok-top.ensures.lookup some (c.in_ok-top.ensures.greatest c.self.invariant.order) in
    subst (λ (b : List Bool). IsLowestBusy b x.0) c.self.view_is lowest
