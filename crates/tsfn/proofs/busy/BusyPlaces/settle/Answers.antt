use Rattle.tsfn.specs.BusyPlaces.{IsLowestBusy}
use Rattle.tsfn.proofs.BusyHeaps.{kept-settled, popped-same}
use Rattle.tsfn.proofs.busy.BusyPlaces.settle.Goals as goal

pub invariant_of-self : goal.invariant_of-self
invariant_of-self c =
    let lowest : IsLowestBusy c.self.inside.busy.items c.args.place = rw c.self.view_is c.requires in
    let popped = c.in-Some.ensures.heap_order c.self.invariant.order in
    kept-settled _ _ _ _ c.self.invariant c.args.place _ _ _ _ lowest.within lowest.is
    (popped-same _ _ _ _ c.self.invariant c.in-Some.field-0 _ c.args.place c.in-Some.ensures.permutation popped.1 lowest) c.in-Some.ensures.permutation popped.0 c.in-Some.ensures.len
    c.pop.ensures.capacity
