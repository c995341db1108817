use Rattle.std.proofs.Common.{◌≤◌, ◌+◌, length, arith}
use Rattle.std.specs.BinaryHeap.{heap_capacity}
use Rattle.tsfn.proofs.BusyHeaps.{kept-more}
use Rattle.tsfn.proofs.busy.BusyPlaces.push.Goals as goal

pub invariant_of-self-2 : goal.invariant_of-self-2
invariant_of-self-2 c =
    let room : length c.self.inside.busy.items + 1 ≤ heap_capacity c.reserve.new.self =
    omega (arith, c.in_ok-reserve.ensures.ok, c.reserve.ensures.len, c.len.ensures, c.len-2.ensures, c.self.inside.busy.ok.0) in
    rw (c.in_ok-push.ensures.items, c.reserve.ensures.items, c.reserve.ensures.len) (kept-more _ _ _ _ c.self.invariant _ room)
