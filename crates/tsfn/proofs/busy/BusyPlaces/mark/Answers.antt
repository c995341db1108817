use Rattle.std.proofs.Common.{◌≡◌, ◌<◌, false, refl, sym, ◌∙◌, length}
use Rattle.std.proofs.lemmas.List.{get_or_read}
use Rattle.tsfn.specs.BusyPlaces.{is_busy_at}
use Rattle.tsfn.proofs.BusyHeaps.{kept-marked}
use Rattle.tsfn.proofs.busy.BusyPlaces.mark.Goals as goal

pub invariant_of-self : goal.invariant_of-self
invariant_of-self c =
    let within : c.args.place < length c.self.inside.busy.items = rw c.self.view_is c.requires in
    let idle : is_busy_at c.self.inside.busy.items c.args.place ≡ false =
    sym (get_or_read c.self.inside.busy.items c.args.place c.index.result.now within c.index.ensures false) ∙ c.if-index.false in
    kept-marked _ _ _ _ c.self.invariant c.args.place _ _ _ _ within idle refl c.in-Ok.ensures.permutation (c.in-Ok.ensures.heap_order c.self.invariant.order) c.in-Ok.ensures.len
    c.push.ensures.capacity
