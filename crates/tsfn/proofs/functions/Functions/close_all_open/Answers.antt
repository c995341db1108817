use Rattle.std.proofs.Common.{◌≡◌, length, sym, ap, arith}
use Rattle.tsfn.proofs.ClosedFronts.{closed-next}
use Rattle.tsfn.proofs.functions.Functions.close_all_open.Goals as goal

pub loop-place-preserved : goal.loop-place-preserved
loop-place-preserved c =
    let long : length c.args.self.now ≡ length c.self.inside.list.items = ap length (sym c.self.view_is) in
    closed-next c.loop-place.place c.args.self.now c.loop-place.self c.close.new.self c.loop-place.invariant c.close.ensures
    (omega (arith, long, c.loop-place-test.true, c.len-place-end.ensures, c.self.inside.list.ok.0))
