use Rattle.std.proofs.Common.{◌≡◌, Err, arith, rules}
use Rattle.script_read.proofs.ReadLists.{each-next, each-stopped, each-ends}
use Rattle.script_read.proofs.addon.each_addon.Goals as goal

pub returns-in_err-addon : goal.returns-in_err-addon
returns-in_err-addon c =
    let stopped : c.from_residual.result ≡ Err c.in_err-addon.field-0.0 = search (rules, c.from_residual.ensures) in
    rw stopped (each-stopped _ _ _ _ _ _ _ _ (omega arith) c.index-items-a.is c.in_err-addon.ensures c.loop-a.invariant)

pub loop-a-preserved : goal.loop-a-preserved
loop-a-preserved c = each-next _ _ _ _ _ _ _ _ _ _ (omega arith) c.index-items-a.is c.in_ok-addon.ensures c.in-Ok.ensures.items c.loop-a.invariant

pub returns : goal.returns
returns c = rw c.of.ensures (each-ends _ _ _ _ _ _ (omega arith) c.loop-a.invariant)
