use Rattle.std.proofs.Common.{◌≡◌, Err, arith, rules}
use Rattle.script_read.proofs.ReadLists.{each-next, each-stopped, each-ends}
use Rattle.script_read.proofs.addon.each_entry.Goals as goal

pub returns-in_err-entry : goal.returns-in_err-entry
returns-in_err-entry c =
    let stopped : c.from_residual.result ≡ Err c.in_err-entry.field-0.0 = search (rules, c.from_residual.ensures) in
    rw stopped (each-stopped _ _ _ _ _ _ _ _ (omega arith) c.index-items-e.is c.in_err-entry.ensures c.loop-e.invariant)

pub loop-e-preserved : goal.loop-e-preserved
loop-e-preserved c = each-next _ _ _ _ _ _ _ _ _ _ (omega arith) c.index-items-e.is c.in_ok-entry.ensures c.in-Ok.ensures.items c.loop-e.invariant

pub returns : goal.returns
returns c = rw c.of.ensures (each-ends _ _ _ _ _ _ (omega arith) c.loop-e.invariant)
