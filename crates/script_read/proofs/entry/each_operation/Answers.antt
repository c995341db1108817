use Rattle.std.proofs.Common.{◌≡◌, Err, arith, rules}
use Rattle.script_read.proofs.ReadLists.{each-next, each-stopped, each-ends}
use Rattle.script_read.proofs.entry.each_operation.Goals as goal

pub returns-in_err-operation : goal.returns-in_err-operation
returns-in_err-operation c =
    let stopped : c.from_residual.result ≡ Err c.in_err-operation.field-0.0 = search (rules, c.from_residual.ensures) in
    rw stopped (each-stopped _ _ _ _ _ _ _ _ (omega arith) c.index-items-o.is c.in_err-operation.ensures c.loop-o.invariant)

pub loop-o-preserved : goal.loop-o-preserved
loop-o-preserved c = each-next _ _ _ _ _ _ _ _ _ _ (omega arith) c.index-items-o.is c.in_ok-operation.ensures c.in-Ok.ensures.items c.loop-o.invariant

pub returns : goal.returns
returns c = rw c.of.ensures (each-ends _ _ _ _ _ _ (omega arith) c.loop-o.invariant)
