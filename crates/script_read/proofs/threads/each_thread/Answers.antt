use Rattle.std.proofs.Common.{◌≡◌, Err, arith, rules}
use Rattle.script_read.proofs.ReadLists.{every-next, every-stopped, every-ends}
use Rattle.script_read.proofs.threads.each_thread.Goals as goal

pub returns-in_err-thread : goal.returns-in_err-thread
returns-in_err-thread c =
    let stopped : c.from_residual.result ≡ Err c.in_err-thread.field-0.0 = search (rules, c.from_residual.ensures) in
    rw stopped (every-stopped _ _ _ _ _ _ _ (omega arith) c.index-items-t.is c.in_err-thread.ensures c.loop-t.invariant)

pub loop-t-preserved : goal.loop-t-preserved
loop-t-preserved c = every-next _ _ _ _ _ _ _ _ (omega arith) c.index-items-t.is c.in_ok-thread.ensures c.in-Ok.ensures.items c.loop-t.invariant

pub returns : goal.returns
returns c = rw c.of.ensures (every-ends _ _ _ _ _ (omega arith) c.loop-t.invariant)
