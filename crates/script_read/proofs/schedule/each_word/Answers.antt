use Rattle.std.proofs.Common.{◌≡◌, Err, arith, rules}
use Rattle.script_read.proofs.ReadLists.{every-next, every-stopped, every-ends}
use Rattle.script_read.proofs.schedule.each_word.Goals as goal

pub returns-in_err-word : goal.returns-in_err-word
returns-in_err-word c =
    let stopped : c.from_residual.result ≡ Err c.in_err-word.field-0.0 = search (rules, c.from_residual.ensures) in
    rw stopped (every-stopped _ _ _ _ _ _ _ (omega arith) c.index-items-s.is c.in_err-word.ensures c.loop-s.invariant)

pub loop-s-preserved : goal.loop-s-preserved
loop-s-preserved c = every-next _ _ _ _ _ _ _ _ (omega arith) c.index-items-s.is c.in_ok-word.ensures c.in-Ok.ensures.items c.loop-s.invariant

pub returns : goal.returns
returns c = rw c.of.ensures (every-ends _ _ _ _ _ (omega arith) c.loop-s.invariant)
