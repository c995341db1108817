use Rattle.std.proofs.Common.{rules}
use Rattle.trace_text.proofs.Adding.{put_step, put_fault}
use Rattle.trace_text.proofs.put.put_all.Goals as goal

pub returns-in_err-at-clause-err : goal.returns-in_err-at-clause-err
returns-in_err-at-clause-err g c =
    let prefix = put_fault _ _ _ _ _ c.loop-at.invariant.prefix c.in_err-at.ensures.takes in search rules

pub loop-at-preserved : goal.loop-at-preserved
loop-at-preserved g c = record {
  within = search rules;
  counted = search rules;
  prefix = put_step _ _ _ _ _ _ c.loop-at.invariant.prefix c.in_ok-at.ensures.takes;
}
