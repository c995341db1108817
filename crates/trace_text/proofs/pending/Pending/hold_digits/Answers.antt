use Rattle.std.proofs.Common.{ap, arith, length}
use Rattle.trace_text.proofs.Decimals.{digits-kept}
use Rattle.trace_text.proofs.pending.Pending.hold_digits.Goals as goal

pub returns : goal.returns
returns c =
    let before = ap length c.waiting.ensures in
    let digits = c.count.ensures.count in
    digits-kept _ _ _ _ _ _ c.hold_word.ensures c.keep.ensures (omega arith) c.digits.ensures.digits
