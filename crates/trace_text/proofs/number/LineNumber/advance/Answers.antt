use Rattle.std.proofs.Common.{arith}
use Rattle.trace_text.proofs.Decimals.{some-digits, last-rises}
use Rattle.trace_text.proofs.number.LineNumber.advance.Goals as goal

pub overflow_sub-last : goal.overflow_sub-last
overflow_sub-last c = some-digits _ _ _ (omega arith) c.self.invariant.1

pub invariant_of-self : goal.invariant_of-self
invariant_of-self c = (c.self.invariant.0, last-rises _ _ _ (omega arith) (omega arith) c.self.invariant.1 c.if-self-last-lt57.true)
