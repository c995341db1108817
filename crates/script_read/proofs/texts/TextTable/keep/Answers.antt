use Rattle.std.proofs.Common.{arith}
use Rattle.script_read.proofs.Tables.{kept, not-found}
use Rattle.script_read.proofs.texts.TextTable.keep.Goals as goal

pub invariant_of-self : goal.invariant_of-self
invariant_of-self c =
    kept _ _ _ _ _ _ c.self.invariant (not-found _ _ (c.self.invariant.numbers c.args.text.now) c.if-contains_key.ensures) (omega arith)
    c.put.ensures.texts c.put.ensures.found c.put.ensures.texts_stay c.put.ensures.numbers_stay
