use Rattle.std.proofs.Common.{◌∙◌}
use Rattle.tsfn.proofs.FirstMoves.{busy-move}
use Rattle.tsfn.proofs.functions.Functions.has_move.Goals as goal

pub returns : goal.returns
returns c = c.is_some.ensures ∙ busy-move c.args.self.now c.first_busy.result c.first_busy.ensures.lowest c.first_busy.ensures.none
