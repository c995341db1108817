use Rattle.std.proofs.Common.{ap, sym}
use Rattle.tsfn.specs.FunctionList.{context_there}
use Rattle.tsfn.proofs.PlacedFunctions.{there}
use Rattle.tsfn.proofs.functions.Functions.context.Goals as goal

pub returns-in-Some : goal.returns-in-Some
returns-in-Some c =
    rw (← c.self.view_is, c.context.ensures)
    (sym (ap context_there (there c.self.inside.list.items c.self.invariant.numbered c.in-Some.place c.args.id.0 c.index.result.now (rw (← c.self.view_is) at c.in-Some.ensures.there.0) c.in-Some.ensures.there.1 c.index.ensures)))
