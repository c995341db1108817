use Rattle.std.proofs.Common.{ap, sym, option_map}
use Rattle.tsfn.specs.FunctionList.{queued_items}
use Rattle.tsfn.proofs.PlacedFunctions.{there}
use Rattle.tsfn.proofs.functions.Functions.queued.Goals as goal

pub returns-in-Some : goal.returns-in-Some
returns-in-Some c =
    rw (← c.self.view_is, c.queued.ensures)
    (sym (ap (option_map queued_items) (there c.self.inside.list.items c.self.invariant.numbered c.in-Some.place c.args.id.0 c.index.result.now (rw (← c.self.view_is) at c.in-Some.ensures.there.0) c.in-Some.ensures.there.1 c.index.ensures)))
