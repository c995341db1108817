use Rattle.std.proofs.Common.{sym}
use Rattle.value_store.proofs.ReadingPlaces.{children-live}
use Rattle.value_store.proofs.store.Store.children.Goals as goal

pub returns-in-Some-clause-live : goal.returns-in-Some-clause-live
returns-in-Some-clause-live c = children-live c.args.self.now c.in-Some.ensures.sound c.args.id.0 c.in-Some.value (sym c.in-Some.ensures.value) c.children.result c.children.ensures.same
