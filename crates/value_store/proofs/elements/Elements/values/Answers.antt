use Rattle.value_store.proofs.ElementMaps.{children-listed, many-listed}
use Rattle.value_store.proofs.elements.Elements.values.Goals as goal

pub returns-clause-same : goal.returns-clause-same
returns-clause-same c = rw (← c.self.view_is, c.as_slice.ensures.entries) (children-listed c.self.inside.values.entries c.self.inside.count c.self.invariant.indices c.self.invariant.within)

pub returns-clause-many : goal.returns-clause-many
returns-clause-many c = rw (← c.self.view_is, c.as_slice.ensures.entries) (many-listed c.self.inside.values.entries c.self.inside.count c.self.invariant.indices c.self.invariant.within)
