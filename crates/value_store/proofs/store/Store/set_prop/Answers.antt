use Rattle.value_store.proofs.Outcomes.{err-then}
use Rattle.value_store.proofs.ReadingPlaces.{object-live}
use Rattle.value_store.proofs.StoreCalls.{live-held, property-kept, property-only, property-graph, same-state}
use Rattle.value_store.proofs.store.Store.set_prop.Goals as goal

pub value_mut-record-requires : goal.value_mut-record-requires
value_mut-record-requires c = live-held c.self.inside.values c.self.inside.made c.self.inside.starting c.self.invariant c.args.self.now c.self.view_is c.args.id.0 (object-live c.args.self.now c.args.id.0 c.requires.object)

pub invariant_of-self : goal.invariant_of-self
invariant_of-self c = property-kept c.self.inside.values c.self.inside.made c.self.inside.starting c.self.invariant c.args.self.now c.self.view_is c.args.id.0 c.value_mut-record.result.now c.value_mut-record.ensures.value c.set_prop.new.self c.args.name.0 c.args.to.0 c.requires.value c.set_prop.result c.set_prop.ensures.set c.set_prop.ensures.err

pub returns-clause-set : goal.returns-clause-set
returns-clause-set c = property-only c.self.inside.values c.self.inside.made c.self.inside.starting c.self.invariant c.args.self.now c.self.view_is c.args.id.0 c.value_mut-record.result.now c.value_mut-record.ensures.value c.set_prop.new.self c.args.name.0 c.args.to.0 c.requires.value c.set_prop.result c.set_prop.ensures.set

pub returns-clause-graph : goal.returns-clause-graph
returns-clause-graph c = property-graph c.self.inside.values c.self.inside.made c.self.inside.starting c.self.invariant c.args.self.now c.self.view_is c.args.id.0 c.value_mut-record.result.now c.value_mut-record.ensures.value c.set_prop.new.self c.args.name.0 c.args.to.0 c.requires.value c.set_prop.result c.set_prop.ensures.set

pub returns-clause-err : goal.returns-clause-err
returns-clause-err c = err-then c.set_prop.result (same-state c.self.inside.values c.self.inside.made c.self.inside.starting c.self.invariant c.args.self.now c.self.view_is c.args.id.0 c.value_mut-record.result.now c.value_mut-record.ensures.value c.set_prop.new.self) c.set_prop.ensures.err
