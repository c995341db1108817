use Rattle.value_store.proofs.Outcomes.{err-then}
use Rattle.value_store.proofs.StoreCalls.{live-held, element-kept, element-only, element-graph, same-state}
use Rattle.value_store.proofs.store.Store.set_element.Goals as goal

pub value_mut-record-requires : goal.value_mut-record-requires
value_mut-record-requires c = live-held c.self.inside.values c.self.inside.made c.self.inside.starting c.self.invariant c.args.self.now c.self.view_is c.args.id.0 c.requires.named

pub invariant_of-self : goal.invariant_of-self
invariant_of-self c = element-kept c.self.inside.values c.self.inside.made c.self.inside.starting c.self.invariant c.args.self.now c.self.view_is c.args.id.0 c.value_mut-record.result.now c.value_mut-record.ensures.value c.set_element.new.self 0 c.args.to.0 c.requires.value c.set_element.result c.args.at c.set_element.ensures.set c.set_element.ensures.err

pub returns-clause-set : goal.returns-clause-set
returns-clause-set c = element-only c.self.inside.values c.self.inside.made c.self.inside.starting c.self.invariant c.args.self.now c.self.view_is c.args.id.0 c.value_mut-record.result.now c.value_mut-record.ensures.value c.set_element.new.self 0 c.args.to.0 c.requires.value c.set_element.result c.args.at c.set_element.ensures.set

pub returns-clause-graph : goal.returns-clause-graph
returns-clause-graph c = element-graph c.self.inside.values c.self.inside.made c.self.inside.starting c.self.invariant c.args.self.now c.self.view_is c.args.id.0 c.value_mut-record.result.now c.value_mut-record.ensures.value c.set_element.new.self 0 c.args.to.0 c.requires.value c.set_element.result c.args.at c.set_element.ensures.set

pub returns-clause-err : goal.returns-clause-err
returns-clause-err c = err-then c.set_element.result (same-state c.self.inside.values c.self.inside.made c.self.inside.starting c.self.invariant c.args.self.now c.self.view_is c.args.id.0 c.value_mut-record.result.now c.value_mut-record.ensures.value c.set_element.new.self) c.set_element.ensures.err
