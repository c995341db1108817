use Rattle.value_store.proofs.Linked.{linked-live}
use Rattle.value_store.proofs.StoreCalls.{live-held, link-there, link-kept, link-only, link-graph}
use Rattle.value_store.proofs.store.Store.link.Goals as goal

pub value_mut-linked-requires : goal.value_mut-linked-requires
value_mut-linked-requires c = live-held c.self.inside.values c.self.inside.made c.self.inside.starting c.self.invariant c.args.self.now c.self.view_is c.args.id.0 (linked-live c.args.self.now c.args.id.0 c.requires.linked)

pub link-requires : goal.link-requires
link-requires c = link-there c.self.inside.values c.self.inside.made c.self.inside.starting c.self.invariant c.args.self.now c.self.view_is c.args.id.0 c.value_mut-linked.result.now c.value_mut-linked.ensures.value c.value_mut-linked.result.now.value c.requires.linked

pub invariant_of-self : goal.invariant_of-self
invariant_of-self c = link-kept c.self.inside.values c.self.inside.made c.self.inside.starting c.self.invariant c.args.self.now c.self.view_is c.args.id.0 c.value_mut-linked.result.now c.value_mut-linked.ensures.value c.link.new.self c.args.to.0 c.requires.value c.link.ensures

pub returns-clause-set : goal.returns-clause-set
returns-clause-set c = link-only c.self.inside.values c.self.inside.made c.self.inside.starting c.self.invariant c.args.self.now c.self.view_is c.args.id.0 c.value_mut-linked.result.now c.value_mut-linked.ensures.value c.link.new.self c.args.to.0 c.requires.value c.link.ensures

pub returns-clause-graph : goal.returns-clause-graph
returns-clause-graph c = link-graph c.self.inside.values c.self.inside.made c.self.inside.starting c.self.invariant c.args.self.now c.self.view_is c.args.id.0 c.value_mut-linked.result.now c.value_mut-linked.ensures.value c.link.new.self c.args.to.0 c.requires.value c.link.ensures
