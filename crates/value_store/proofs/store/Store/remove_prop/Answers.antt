use Rattle.std.proofs.Common.{◌∙◌, not, is_some, sym, ap}
use Rattle.napi_types.specs.parts.Graph.{value_of}
use Rattle.napi_types.specs.parts.Properties.{property_at}
use Rattle.value_store.proofs.ReadingPlaces.{none-is}
use Rattle.value_store.proofs.StoreCalls.{live-held, none-graph, properties-there, removal-kept, removal-only, removal-graph}
use Rattle.value_store.proofs.store.Store.remove_prop.Goals as goal

pub returns-then-is_none-clause-graph : goal.returns-then-is_none-clause-graph
returns-then-is_none-clause-graph c =
    none-graph c.self.inside.values c.self.inside.made c.self.inside.starting c.self.invariant c.args.self.now c.self.view_is c.args.id.0 c.args.name.0
    (none-is (value_of c.args.self.now c.args.id.0) (sym (ap is_some c.get.ensures.value) ∙ c.is_none.ensures ∙ ap not c.if-is_none.true))

pub value_mut-record-requires : goal.value_mut-record-requires
value_mut-record-requires c = live-held c.self.inside.values c.self.inside.made c.self.inside.starting c.self.invariant c.args.self.now c.self.view_is c.args.id.0 (sym (ap is_some c.get.ensures.value) ∙ c.is_none.ensures ∙ ap not c.if-is_none.false)

pub invariant_of-self : goal.invariant_of-self
invariant_of-self c = removal-kept c.self.inside.values c.self.inside.made c.self.inside.starting c.self.invariant c.args.self.now c.self.view_is c.args.id.0 c.value_mut-record.result.now c.value_mut-record.ensures.value c.remove_prop.new.self c.args.name.0 c.remove_prop.ensures.removed

pub returns-clause-removed : goal.returns-clause-removed
returns-clause-removed c = removal-only c.self.inside.values c.self.inside.made c.self.inside.starting c.self.invariant c.args.self.now c.self.view_is c.args.id.0 c.value_mut-record.result.now c.value_mut-record.ensures.value c.remove_prop.new.self c.args.name.0 c.remove_prop.ensures.removed

pub returns-clause-graph : goal.returns-clause-graph
returns-clause-graph c = removal-graph c.self.inside.values c.self.inside.made c.self.inside.starting c.self.invariant c.args.self.now c.self.view_is c.args.id.0 c.value_mut-record.result.now c.value_mut-record.ensures.value c.remove_prop.new.self c.args.name.0 c.remove_prop.ensures.removed

pub returns-clause-was_there : goal.returns-clause-was_there
returns-clause-was_there c =
    c.remove_prop.ensures.was ∙ ap (λ ps. is_some (property_at c.args.name.0 ps)) (sym (properties-there c.self.inside.values c.self.inside.made c.self.inside.starting c.self.invariant c.args.self.now c.self.view_is c.args.id.0 c.value_mut-record.result.now c.value_mut-record.ensures.value c.remove_prop.new.self))
