use Rattle.std.proofs.Common.{◌+◌, ◌++◌, ◌∙◌, ap, refl, length}
use Rattle.napi_types.specs.parts.Graph.{StoreState, graph_of}
use Rattle.napi_types.specs.parts.NewValues.{list_of}
use Rattle.value_store.proofs.StoreCalls.{list-kept, list-makes, list-graph}
use Rattle.value_store.proofs.store.Store.make_list.Goals as goal

pub invariant_of-self-2 : goal.invariant_of-self-2
invariant_of-self-2 c =
    list-kept c.self.inside.values c.self.inside.made c.self.inside.starting c.self.invariant c.args.self.now c.self.view_is c.make_list.new.values (length c.args.bodies.now + 1)
    (list_of c.self.inside.made c.args.bodies.now) c.in_ok-id.id.0 c.make_list.ensures.once c.in_ok-id.ensures.listed

pub returns-clause-listed : goal.returns-clause-listed
returns-clause-listed c =
    list-makes c.self.inside.values c.self.inside.made c.self.inside.starting c.self.invariant c.args.self.now c.self.view_is c.make_list.new.values (length c.args.bodies.now + 1)
    (list_of c.self.inside.made c.args.bodies.now) c.in_ok-id.id.0 c.make_list.ensures.once c.in_ok-id.ensures.listed (length c.args.bodies.now) refl

pub returns-clause-graph : goal.returns-clause-graph
returns-clause-graph c =
    list-graph c.self.inside.values c.self.inside.made c.self.inside.starting c.self.invariant c.args.self.now c.self.view_is c.make_list.new.values (length c.args.bodies.now + 1)
    (list_of c.self.inside.made c.args.bodies.now) c.in_ok-id.id.0 c.make_list.ensures.once c.in_ok-id.ensures.listed
    ∙ ap (λ (s : StoreState). graph_of c.args.self.now ++ list_of s.made c.args.bodies.now) c.self.view_is
