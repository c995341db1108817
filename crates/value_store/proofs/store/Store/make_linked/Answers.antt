use Rattle.std.proofs.Common.{◌≡◌, ◌∙◌, ◌+◌, [], ◌∷◌, ◌++◌, refl, ap, option_map}
use Rattle.napi_types.specs.declared.body.Body.TheVariants as body
use Rattle.napi_types.specs.declared.ids.ValueId.{ValueId}
use Rattle.napi_types.specs.parts.Graph.{IsLive, graph_of}
use Rattle.napi_types.specs.parts.Values.{Value, linked_value}
use Rattle.value_store.specs.declared.contents.Contents.TheVariants.{Plain}
use Rattle.value_store.proofs.Linked.{linked-children, linked-named}
use Rattle.value_store.proofs.PropertyNames.{distinct-none}
use Rattle.value_store.proofs.StoreCalls.{make-kept, make-makes, make-graph}
use Rattle.value_store.proofs.store.Store.make_linked.Goals as goal

pub invariant_of-self-2 : goal.invariant_of-self-2
invariant_of-self-2 c =
    make-kept c.self.inside.values c.self.inside.made c.self.inside.starting c.self.invariant c.args.self.now c.self.view_is c.make.new.self c.in_ok-id.id (Plain (body.Linked c.args.tag c.args.to))
    (λ n. linked_value n c.args.tag (option_map (λ (v : ValueId). v.0) c.args.to)) (λ n. refl)
    (record { fresh = c.in_ok-id.ensures.fresh; holds = c.in_ok-id.ensures.held; issued = c.in_ok-id.ensures.issued; once = c.in_ok-id.ensures.once })
    (λ n. distinct-none) (λ n. linked-children (IsLive c.args.self.now) n c.args.tag c.args.to c.requires.child)

pub returns-clause-made : goal.returns-clause-made
returns-clause-made c =
    make-makes c.self.inside.values c.self.inside.made c.self.inside.starting c.self.invariant c.args.self.now c.self.view_is c.make.new.self c.in_ok-id.id (Plain (body.Linked c.args.tag c.args.to))
    (λ n. linked_value n c.args.tag (option_map (λ (v : ValueId). v.0) c.args.to)) (λ n. refl)
    (record { fresh = c.in_ok-id.ensures.fresh; holds = c.in_ok-id.ensures.held; issued = c.in_ok-id.ensures.issued; once = c.in_ok-id.ensures.once })
    (λ n. distinct-none) (λ n. linked-children (IsLive c.args.self.now) n c.args.tag c.args.to c.requires.child)

pub returns-clause-graph : goal.returns-clause-graph
returns-clause-graph c =
    make-graph c.self.inside.values c.self.inside.made c.self.inside.starting c.self.invariant c.args.self.now c.self.view_is c.make.new.self c.in_ok-id.id (Plain (body.Linked c.args.tag c.args.to))
    (λ n. linked_value n c.args.tag (option_map (λ (v : ValueId). v.0) c.args.to)) (λ n. refl)
    (record { fresh = c.in_ok-id.ensures.fresh; holds = c.in_ok-id.ensures.held; issued = c.in_ok-id.ensures.issued; once = c.in_ok-id.ensures.once })
    (λ n. distinct-none) (λ n. linked-children (IsLive c.args.self.now) n c.args.tag c.args.to c.requires.child)
    ∙ ap (λ (v : Value). graph_of c.args.self.now ++ v ∷ []) (linked-named c.args.self.now (c.args.self.now.made + 1) c.args.tag c.args.to)
