use Rattle.std.proofs.Common.{◌∙◌, option_map}
use Rattle.napi_types.specs.declared.ids.ValueId.{ValueId}
use Rattle.napi_types.specs.parts.Graph.{IsLive}
use Rattle.napi_types.specs.parts.NewValues.{error_of}
use Rattle.value_store.proofs.Errors.{error-names, error-children, error-graph}
use Rattle.value_store.proofs.StoreCalls.{make-kept, make-makes, make-graph}
use Rattle.value_store.proofs.store.Store.make_error.Goals as goal

pub invariant_of-self-2 : goal.invariant_of-self-2
invariant_of-self-2 c =
    make-kept c.self.inside.values c.self.inside.made c.self.inside.starting c.self.invariant c.args.self.now c.self.view_is c.make.new.self c.in_ok-id.id c.in_ok-value.value
    (λ n. error_of n (option_map (λ (v : ValueId). v.0) c.args.code) c.args.message.0) c.in_ok-value.ensures
    (record { fresh = c.in_ok-id.ensures.fresh; holds = c.in_ok-id.ensures.held; issued = c.in_ok-id.ensures.issued; once = c.in_ok-id.ensures.once })
    (λ n. error-names n (option_map (λ (v : ValueId). v.0) c.args.code) c.args.message.0)
    (λ n. error-children (IsLive c.args.self.now) n c.args.code c.args.message.0 c.requires.code c.requires.message)

pub returns-clause-made : goal.returns-clause-made
returns-clause-made c =
    make-makes c.self.inside.values c.self.inside.made c.self.inside.starting c.self.invariant c.args.self.now c.self.view_is c.make.new.self c.in_ok-id.id c.in_ok-value.value
    (λ n. error_of n (option_map (λ (v : ValueId). v.0) c.args.code) c.args.message.0) c.in_ok-value.ensures
    (record { fresh = c.in_ok-id.ensures.fresh; holds = c.in_ok-id.ensures.held; issued = c.in_ok-id.ensures.issued; once = c.in_ok-id.ensures.once })
    (λ n. error-names n (option_map (λ (v : ValueId). v.0) c.args.code) c.args.message.0)
    (λ n. error-children (IsLive c.args.self.now) n c.args.code c.args.message.0 c.requires.code c.requires.message)

pub returns-clause-graph : goal.returns-clause-graph
returns-clause-graph c =
    make-graph c.self.inside.values c.self.inside.made c.self.inside.starting c.self.invariant c.args.self.now c.self.view_is c.make.new.self c.in_ok-id.id c.in_ok-value.value
    (λ n. error_of n (option_map (λ (v : ValueId). v.0) c.args.code) c.args.message.0) c.in_ok-value.ensures
    (record { fresh = c.in_ok-id.ensures.fresh; holds = c.in_ok-id.ensures.held; issued = c.in_ok-id.ensures.issued; once = c.in_ok-id.ensures.once })
    (λ n. error-names n (option_map (λ (v : ValueId). v.0) c.args.code) c.args.message.0)
    (λ n. error-children (IsLive c.args.self.now) n c.args.code c.args.message.0 c.requires.code c.requires.message)
    ∙ error-graph c.args.self.now (c.args.self.now.made) c.args.code c.args.message.0
