use Rattle.std.proofs.lemmas.List.Elements.{All-nil}
use Rattle.napi_types.specs.parts.Graph.{IsLive}
use Rattle.napi_types.specs.parts.Values.{fresh_value}
use Rattle.value_store.specs.declared.contents.Contents.TheVariants.{Plain}
use Rattle.value_store.proofs.Linked.{plain-here}
use Rattle.value_store.proofs.PropertyNames.{distinct-none}
use Rattle.value_store.proofs.StoreCalls.{make-kept, make-makes, make-graph}
use Rattle.value_store.proofs.store.Store.make.Goals as goal

pub invariant_of-self-2 : goal.invariant_of-self-2
invariant_of-self-2 c =
    make-kept c.self.inside.values c.self.inside.made c.self.inside.starting c.self.invariant c.args.self.now c.self.view_is c.make.new.self c.in_ok-id.id (Plain c.args.body) (λ n. fresh_value n c.args.body) (λ n. plain-here n c.args.body c.requires.alone)
    (record { fresh = c.in_ok-id.ensures.fresh; holds = c.in_ok-id.ensures.held; issued = c.in_ok-id.ensures.issued; once = c.in_ok-id.ensures.once }) (λ n. distinct-none) (λ n. All-nil (IsLive c.args.self.now))

pub returns-clause-made : goal.returns-clause-made
returns-clause-made c =
    make-makes c.self.inside.values c.self.inside.made c.self.inside.starting c.self.invariant c.args.self.now c.self.view_is c.make.new.self c.in_ok-id.id (Plain c.args.body) (λ n. fresh_value n c.args.body) (λ n. plain-here n c.args.body c.requires.alone)
    (record { fresh = c.in_ok-id.ensures.fresh; holds = c.in_ok-id.ensures.held; issued = c.in_ok-id.ensures.issued; once = c.in_ok-id.ensures.once }) (λ n. distinct-none) (λ n. All-nil (IsLive c.args.self.now))

pub returns-clause-graph : goal.returns-clause-graph
returns-clause-graph c =
    make-graph c.self.inside.values c.self.inside.made c.self.inside.starting c.self.invariant c.args.self.now c.self.view_is c.make.new.self c.in_ok-id.id (Plain c.args.body) (λ n. fresh_value n c.args.body) (λ n. plain-here n c.args.body c.requires.alone)
    (record { fresh = c.in_ok-id.ensures.fresh; holds = c.in_ok-id.ensures.held; issued = c.in_ok-id.ensures.issued; once = c.in_ok-id.ensures.once }) (λ n. distinct-none) (λ n. All-nil (IsLive c.args.self.now))
