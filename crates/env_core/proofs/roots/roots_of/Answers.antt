use Rattle.std.proofs.Common.{IfSome, Option, Some, None, option_map}
use Rattle.napi_types.specs.declared.ids.ValueId.{ValueId}
use Rattle.napi_types.specs.parts.Graph.{StoreState, IsLive}
use Rattle.value_store.specs.StoreChanges.{numbers_of}
use Rattle.napi_reference.specs.ReferencePlaces.{map_of}
use Rattle.env_core.proofs.Rooting.{gathered}
use Rattle.env_core.proofs.roots.roots_of.Goals as goal

alive : (s : StoreState) (p : Option ValueId) → IfSome p (λ v. IsLive s v.0) → IfSome (option_map (λ (v : ValueId). v.0) p) (IsLive s)
alive s None live = tt
alive s (Some v) live = live

pub returns : goal.returns
returns c =
    gathered c.args.store.now c.args.scopes.now (map_of c.args.references.now) c.args.functions.now (option_map (λ (v : ValueId). v.0) c.args.pending)
    c.args.registry.now.parts.promises
    (numbers_of c.in_ok-roots.roots.items) (numbers_of c.push_held.new.roots.items) (numbers_of c.push_strong.new.roots.items) (numbers_of c.push_values.new.values.items) (numbers_of c.push.new.roots.items) (numbers_of c.push_promise_roots.new.roots.items)
    c.requires.held c.requires.referred c.requires.rooted (alive c.args.store.now c.args.pending c.requires.pending) c.requires.promised c.in_ok-roots.ensures c.in_ok-push_held.ensures c.in_ok-push_strong.ensures c.in_ok-push_values.ensures c.in_ok-push.ensures
    c.in_ok-push_promise_roots.ensures
