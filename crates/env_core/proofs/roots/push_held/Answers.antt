use Rattle.std.proofs.Common.{◌∙◌, ◌++◌, ap, arith}
use Rattle.std.specs.List.{filter_map}
use Rattle.std.proofs.lemmas.List.{take_all}
use Rattle.value_store.specs.StoreChanges.{numbers_of}
use Rattle.handle_scope.specs.HandleScopes.{handle_places}
use Rattle.env_core.proofs.Rooting.{pushed-more, places-values}
use Rattle.env_core.proofs.roots.push_held.Goals as goal

pub loop-at-preserved : goal.loop-at-preserved
loop-at-preserved c =
    pushed-more (numbers_of c.args.roots.now.items) (numbers_of c.loop-at.roots.items) (numbers_of c.push.new.roots.items) (handle_places c.args.scopes.now.frames) c.loop-at.at _ (omega arith) c.held_at.ensures c.loop-at.invariant c.in_ok-push.ensures

pub returns : goal.returns
returns c =
    let places = handle_places c.args.scopes.now.frames in
    c.loop-at.invariant ∙ ap (λ l. numbers_of c.args.roots.now.items ++ filter_map (λ place. place) l) (take_all c.loop-at.at places (omega arith)) ∙ ap (λ l. numbers_of c.args.roots.now.items ++ l) (places-values c.args.scopes.now.frames)
