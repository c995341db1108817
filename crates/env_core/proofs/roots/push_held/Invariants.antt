use Rattle.std.proofs.Common.{◌≡◌, ◌++◌, take}
use Rattle.std.specs.List.{filter_map}
use Rattle.value_store.specs.StoreChanges.{numbers_of}
use Rattle.handle_scope.specs.HandleScopes.{handle_places}
use Rattle.env_core.proofs.roots.push_held.Given as goal

-- the values at the places that were passed are pushed
abbrev pub invariant-loop-at : goal.invariant-loop-at
invariant-loop-at l = numbers_of l.roots.items ≡ numbers_of l.fn.roots.items ++ filter_map (λ place. place) (take l.at (handle_places l.scopes.frames))
