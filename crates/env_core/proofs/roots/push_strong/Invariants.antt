use Rattle.std.proofs.Common.{◌≡◌, ◌++◌, map, take}
use Rattle.std.specs.List.{filter_map}
use Rattle.value_store.specs.StoreChanges.{numbers_of}
use Rattle.napi_reference.specs.ReferencePlaces.{strong_in}
use Rattle.env_core.proofs.roots.push_strong.Given as goal

-- the values of the strong references at the places that were passed are pushed
abbrev pub invariant-loop-at : goal.invariant-loop-at
invariant-loop-at l = numbers_of l.roots.items ≡ numbers_of l.fn.roots.items ++ filter_map (λ place. place) (take l.at (map strong_in l.references.places))
