-- The roots of a collection, by the numbers of the store.
use Rattle.std.specs.Prelude.{◌≡◌, ℕ, List, ◌++◌, map, Option}
use Rattle.std.specs.List.{All}
use Rattle.std.specs.Option.{option_to_list}
use Rattle.napi_types.specs.plain.Lists.{HaveSameNumbers}
use Rattle.napi_types.specs.parts.Graph.{StoreState, IsLive, number_in}
use Rattle.napi_types.specs.parts.Promises.{Promises, promise_roots}
use Rattle.napi_types.specs.parts.Reach.{numbers}
use Rattle.napi_types.specs.parts.References.{ReferenceMap, strong_values}
use Rattle.napi_types.specs.parts.Scopes.{held_by_frames}
use Rattle.napi_types.specs.parts.Values.{starting_values}
use Rattle.napi_types.specs.environment.Environment.{TsfnRoot}
use Rattle.handle_scope.specs.HandleScopes.{HandleScopes}

-- these name the starting values, in their order
pub record AreStarting (store : StoreState) (ids : List ℕ) : Type 0 where
  pub numbers_are : map (number_in store) ids ≡ numbers starting_values
  pub live : All (IsLive store) ids

-- the values of the handles in open scopes, those of an outer scope first
abbrev pub held_values : HandleScopes → List ℕ
held_values scopes = map (λ h. h.value) (held_by_frames scopes.frames)

-- these are the roots, in any order: the starting values, the values of the handles in open scopes, those of strong references, those that thread-safe
-- functions keep, the pending exception, and the promises that are kept
pub record AreRoots (store : StoreState) (scopes : HandleScopes) (references : ReferenceMap) (functions : List TsfnRoot) (pending : Option ℕ) (promises : Promises)
    (ids : List ℕ) : Type 0 where
  pub starting : List ℕ
  pub are_starting : AreStarting store starting
  pub are : HaveSameNumbers ids
      (starting ++ held_values scopes ++ strong_values references ++ map (λ r. r.value) functions ++ option_to_list pending ++ promise_roots promises)
  -- all of them name live values
  pub live : All (IsLive store) ids
