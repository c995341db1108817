-- What a collection starts from, and what it keeps.
use Rattle.std.specs.Prelude.{ℕ, List, ◌++◌, map}
use Rattle.std.specs.Option.{option_to_list}
use Rattle.napi_types.specs.parts.Promises.{promise_roots}
use Rattle.napi_types.specs.parts.Reach.{numbers, reach_from}
use Rattle.napi_types.specs.parts.References.{strong_values}
use Rattle.napi_types.specs.parts.Scopes.{held_by_frames}
use Rattle.napi_types.specs.parts.Values.{starting_values}
use Rattle.napi_types.specs.environment.Environment.{Environment}

-- the roots: the starting values, those of the handles in open scopes of all frames, those of strong references, those that thread-safe functions keep, the
-- pending exception, and the promises whose deferred is not settled or which have a reaction that has not ended
abbrev pub roots : Environment → List ℕ
roots e = numbers starting_values ++ map (λ h. h.value) (held_by_frames e.heap.scopes) ++ strong_values e.references ++ map (λ r. r.value) e.tsfn_roots ++ option_to_list e.pending
    ++ promise_roots e.promises

-- what the roots reach
abbrev pub reach : Environment → List ℕ
reach e = reach_from e.heap.values (roots e)
