-- What a collection frees of a store, and what it leaves.
use Rattle.std.specs.Prelude.{◌≡◌, ◌↔◌, ℕ, ◌+◌, ◌<◌, true, false, List, map, length}
use Rattle.napi_types.specs.plain.Lists.{has_number}
use Rattle.napi_types.specs.parts.Graph.{StoreState, IsLive, number_in, graph_of}
use Rattle.napi_types.specs.parts.Reach.{reach_from}
use Rattle.napi_types.specs.parts.Values.{starting_values}

-- what the values of these numbers reach, by creation numbers
abbrev pub reached : StoreState → List ℕ → List ℕ
reached s roots = reach_from (graph_of s) (map (number_in s) roots)

-- the starting values, whose creation numbers count from 1, are among those of these numbers
abbrev pub HoldsStarting : StoreState → List ℕ → Type 0
HoldsStarting s ids = (which : ℕ) → which < length starting_values → has_number (which + 1) (map (number_in s) ids) ≡ true

-- the number names a live value that the roots do not reach
abbrev pub IsUnreached : StoreState → List ℕ → ℕ → Type 0
IsUnreached s roots id = IsLive s id × (has_number (number_in s id) (reached s roots) ≡ false)

-- these are the numbers of exactly the values that the roots do not reach
abbrev pub AreUnreached : StoreState → List ℕ → List ℕ → Type 0
AreUnreached s roots ids = (id : ℕ) → (has_number id ids ≡ true) ↔ IsUnreached s roots id
