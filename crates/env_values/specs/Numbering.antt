-- The numbers that are left for new values.
use Rattle.std.specs.Prelude.{ℕ, ◌+◌, ◌<◌, ◌^◌, length, min}
use Rattle.napi_types.specs.parts.Graph.{StoreState}
use Rattle.napi_types.specs.parts.Properties.{most_names}
use Rattle.value_store.specs.StoreChanges.{properties_in}

-- the values made so far and the names of any one object, of which 65,536 count at most, are together below 2^48 - 8
abbrev pub HasNumbersLeft : StoreState → Type 0
HasNumbersLeft store = (id : ℕ) → store.made + min (length (properties_in store id)) most_names + 8 < 2 ^ 48
