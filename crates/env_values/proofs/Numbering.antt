-- A call on values finds numbers for the values that it makes.
use Rattle.std.proofs.Common.{◌<◌, ◌+◌, ◌^◌, length, arith}
use Rattle.std.proofs.Math.Nat.{min-le_right}
use Rattle.napi_types.specs.parts.Graph.{StoreState}
use Rattle.napi_types.specs.parts.Properties.{most_names}
use Rattle.value_store.specs.StoreChanges.{properties_in}
use Rattle.env_values.specs.Numbering.{HasNumbersLeft}

-- for one value
pub number_left : (s : StoreState) → HasNumbersLeft s → s.made + 2 < 2 ^ 48
number_left s left = let some = left 0 in omega (arith, some)

-- where the greatest list of names would find them
pub numbers_for_any : (s : StoreState) → s.made + most_names + 8 < 2 ^ 48 → HasNumbersLeft s
numbers_for_any s room = λ id. let most = min-le_right (length (properties_in s id)) most_names in omega (arith, room, most)
