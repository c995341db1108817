-- What roots reach in a value graph.
use Rattle.std.specs.Prelude.{ℕ, List, [], ◌∷◌, ◌++◌, map, filter, flat_map, option_map}
use Rattle.std.specs.Option.{unwrap_or}
use Rattle.napi_types.specs.plain.Lists.{has_number}
use Rattle.napi_types.specs.parts.Values.{Value, value_at, children}

-- the numbers of values, in their order
abbrev pub numbers : List Value → List ℕ
numbers vs = map (λ v. v.number) vs

-- the numbers among these that values have, in the order of the values
abbrev pub among : List Value → List ℕ → List ℕ
among vs ns = filter (λ n. has_number n ns) (numbers vs)

-- the children of the value of a number; a number that no value has has none
abbrev pub children_at : List Value → ℕ → List ℕ
children_at vs n = unwrap_or (option_map children (value_at vs n)) []

-- what is there, and all children of what is there
abbrev pub spread : List Value → List ℕ → List ℕ
spread vs there = among vs (there ++ flat_map (children_at vs) there)

-- the same as many times as the first list has values
abbrev pub spread_for : List Value → List Value → List ℕ → List ℕ
spread_for [] vs there = there
spread_for (round ∷ rounds) vs there = spread_for rounds vs (spread vs there)

-- what the roots reach: start with those of them that values have, and add all children of what is there, as many times as there are values
abbrev pub reach_from : List Value → List ℕ → List ℕ
reach_from vs roots = spread_for vs vs (among vs roots)
