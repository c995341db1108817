-- The table of texts beside the map that finds their numbers.
use Rattle.std.specs.Prelude.{◌≡◌, ◌<◌, ◌^◌, ℕ, List, length, Option}
use Rattle.napi_types.specs.plain.Texts.{IsTextTable, place_of}

-- each text stands once, the map finds each by its place, and the numbers have 32 bits
pub record IsTable (texts : List (List ℕ)) (number : List ℕ → Option ℕ) : Type 0 where
  pub is_table : IsTextTable texts
  pub numbers : (text : List ℕ) → number text ≡ place_of texts text
  pub few : length texts < 2 ^ 32
