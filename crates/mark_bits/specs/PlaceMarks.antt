-- Marks of places, each set or not.
use Rattle.std.specs.Prelude.{ℕ, Bool, false, List, slice_index_or}

-- the mark of a place is set; a place behind the last one has no mark
abbrev pub is_marked : List Bool → ℕ → Bool
is_marked marks place = slice_index_or marks place false
