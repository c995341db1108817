-- Marks as the bits of words, 64 a word.
use Rattle.std.specs.Prelude.{ℕ, ◌/◌, ◌%◌, ◌==◌, Bool, List, map, slice_index}
use Rattle.std.specs.Int.{bit_at}
use Rattle.std.specs.List.{range_with_len}

-- the bit of a place is 1
abbrev pub is_bit_set : List ℕ → ℕ → Bool
is_bit_set words place = bit_at (slice_index words (place / 64)) (place % 64) == 1

-- so many marks, as the words have them
abbrev pub marks_of : List ℕ → ℕ → List Bool
marks_of words many = map (is_bit_set words) (range_with_len 0 many)
