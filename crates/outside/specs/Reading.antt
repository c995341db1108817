-- What reading a source to its end does to the bytes that it has left.
use Rattle.std.specs.Prelude.{◌≡◌, ℕ, ◌+◌, ◌≤◌, List, length, Option}
use Rattle.std.specs.Io.KnownBytes.{prepend_known}

-- the most bytes that a source may give
abbrev pub longest_source : ℕ
longest_source = 4194304

-- a source gave a prefix of what it had left: at most one byte more than a source may give
pub record GavePrefix (old new : Option (List ℕ)) : Type 0 where
  pub prefix : List ℕ
  pub within : length prefix ≤ longest_source + 1
  pub gave : old ≡ prepend_known prefix new

-- a source gave one byte more than a source may give, and no further one
pub record GaveTooMany (old new : Option (List ℕ)) : Type 0 where
  pub prefix : List ℕ
  pub longer : length prefix ≡ longest_source + 1
  pub gave : old ≡ prepend_known prefix new
