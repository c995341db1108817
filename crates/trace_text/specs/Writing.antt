-- Writing a text piece by piece, through bytes that are held back, to a sink that may fail on the way.
use Rattle.std.specs.Prelude.{◌≡◌, ℕ, ◌≤◌, Bool, true, false, List, ◌++◌}
use Rattle.std.specs.declared.option.Option.{Option}
use Rattle.napi_types.specs.plain.Edge.{HasRisen, TookPrefix}

-- the bytes that wait to be written, and whether the writing failed
pub record Waiting : Type 0 where
  pub bytes : List ℕ
  pub failed : Bool

-- how a writing stands in the midst of a text: the bytes that the sink took, its faults, the bytes held, and whether it failed
pub record Stand : Type 0 where
  pub taken : Option (List ℕ)
  pub faults : ℕ
  pub held : List ℕ
  pub failed : Bool

-- such a stand, from its parts
abbrev pub stand : Option (List ℕ) → ℕ → Waiting → Stand
stand taken faults pending = record { taken = taken; faults = faults; held = pending.bytes; failed = pending.failed }

-- of these bytes the sink took a prefix after what it had, and all the others are held where the writing did not fail
pub record Took (had : Option (List ℕ)) (bytes : List ℕ) (now : Stand) : Type 0 where
  pub prefix : TookPrefix had bytes now.taken
  pub waiting : now.failed ≡ false → prefix.rest ≡ now.held

-- bytes were added to the text, in full or, where the writing failed, up to some place. A writing that failed adds
-- nothing more. It failed only where the count of faults rose, and one that did not fail leaves the count as it was.
pub record Adds (old : Stand) (bytes : List ℕ) (new : Stand) : Type 0 where
  pub goes_on : (had : Option (List ℕ)) (before : List ℕ) → Took had before old → Took had (before ++ bytes) new
  pub later : old.faults ≤ new.faults
  pub marked : new.failed ≡ true → old.failed ≡ false → HasRisen old.faults new.faults
  pub fine : new.failed ≡ false → old.failed ≡ false
  pub counted : new.failed ≡ false → new.faults ≡ old.faults

-- whoever adds the rest from here has added the whole since the start
pub record Owes (start : Stand) (whole : List ℕ) (now : Stand) (rest : List ℕ) : Type 0 where
  pub finishes : (end : Stand) → Adds now rest end → Adds start whole end
