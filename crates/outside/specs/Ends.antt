-- What became of the ends of the outside: what was read of a source, and what was written to a sink.
use Rattle.std.specs.Prelude.{ℕ, List, Option}

-- what was read of a source: the bytes that it had left before and after, where it tells them, and how often a read had failed before and after
pub record Input : Type 0 where
  pub before : Option (List ℕ)
  pub after : Option (List ℕ)
  pub faults : ℕ
  pub faults_after : ℕ

-- what was read of a source that was first the one and then the other, where this tells what it has left, and this how often a read failed
abbrev pub input_of : {S : Type 0} → (S → Option (List ℕ)) → (S → ℕ) → S → S → Input
input_of left faults old new = record { before = left old; after = left new; faults = faults old; faults_after = faults new }

-- what was written to a sink: the bytes that it had taken before and after, where it tells them, and how often a write had failed before and after
pub record Output : Type 0 where
  pub before : Option (List ℕ)
  pub after : Option (List ℕ)
  pub faults : ℕ
  pub faults_after : ℕ

-- what was written to a sink that was first the one and then the other, where this tells what it took, and this how often a write failed
abbrev pub output_of : {K : Type 0} → (K → Option (List ℕ)) → (K → ℕ) → K → K → Output
output_of taken faults old new = record { before = taken old; after = taken new; faults = faults old; faults_after = faults new }
