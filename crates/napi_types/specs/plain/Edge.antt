-- The ends of the outside: what a source gives, what a sink takes, and when either may fail.
use Rattle.std.specs.Prelude.{◌≡◌, ℕ, ◌+◌, ◌-◌, ◌^◌, ◌==◌, ◌≤◌, min, Bool, if◌then◌else◌, List, [], ◌++◌, take}
use Rattle.std.specs.List.{list_any}
use Rattle.std.specs.Io.KnownBytes.{append_known}
use Rattle.std.specs.declared.option.Option.{Option}
use Rattle.std.specs.declared.result.Result.{Result}
use Rattle.std.specs.declared.result.Result.TheVariants.{Ok, Err}

-- the greatest number of a count of faults
abbrev pub last_count : ℕ
last_count = 2 ^ 64 - 1

-- a count of faults rose, or stands at its last value, from which it cannot rise
abbrev pub HasRisen : ℕ → ℕ → Type 0
HasRisen before now = min (before + 1) last_count ≤ now

-- the bytes of a piece that a read put there or a write took: at `Ok n` the first n, at a fault none
abbrev pub bytes_moved : {E : Type 0} → Result ℕ E → List ℕ → List ℕ
bytes_moved (Ok n) piece = take n piece
bytes_moved (Err e) piece = []

-- a sink took a prefix of these bytes after what it had
pub record TookPrefix (had : Option (List ℕ)) (bytes : List ℕ) (has : Option (List ℕ)) : Type 0 where
  pub prefix : List ℕ
  pub rest : List ℕ
  pub whole_is : prefix ++ rest ≡ bytes
  pub took : has ≡ append_known had prefix

-- which calls of an end in memory are to fail (counted from 0), how many were made, how many failed
pub record CallPlan : Type 0 where
  pub failing : List ℕ
  pub made : ℕ
  pub faults : ℕ

-- no call was made
abbrev pub opening_plan : List ℕ → CallPlan
opening_plan failing = record { failing = failing; made = 0; faults = 0 }

-- whether the next call is to fail
abbrev pub fails_next : CallPlan → Bool
fails_next plan = list_any (λ call. call == plan.made) plan.failing

-- one call more
abbrev pub count_call : CallPlan → CallPlan
count_call plan = record plan { made = min (plan.made + 1) last_count }

-- one fault more
abbrev pub count_fault : CallPlan → CallPlan
count_fault plan = record plan { faults = min (plan.faults + 1) last_count }

-- one call more, which fails where it is to fail
abbrev pub counted : CallPlan → CallPlan
counted plan = if fails_next plan then count_fault (count_call plan) else count_call plan

-- a source in memory: the bytes that are left, and its calls
pub record SourceInMemory : Type 0 where
  pub left : List ℕ
  pub calls : CallPlan

-- a sink in memory: the bytes taken, the greatest piece that one call takes, and its calls
pub record SinkInMemory : Type 0 where
  pub taken : List ℕ
  pub greatest : ℕ
  pub calls : CallPlan
