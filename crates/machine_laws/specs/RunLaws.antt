-- Laws over all runs, and over all stores.
use Rattle.std.specs.Prelude.{◌≡◌, ℕ, ◌+◌, Bool, true, List, None, take, ◌↔◌}
use Rattle.napi_types.specs.declared.call.Ask.{Ask}
use Rattle.napi_types.specs.declared.call.Ask.TheVariants as ask
use Rattle.napi_types.specs.declared.entry.Actor.{Actor}
use Rattle.napi_types.specs.declared.entry.Actor.TheVariants as actor
use Rattle.napi_types.specs.declared.entry.Entry.{Entry}
use Rattle.napi_types.specs.plain.Lists.{has_number}
use Rattle.napi_types.specs.plain.Weave.{Side, Journal, History}
use Rattle.napi_types.specs.parts.Reach.{numbers, children_at, reach_from}
use Rattle.napi_types.specs.parts.Values.{Value}
use Rattle.napi_types.specs.scripts.Plans.{Plan, Registers}
use Rattle.napi_types.specs.runs.Machine.{Machine}
use Rattle.napi_types.specs.runs.Plan.{asked, registers_after}
use Rattle.napi_types.specs.runs.Run.{after, IsNext, IsRunBy}
use Rattle.napi_types.specs.runs.Setting.{Setting, RunsBy}
use Rattle.napi_types.specs.runs.Step.{step}
use Rattle.machine_laws.specs.Computing.{ComputesBy}

-- a run, and what computes to be one, are the same
abbrev pub RunsAreComputed : Type 0
RunsAreComputed = (m : Machine) (bs : List Ask) (xs : List Entry) → (IsRunBy m bs xs ↔ ComputesBy m bs xs)

-- what came of a run up to any moment is a run
abbrev pub PrefixesAreRuns : Type 0
PrefixesAreRuns = (s : Setting) (bs : List Ask) (xs : List Entry) (n : ℕ) → RunsBy s bs xs → RunsBy s (take n bs) (take n xs)

-- one entry more on this list, and none on the other
abbrev pub GrowsOn : Side → Machine → Machine → Type 0
GrowsOn Journal old new = (new.journal_length ≡ old.journal_length + 1) × (new.history_length ≡ old.history_length)
GrowsOn History old new = (new.history_length ≡ old.history_length + 1) × (new.journal_length ≡ old.journal_length)

-- the machine counts each entry on the list on which its step says that it stands
abbrev pub EntriesCountOnTheirList : Type 0
EntriesCountOnTheirList = (m : Machine) (a : Ask) (x : Entry) → IsNext m a x → GrowsOn (step m a x).side m (after m a x)

-- an entry of this actor asks nothing of an addon and changes no register, whatever it tells
pub record LeavesRegisters (who : Actor) : Type 0 where
  pub asked : (ps : List Plan) (rss : Registers) (m : Machine) (a : Ask) → asked ps rss m a who ≡ ask.Leave None
  pub registers : (ps : List Plan) (rss : Registers) (m : Machine) (a : Ask) (x : Entry) → x.actor ≡ who → registers_after ps rss m a x ≡ rss

-- the registers are those of the environment's addons: no thread and no worker changes one
abbrev pub OthersLeaveRegisters : Type 0
OthersLeaveRegisters = (n : ℕ) → LeavesRegisters (actor.Thread n) × LeavesRegisters (actor.Worker n)

-- what roots reach: each root that a value has, each child of what is reached that a value has, and no more, since every set of numbers that has both has it
pub record IsLeastReach (vs : List Value) (roots : List ℕ) : Type 0 where
  pub rooted : (n : ℕ) → has_number n (numbers vs) ≡ true → has_number n roots ≡ true → has_number n (reach_from vs roots) ≡ true
  pub closed : (n m : ℕ) → has_number n (reach_from vs roots) ≡ true → has_number m (children_at vs n) ≡ true → has_number m (numbers vs) ≡ true
      → has_number m (reach_from vs roots) ≡ true
  pub least : (p : ℕ → Bool) → ((n : ℕ) → has_number n (numbers vs) ≡ true → has_number n roots ≡ true → p n ≡ true)
      → ((n m : ℕ) → p n ≡ true → has_number m (children_at vs n) ≡ true → has_number m (numbers vs) ≡ true → p m ≡ true)
      → (n : ℕ) → has_number n (reach_from vs roots) ≡ true → p n ≡ true

abbrev pub ReachIsLeast : Type 0
ReachIsLeast = (vs : List Value) (roots : List ℕ) → IsLeastReach vs roots
