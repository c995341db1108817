-- A run as a computation on whole lists, which a law says is the same.
use Rattle.std.specs.Prelude.{◌≡◌, Bool, true, false, ◌&&◌, List, [], ◌∷◌, IsTrue}
use Rattle.napi_types.specs.declared.entry.Entry.{Entry}
use Rattle.napi_types.specs.declared.call.Ask.{Ask}
use Rattle.napi_types.specs.runs.Machine.{Machine}
use Rattle.napi_types.specs.runs.Run.{after}
use Rattle.napi_types.specs.runs.Step.{Step, step}

-- the steps of whole lists
abbrev pub steps : Machine → List Ask → List Entry → List Step
steps m (a ∷ bs) (x ∷ xs) = step m a x ∷ steps (after m a x) bs xs
steps m _ _ = []

-- each step may stand where it stands
abbrev pub all_may : List Step → Bool
all_may [] = true
all_may (s ∷ ss) = s.may && all_may ss

-- the entries that must stand there
abbrev pub entries_of_steps : List Step → List Entry
entries_of_steps [] = []
entries_of_steps (s ∷ ss) = s.entry ∷ entries_of_steps ss

-- as many asks as entries
abbrev pub is_paired : List Ask → List Entry → Bool
is_paired (a ∷ bs) (x ∷ xs) = is_paired bs xs
is_paired [] [] = true
is_paired _ _ = false

-- the entries are those that the steps give, each at an ask of its own, and each may stand
abbrev pub ComputesBy : Machine → List Ask → List Entry → Type 0
ComputesBy m bs xs = (xs ≡ entries_of_steps (steps m bs xs)) × IsTrue (is_paired bs xs && all_may (steps m bs xs))
