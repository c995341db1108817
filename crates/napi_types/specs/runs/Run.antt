-- Runs of the machine.
use Rattle.std.specs.Prelude.{◌≡◌, List, [], ◌∷◌, IsTrue}
use Rattle.napi_types.specs.declared.entry.Entry.{Entry}
use Rattle.napi_types.specs.declared.call.Ask.{Ask}
use Rattle.napi_types.specs.runs.Machine.{Machine}
use Rattle.napi_types.specs.runs.Step.{step}

-- the machine after an entry
abbrev pub after : Machine → Ask → Entry → Machine
after m a x = (step m a x).after

-- the entry may come next, at this ask
abbrev pub IsNext : Machine → Ask → Entry → Type 0
IsNext m a x = (x ≡ (step m a x).entry) × IsTrue (step m a x).may

-- the machine after the entries
abbrev pub final : Machine → List Ask → List Entry → Machine
final m (a ∷ bs) (x ∷ xs) = final (after m a x) bs xs
final m _ _ = m

-- each entry may come where it stands, at an ask of its own
abbrev pub IsRunBy : Machine → List Ask → List Entry → Type 0
IsRunBy m (a ∷ bs) (x ∷ xs) = IsNext m a x × IsRunBy (after m a x) bs xs
IsRunBy m [] [] = Unit {0}
IsRunBy m _ _ = ⊥
