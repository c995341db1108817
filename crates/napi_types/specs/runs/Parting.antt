-- Each entry of a run stands on its own list.
use Rattle.std.specs.Prelude.{◌≡◌, List, [], ◌∷◌}
use Rattle.napi_types.specs.declared.call.Ask.{Ask}
use Rattle.napi_types.specs.declared.entry.Entry.{Entry}
use Rattle.napi_types.specs.declared.entry.Local.{Local}
use Rattle.napi_types.specs.plain.Weave.{Side, weave, sides}
use Rattle.napi_types.specs.runs.Machine.{Machine}
use Rattle.napi_types.specs.runs.Run.{after}
use Rattle.napi_types.specs.runs.Step.{step}

-- the list on which each entry of a run stands, as its step says
abbrev pub sides_along : Machine → List Ask → List Entry → List Side
sides_along m (a ∷ bs) (x ∷ xs) = (step m a x).side ∷ sides_along (after m a x) bs xs
sides_along m _ _ = []

-- along the run that is their weave each entry comes from the list on which its step says that it stands
abbrev pub IsParted : Machine → List Ask → List Local → List Entry → Type 0
IsParted m bs journal history = sides_along m bs (weave journal history) ≡ sides journal history
