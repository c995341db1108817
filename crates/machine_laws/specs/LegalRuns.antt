-- Runs of scripts whose plans are all told: what is asked along them.
use Rattle.std.specs.Prelude.{Bool, List, [], ◌∷◌, None, is_some}
use Rattle.std.specs.List.{list_all}
use Rattle.napi_types.specs.declared.call.Ask.{Ask}
use Rattle.napi_types.specs.declared.call.Ask.TheVariants as ask
use Rattle.napi_types.specs.declared.entry.Entry.{Entry}
use Rattle.napi_types.specs.declared.entry.Local.{Local}
use Rattle.napi_types.specs.plain.Weave.{weave}
use Rattle.napi_types.specs.scripts.Plans.{Plan, Registers, loaded_registers}
use Rattle.napi_types.specs.runs.Machine.{Machine}
use Rattle.napi_types.specs.runs.Parting.{IsParted}
use Rattle.napi_types.specs.runs.Plan.{asked, registers_after}
use Rattle.napi_types.specs.runs.Run.{after}
use Rattle.napi_types.specs.runs.Setting.{Setting, RunsBy, opening_of, EndsBy}

-- a run of the script, by some asks
abbrev pub IsRun : Setting → List Entry → Type 0
IsRun s xs = (bs : List Ask) × RunsBy s bs xs

-- every addon tells its plan
abbrev pub all_told : Setting → Bool
all_told s = list_all is_some s.plans

-- the asks of a run, where every plan is told
abbrev pub told_asks_along : List Plan → Registers → Machine → List Entry → List Ask
told_asks_along ps rss m [] = []
told_asks_along ps rss m (x ∷ xs) =
    let a : Ask = asked ps rss m (ask.Leave None) x.actor in a ∷ told_asks_along ps (registers_after ps rss m a x) (after m a x) xs

-- those of a run of the script
abbrev pub told_asks : Setting → List Entry → List Ask
told_asks s xs = told_asks_along s.plans (loaded_registers s.plans) (opening_of s) xs

-- the entries are a run of the script that comes to its end
abbrev pub EndsAsTold : Setting → List Entry → Type 0
EndsAsTold s xs = EndsBy s (told_asks s xs) xs

-- the weave of the two lists is such a run, and each of its entries stands on its list
pub record EndsOnItsLists (s : Setting) (journal : List Local) (history : List Entry) : Type 0 where
  pub ends : EndsAsTold s (weave journal history)
  pub parted : IsParted (opening_of s) (told_asks s (weave journal history)) journal history
