-- The plans that the addons of a script are given, and the numbers of its run.
use Rattle.std.specs.Prelude.{ℕ, List, [], ◌∷◌, option_map}
use Rattle.napi_types.specs.declared.entry.Limits.{Limits}
use Rattle.napi_types.specs.declared.lists.AddonPlan.{AddonPlan}
use Rattle.napi_types.specs.plain.Room.{most_entries}
use Rattle.napi_types.specs.scripts.Plans.{Plan}
use Rattle.napi_types.specs.runs.Setting.{Setting}
use Rattle.shared_hub.specs.declared.naming.Numbers.{Numbers}

-- what the script's addons tell of their plans: the entries that the script gives them, or nothing where they told nothing before
abbrev pub told_plans : List AddonPlan → List Plan → List Plan
told_plans (given ∷ rest) (told ∷ others) = option_map (λ _. given.entries) told ∷ told_plans rest others
told_plans _ _ = []

-- the limits of every run
abbrev pub run_limits : Limits
run_limits = record { journal = most_entries; history = most_entries }

-- the numbers of the hub of a run with so many threads and workers
abbrev pub hub_numbers : ℕ → ℕ → Numbers
hub_numbers threads workers = record { threads = threads; workers = workers; limits = run_limits }

-- a run of a script that asks for this version, whose addons tell these plans, with so many texts, threads and workers, under the limits of every run
abbrev pub setting_with : ℕ → List Plan → ℕ → ℕ → ℕ → Setting
setting_with version plans texts threads workers = record {
  version = version;
  plans = plans;
  texts = texts;
  threads = threads;
  workers = workers;
  limits = run_limits;
}
