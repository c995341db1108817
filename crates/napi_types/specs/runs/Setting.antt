-- Runs of a script.
use Rattle.std.specs.Prelude.{◌≡◌, ℕ, List, length}
use Rattle.napi_types.specs.declared.entry.Entry.{Entry}
use Rattle.napi_types.specs.declared.entry.Limits.{Limits}
use Rattle.napi_types.specs.declared.entry.Phase.TheVariants as phase
use Rattle.napi_types.specs.declared.call.Ask.{Ask}
use Rattle.napi_types.specs.scripts.Plans.{Plan, Registers, loaded_registers}
use Rattle.napi_types.specs.environment.Environment.{OpenedWith}
use Rattle.napi_types.specs.runs.Machine.{Machine, opening}
use Rattle.napi_types.specs.runs.Plan.{asked_along, registers_along}
use Rattle.napi_types.specs.runs.Run.{IsRunBy, final}

-- what a run is a run of: the version that the script asks for, what each addon of it tells of its plan, how many texts, threads and workers there are, and the
-- limits
pub record Setting : Type 0 where
  pub version : ℕ
  pub plans : List Plan
  pub texts : ℕ
  pub threads : ℕ
  pub workers : ℕ
  pub limits : Limits

-- what the environment of a run opens with
abbrev pub opens_with : Setting → OpenedWith
opens_with s = record { version = s.version; addons = length s.plans; texts = s.texts }

-- the machine at the start of a run
abbrev pub opening_of : Setting → Machine
opening_of s = opening (opens_with s) s.threads s.workers s.limits

-- the machine after a run by these asks
abbrev pub final_of : Setting → List Ask → List Entry → Machine
final_of s bs xs = final (opening_of s) bs xs

-- the registers of each addon after it
abbrev pub final_registers : Setting → List Ask → List Entry → Registers
final_registers s bs xs = registers_along s.plans (loaded_registers s.plans) (opening_of s) bs xs

-- the asks that the plans give along it
abbrev pub planned_asks : Setting → List Ask → List Entry → List Ask
planned_asks s bs xs = asked_along s.plans (loaded_registers s.plans) (opening_of s) bs xs

-- the entries are a run at these asks, and the asks are those of the plans
pub record RunsBy (s : Setting) (bs : List Ask) (xs : List Entry) : Type 0 where
  pub steps : IsRunBy (opening_of s) bs xs
  pub asked : bs ≡ planned_asks s bs xs

-- a run that came to its end: the environment is gone
pub record EndsBy (s : Setting) (bs : List Ask) (xs : List Entry) : Type 0 where
  pub run : RunsBy s bs xs
  pub gone : (final_of s bs xs).env.phase ≡ phase.Gone
