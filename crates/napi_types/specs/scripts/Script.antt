-- The script that a JSON value is, or the first thing that is wrong with it: the parts are read in the order root, version, workers, addons,
-- threads, schedule, each before what stands in the next, and a list's limit is tried before its members.
use Rattle.std.specs.Prelude.{◌≡◌, ℕ, ◌+◌, if◌then◌else◌, Bool, List, Option, option_and_then, is_some, codes, length}
use Rattle.std.specs.declared.result.Result.TheVariants.{Ok, Err}
use Rattle.serde_json.specs.Data.{Data}
use Rattle.serde_json.specs.Find.{get}
use Rattle.napi_types.specs.declared.op.Op.{Op}
use Rattle.napi_types.specs.declared.lists.AddonPlan.{AddonPlan}
use Rattle.napi_types.specs.declared.script.Script.{Script}
use Rattle.napi_types.specs.declared.script.ScriptPart.{ScriptPart}
use Rattle.napi_types.specs.declared.script.Mistake.{Mistake}
use Rattle.napi_types.specs.declared.script.ScriptPart.TheVariants as place
use Rattle.napi_types.specs.declared.script.LimitName.TheVariants as limit
use Rattle.napi_types.specs.declared.script.Mistake.TheVariants as wrong
use Rattle.napi_types.specs.plain.Numbers.{is_supported}
use Rattle.napi_types.specs.plain.Texts.{fixed_texts}
use Rattle.napi_types.specs.scripts.ScriptAddons.{has_members, addon_at}
use Rattle.napi_types.specs.scripts.ScriptArguments.{whole}
use Rattle.napi_types.specs.scripts.ScriptPaths.{path}
use Rattle.napi_types.specs.scripts.ScriptReading.{IsJson, Reading, ◌>>=◌, formed, when_formed, within_limit, list_at, every, Read, each}
use Rattle.napi_types.specs.scripts.ScriptThreads.{thread_at, schedule_in}

-- THE SCRIPT
-- one where there is a member of this name, else none
abbrev pub members_named : List ℕ → Data → ℕ
members_named name d = if is_some (get name d) then 1 else 0

-- an object that has no other member: as many members as it has of these
unfoldable pub is_root : Data → Bool
is_root d = has_members (members_named (codes "version") d + members_named (codes "workers") d + members_named (codes "addons") d
    + members_named (codes "threads") d + members_named (codes "schedule") d) d

-- the version of Node-API, 9 or 10
unfoldable pub version_in : Option Data → Reading ℕ
version_in found = do
  n ← formed place.Version (option_and_then whole found)
  _ ← when_formed place.Version (is_supported n)
  Ok n

-- the number of workers, at most 8
unfoldable pub workers_in : Option Data → Reading ℕ
workers_in found = do
  n ← formed place.Workers (option_and_then whole found)
  _ ← within_limit limit.Workers 8 n
  Ok n

-- the addons, at most 8, with the texts of their operations
unfoldable pub addons_in : Option Data → Reading (Read (List AddonPlan))
addons_in found = do
  ds ← list_at place.Addons limit.Addons 8 found
  each addon_at 0 fixed_texts ds

-- the threads, at most 16
unfoldable pub threads_in : Option Data → Reading (List (List Op))
threads_in found = do
  ds ← list_at place.Threads limit.Threads 16 found
  every thread_at 0 ds

-- the script that a value is
unfoldable pub script : Data → Reading Script
script d = do
  _ ← when_formed place.Root (is_root d)
  version ← version_in (get (codes "version") d)
  workers ← workers_in (get (codes "workers") d)
  addons ← addons_in (get (codes "addons") d)
  threads ← threads_in (get (codes "threads") d)
  schedule ← schedule_in (length threads) workers (get (codes "schedule") d)
  Ok (record { version = version; workers = workers; addons = addons.found; threads = threads; schedule = schedule; texts = addons.texts })

-- the bytes are a JSON text of a value that is this script
abbrev pub IsScript : List ℕ → Script → Type 0
IsScript bytes s = (d : Data) × IsJson bytes d × (script d ≡ Ok s)

-- the bytes are a JSON text of a value that is no script, and this is the first thing that is wrong
abbrev pub IsWrong : List ℕ → Mistake → Type 0
IsWrong bytes w = (d : Data) × IsJson bytes d × (script d ≡ Err w)

-- the bytes are a JSON text of a value in which a part has the wrong form first, and this is the part's path
abbrev pub HasWrongShape : List ℕ → List ℕ → Type 0
HasWrongShape bytes text = (p : ScriptPart) × (text ≡ path p) × IsWrong bytes (wrong.Shape p)
