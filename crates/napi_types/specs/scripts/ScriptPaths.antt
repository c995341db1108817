-- The paths by which a refusal names a part of a script.
use Rattle.std.specs.Prelude.{ℕ, List, ◌++◌, codes, decimal}
use Rattle.napi_types.specs.declared.script.ScriptPart.{ScriptPart}
use Rattle.napi_types.specs.declared.script.ScriptPart.TheVariants as place

-- the path of an addon
abbrev pub addon_path : ℕ → List ℕ
addon_path a = codes "addons/" ++ decimal a

-- the path of a thread
abbrev pub thread_path : ℕ → List ℕ
thread_path t = codes "threads/" ++ decimal t

-- the path of an entry
abbrev pub entry_path : ℕ → ℕ → List ℕ
entry_path a e = addon_path a ++ codes "/entries/" ++ decimal e

-- the path of a part; the root has a dash
abbrev pub path : ScriptPart → List ℕ
path place.Root = codes "-"
path place.Version = codes "version"
path place.Workers = codes "workers"
path place.Addons = codes "addons"
path place.Threads = codes "threads"
path place.Schedule = codes "schedule"
path (place.Addon a) = addon_path a
path (place.Name a) = addon_path a ++ codes "/name"
path (place.Entries a) = addon_path a ++ codes "/entries"
path (place.Entry a e) = entry_path a e
path (place.Operation a e o) = entry_path a e ++ codes "/" ++ decimal o
path (place.Thread t) = thread_path t
path (place.ThreadOperation t o) = thread_path t ++ codes "/" ++ decimal o
path (place.Word s) = codes "schedule/" ++ decimal s
