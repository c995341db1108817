-- The addons of a script, with their operations.
use Rattle.std.specs.Prelude.{ℕ, ◌==◌, ◌&&◌, Bool, false, List, Some, option_map, option_and_then, unwrap_or, is_some, codes}
use Rattle.std.specs.declared.result.Result.TheVariants.{Ok}
use Rattle.serde_json.specs.Data.{Data}
use Rattle.serde_json.specs.Find.{get, as_str, as_object}
use Rattle.serde_json.specs.Events.{items_len, members_len}
use Rattle.napi_types.specs.declared.op.Op.{Op}
use Rattle.napi_types.specs.declared.lists.AddonPlan.{AddonPlan}
use Rattle.napi_types.specs.declared.script.ScriptPart.TheVariants as place
use Rattle.napi_types.specs.declared.script.LimitName.TheVariants as limit
use Rattle.napi_types.specs.scripts.ScriptOperations.{operation_in}
use Rattle.napi_types.specs.scripts.ScriptReading.{Reading, ◌>>=◌, formed, when_formed, list_at, Table, Read, read_with, each}

-- ADDONS
-- an operation of an entry
unfoldable pub operation_at : ℕ → ℕ → ℕ → ℕ → Table → Data → Reading (Read Op)
operation_at entries a e o table d = do
  x ← formed (place.Operation a e o) (operation_in entries table d)
  Ok (read_with x.texts x.operation)

-- an entry of an addon: at most 4,096 operations
unfoldable pub entry_at : ℕ → ℕ → ℕ → Table → Data → Reading (Read (List Op))
entry_at entries a e table d = do
  ds ← list_at (place.Entry a e) limit.Operations 4096 (Some d)
  each (operation_at entries a e) 0 table ds

-- an object with so many members
unfoldable pub has_members : ℕ → Data → Bool
has_members n d = unwrap_or (option_map (λ ms. members_len ms == n) (as_object d)) false

-- an object with exactly the members `name` and `entries`
unfoldable pub is_addon : Data → Bool
is_addon d = has_members 2 d && is_some (get (codes "name") d) && is_some (get (codes "entries") d)

-- an addon: its name, which is a text, and its entries, at most 64
unfoldable pub addon_at : ℕ → Table → Data → Reading (Read AddonPlan)
addon_at a table d = do
  _ ← when_formed (place.Addon a) (is_addon d)
  _ ← when_formed (place.Name a) (is_some (option_and_then as_str (get (codes "name") d)))
  ds ← list_at (place.Entries a) limit.Entries 64 (get (codes "entries") d)
  entries ← each (entry_at (items_len ds) a) 0 table ds
  Ok (read_with entries.texts (record { entries = entries.found }))
