use Rattle.std.proofs.Common.{◌≡◌, drop}
use Rattle.serde_json.specs.View.{items_view}
use Rattle.napi_types.specs.scripts.ScriptAddons.{addon_at}
use Rattle.napi_types.specs.scripts.ScriptReading.{each}
use Rattle.script_read.specs.ReadLists.{onto}
use Rattle.script_read.proofs.addon.each_addon.Given as goal

abbrev pub invariant-loop-a : goal.invariant-loop-a
invariant-loop-a l = onto l.list.items (each addon_at l.a l.table (items_view (drop l.a l.items))) ≡ each addon_at 0 l.initial.table (items_view l.items)
