use Rattle.std.proofs.Common.{◌≡◌, drop}
use Rattle.serde_json.specs.View.{items_view}
use Rattle.napi_types.specs.scripts.ScriptAddons.{entry_at}
use Rattle.napi_types.specs.scripts.ScriptReading.{each}
use Rattle.script_read.specs.ReadLists.{onto}
use Rattle.script_read.proofs.addon.each_entry.Given as goal

abbrev pub invariant-loop-e : goal.invariant-loop-e
invariant-loop-e l = onto l.list.items (each (entry_at l.entries l.a) l.e l.table (items_view (drop l.e l.items))) ≡ each (entry_at l.entries l.a) 0 l.initial.table (items_view l.items)
