use Rattle.std.proofs.Common.{◌≡◌, drop}
use Rattle.serde_json.specs.View.{items_view}
use Rattle.napi_types.specs.scripts.ScriptAddons.{operation_at}
use Rattle.napi_types.specs.scripts.ScriptReading.{each}
use Rattle.script_read.specs.ReadLists.{onto}
use Rattle.script_read.proofs.entry.each_operation.Given as goal

abbrev pub invariant-loop-o : goal.invariant-loop-o
invariant-loop-o l = onto l.list.items (each (operation_at l.entries l.a l.e) l.o l.table (items_view (drop l.o l.items))) ≡ each (operation_at l.entries l.a l.e) 0 l.initial.table (items_view l.items)
