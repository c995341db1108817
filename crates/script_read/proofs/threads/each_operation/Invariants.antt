use Rattle.std.proofs.Common.{◌≡◌, drop}
use Rattle.serde_json.specs.View.{items_view}
use Rattle.napi_types.specs.scripts.ScriptReading.{every}
use Rattle.napi_types.specs.scripts.ScriptThreads.{thread_operation_at}
use Rattle.script_read.specs.ReadLists.{before}
use Rattle.script_read.proofs.threads.each_operation.Given as goal

abbrev pub invariant-loop-o : goal.invariant-loop-o
invariant-loop-o l = before l.list.items (every (thread_operation_at l.t) l.o (items_view (drop l.o l.items))) ≡ every (thread_operation_at l.t) 0 (items_view l.items)
