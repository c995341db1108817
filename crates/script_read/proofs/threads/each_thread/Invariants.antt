use Rattle.std.proofs.Common.{◌≡◌, drop}
use Rattle.serde_json.specs.View.{items_view}
use Rattle.napi_types.specs.scripts.ScriptReading.{every}
use Rattle.napi_types.specs.scripts.ScriptThreads.{thread_at}
use Rattle.script_read.specs.ReadLists.{before}
use Rattle.script_read.proofs.threads.each_thread.Given as goal

abbrev pub invariant-loop-t : goal.invariant-loop-t
invariant-loop-t l = before l.list.items (every thread_at l.t (items_view (drop l.t l.items))) ≡ every thread_at 0 (items_view l.items)
