use Rattle.std.proofs.Common.{◌≡◌, drop}
use Rattle.serde_json.specs.View.{items_view}
use Rattle.napi_types.specs.scripts.ScriptReading.{every}
use Rattle.napi_types.specs.scripts.ScriptThreads.{word_at}
use Rattle.script_read.specs.ReadLists.{before}
use Rattle.script_read.proofs.schedule.each_word.Given as goal

abbrev pub invariant-loop-s : goal.invariant-loop-s
invariant-loop-s l = before l.list.items (every (word_at l.threads l.workers) l.s (items_view (drop l.s l.items))) ≡ every (word_at l.threads l.workers) 0 (items_view l.items)
