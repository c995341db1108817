use Rattle.std.proofs.Common.{◌≡◌, ◌++◌, map, take, drop}
use Rattle.cleanup_hooks.proofs.AsyncRows.{abandoned_row}
use Rattle.cleanup_hooks.proofs.asynchronous.AsyncTable.abandon.Given as goal

-- the rows that were passed are abandoned where they waited
abbrev pub invariant-loop-row : goal.invariant-loop-row
invariant-loop-row l = l.row-items ≡ map abandoned_row (take l.row-index l.initial.row-items) ++ drop l.row-index l.initial.row-items
