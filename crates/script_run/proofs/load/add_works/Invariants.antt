use Rattle.std.proofs.Common.{◌≡◌, ◌+◌, ◌*◌, ◌++◌, flat_map, vec_len, vec_capacity}
use Rattle.std.specs.List.{range_with_len}
use Rattle.script_run.specs.Load.{makes_work}
use Rattle.script_run.proofs.load.add_works.Given as goal

-- the works below this number were added
abbrev pub invariant-loop-number : goal.invariant-loop-number
invariant-loop-number l = record {
  added : l.operations.items ≡ l.fn.operations.items ++ flat_map makes_work (range_with_len 0 l.number);
  len : vec_len l.operations ≡ vec_len l.fn.operations + 2 * l.number;
  capacity : vec_capacity l.operations ≡ vec_capacity l.fn.operations;
}
