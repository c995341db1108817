use Rattle.std.proofs.Common.{◌≡◌, ◌+◌, ◌*◌, ◌++◌, flat_map, vec_len, vec_capacity}
use Rattle.std.specs.List.{range_with_len}
use Rattle.script_run.specs.Load.{makes_wrap}
use Rattle.script_run.proofs.load.add_wraps.Given as goal

-- the wraps below this number were added
abbrev pub invariant-loop-number : goal.invariant-loop-number
invariant-loop-number l = record {
  added : l.operations.items ≡ l.fn.operations.items ++ flat_map makes_wrap (range_with_len 0 l.number);
  len : vec_len l.operations ≡ vec_len l.fn.operations + 2 * l.number;
  capacity : vec_capacity l.operations ≡ vec_capacity l.fn.operations;
}
