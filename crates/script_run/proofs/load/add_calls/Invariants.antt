use Rattle.std.proofs.Common.{◌≡◌, ◌+◌, ◌++◌, vec_len, vec_capacity}
use Rattle.script_run.specs.Load.{calls_from}
use Rattle.script_run.proofs.load.add_calls.Given as goal

-- the calls below this number were added
abbrev pub invariant-loop-call : goal.invariant-loop-call
invariant-loop-call l = record {
  added : l.operations.items ≡ l.fn.operations.items ++ calls_from l.payload l.call;
  len : vec_len l.operations ≡ vec_len l.fn.operations + l.call;
  capacity : vec_capacity l.operations ≡ vec_capacity l.fn.operations;
}
