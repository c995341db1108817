use Rattle.std.proofs.Common.{◌≡◌, ◌++◌, vec_len, vec_capacity, ◌+◌}
use Rattle.script_run.specs.ScriptActors.{worker_runs}
use Rattle.script_run.proofs.actors.add_workers.Given as goal

-- the workers below this number were added
abbrev pub invariant-loop-number : goal.invariant-loop-number
invariant-loop-number l =
    record {
      added : l.actors.items ≡ l.fn.actors.items ++ worker_runs l.number;
      len : vec_len l.actors ≡ vec_len l.fn.actors + l.number;
      capacity : vec_capacity l.actors ≡ vec_capacity l.fn.actors;
    }
