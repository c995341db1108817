use Rattle.std.proofs.Common.{◌≡◌, ◌++◌, ◌+◌, List, length, map, vec_len, vec_capacity}
use Rattle.napi_types.specs.declared.op.Op.{Op}
use Rattle.script_run.specs.ScriptActors.{thread_runs}
use Rattle.script_run.proofs.actors.add_threads.Given as goal

-- the threads whose operations were taken from the list were added
abbrev pub invariant-loop-number : goal.invariant-loop-number
invariant-loop-number l =
    let done : List (List Op) = map (λ y. y.1) l.yielded in
    record {
      place : l.number-iterator.count ≡ length done;
      left : l.number-iterator.iter.rest.len ≡ length l.number-iterator.iter.rest.items;
      parted : done ++ l.number-iterator.iter.rest.items ≡ l.fn.threads;
      added : l.actors.items ≡ l.fn.actors.items ++ thread_runs 0 done;
      len : vec_len l.actors ≡ vec_len l.fn.actors + length done;
      capacity : vec_capacity l.actors ≡ vec_capacity l.fn.actors;
    }
