use Rattle.std.proofs.Common.{◌≡◌, ◌≤◌, vec_len, vec_capacity}
use Rattle.script_run.specs.Load.{load_threads}
use Rattle.script_run.proofs.load.threads.Given as goal

-- the threads below this number were made
abbrev pub invariant-loop-thread : goal.invariant-loop-thread
invariant-loop-thread l = record {
  made : l.threads.items ≡ load_threads l.number l.thread;
  len : vec_len l.threads ≡ l.thread;
  room : 16 ≤ vec_capacity l.threads;
}
