use Rattle.std.proofs.Common.{[], arith}
use Rattle.script_run.specs.Load.{thread_operations}
use Rattle.script_run.proofs.LoadLists.{one-more}
use Rattle.script_run.proofs.load.threads.Goals as goal

pub loop-thread-preserved : goal.loop-thread-preserved
loop-thread-preserved c =
    let l = c.loop-thread.invariant in
    let now = c.push_reserved.ensures in
    record {
      made = one-more (thread_operations c.args.number) c.loop-thread.thread [] _ _ _ l.made c.in_ok-thread_operations.ensures now.items;
      len = omega (arith, now.len, l.len);
      room = omega (arith, now.capacity, l.room);
    }
