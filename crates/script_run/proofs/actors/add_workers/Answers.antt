use Rattle.std.proofs.Common.{arith, ◌∙◌}
use Rattle.script_run.proofs.EndedActors.{worker-pushed}
use Rattle.script_run.proofs.actors.add_workers.Goals as goal

pub loop-number-preserved : goal.loop-number-preserved
loop-number-preserved c =
    let l = c.loop-number.invariant in
    let now = c.push_reserved.ensures in
    record {
      added = worker-pushed _ c.loop-number.number c.args.actors.now.items c.loop-number.actors.items c.push_reserved.new.self.items _ l.added c.worker.ensures now.items;
      len = omega (arith, now.len, l.len);
      capacity = now.capacity ∙ l.capacity;
    }
