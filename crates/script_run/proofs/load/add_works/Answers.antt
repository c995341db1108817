use Rattle.std.proofs.Common.{arith, refl, ◌∙◌}
use Rattle.script_run.specs.Load.{makes_work}
use Rattle.script_run.proofs.LoadLists.{two-more}
use Rattle.script_run.proofs.load.add_works.Goals as goal

pub loop-number-preserved : goal.loop-number-preserved
loop-number-preserved c =
    let l = c.loop-number.invariant in
    let one = c.push_reserved.ensures in
    let two = c.push_reserved-in-loop-number.ensures in
    record {
      added = two-more makes_work c.loop-number.number _ _ _ _ _ _ l.added refl one.items two.items;
      len = omega (arith, one.len, two.len, l.len);
      capacity = two.capacity ∙ one.capacity ∙ l.capacity;
    }
