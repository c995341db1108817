use Rattle.std.proofs.Common.{◌+◌, arith, refl, ◌∙◌}
use Rattle.napi_types.specs.declared.call.Mode.TheVariants as mode
use Rattle.napi_types.specs.declared.op.Op.TheVariants as op
use Rattle.script_run.proofs.LoadLists.{one-more}
use Rattle.script_run.proofs.load.add_calls.Goals as goal

pub loop-call-preserved : goal.loop-call-preserved
loop-call-preserved c =
    let l = c.loop-call.invariant in
    let now = c.push_reserved.ensures in
    record {
      added = one-more (λ k. op.ThreadCall 1 (c.args.payload + k) mode.Blocking) c.loop-call.call _ _ _ _ l.added refl now.items;
      len = omega (arith, now.len, l.len);
      capacity = now.capacity ∙ l.capacity;
    }
