use Rattle.std.proofs.Common.{◌∙◌, arith}
use Rattle.napi_types.specs.parts.Graph.{IsLive}
use Rattle.trace_collect.proofs.Marking.{listed, marks-next}
use Rattle.trace_collect.proofs.marks.mark_each.Goals as goal

pub mark-requires-clause-live : goal.mark-requires-clause-live
mark-requires-clause-live c = listed (IsLive c.args.store.now) c.args.ids.now c.loop-id.id-index _ (omega arith) c.requires.live

pub loop-id-preserved : goal.loop-id-preserved
loop-id-preserved c = record {
  marked = marks-next c.args.store.now c.args.ids.now c.loop-id.id-index _ _ _ _ _ _ _ (omega arith) c.loop-id.invariant.marked c.mark.ensures.marked;
  capacity = c.mark.ensures.capacity ∙ c.loop-id.invariant.capacity;
}
