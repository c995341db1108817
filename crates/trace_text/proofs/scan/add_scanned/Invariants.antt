use Rattle.std.proofs.Common.{◌+◌, ◌*◌, ◌≤◌, drop}
use Rattle.napi_types.specs.plain.Weave.{weave_from, weave}
use Rattle.napi_types.specs.scripts.Text.{lines_from, text}
use Rattle.trace_text.specs.Writing.{Owes, stand}
use Rattle.trace_text.proofs.scan.add_scanned.Given as goal

abbrev pub invariant-loop-at : goal.invariant-loop-at
invariant-loop-at g l = record {
  few : l.number ≤ 1 + l.at * 4194305;
  owes : Owes
      (stand (g.K.Sink.taken l.fn.sink) (g.K.Sink.faults l.fn.sink) l.fn.pending)
      (text l.texts (weave l.journal l.history))
      (stand (g.K.Sink.taken l.sink) (g.K.Sink.faults l.sink) l.pending)
      (lines_from l.texts l.number (weave_from l.at l.journal (drop l.at l.history)));
}
