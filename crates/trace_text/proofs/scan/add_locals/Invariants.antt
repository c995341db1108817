use Rattle.std.proofs.Common.{◌≡◌, ◌+◌, ◌≤◌, length, take}
use Rattle.napi_types.specs.plain.Weave.{local_at}
use Rattle.napi_types.specs.scripts.Text.{lines_from}
use Rattle.trace_text.specs.Writing.{Adds, stand}
use Rattle.trace_text.proofs.scan.add_locals.Given as goal

abbrev pub invariant-loop-local : goal.invariant-loop-local
invariant-loop-local g l = record {
  few : l.number ≤ l.first + l.local-index;
  count : l.number ≡ l.first + length (local_at l.at (take l.local-index l.journal));
  added : Adds
      (stand (g.K.Sink.taken l.fn.sink) (g.K.Sink.faults l.fn.sink) l.fn.pending)
      (lines_from l.texts l.first (local_at l.at (take l.local-index l.journal)))
      (stand (g.K.Sink.taken l.sink) (g.K.Sink.faults l.sink) l.pending);
}
