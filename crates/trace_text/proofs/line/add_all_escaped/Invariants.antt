use Rattle.std.proofs.Common.{take}
use Rattle.std.specs.List.{flat_map}
use Rattle.napi_types.specs.scripts.Text.{escaped}
use Rattle.trace_text.specs.Writing.{Adds, stand}
use Rattle.trace_text.proofs.line.add_all_escaped.Given as goal

abbrev pub invariant-loop-byte : goal.invariant-loop-byte
invariant-loop-byte g l = Adds
    (stand (g.K.Sink.taken l.fn.sink) (g.K.Sink.faults l.fn.sink) l.fn.pending)
    (flat_map escaped (take l.byte-index l.text))
    (stand (g.K.Sink.taken l.sink) (g.K.Sink.faults l.sink) l.pending)
