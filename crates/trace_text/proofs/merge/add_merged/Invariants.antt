use Rattle.std.proofs.Common.{◌≡◌, ◌+◌, ◌≤◌, length, drop}
use Rattle.napi_types.specs.plain.Weave.{RisesBetween, weave}
use Rattle.napi_types.specs.scripts.Text.{lines_from, text}
use Rattle.trace_text.specs.Merging.{unwoven}
use Rattle.trace_text.specs.Writing.{Owes, stand}
use Rattle.trace_text.proofs.merge.add_merged.Given as goal

abbrev pub invariant-loop : goal.invariant-loop
invariant-loop g l = record {
  rises : RisesBetween l.passed.shared (length l.history) (drop l.passed.locals l.journal);
  within : l.passed.locals ≤ length l.journal;
  count : l.passed.locals + l.passed.shared ≡ l.counter;
  number : l.number ≡ l.counter + 1;
  owes : Owes
      (stand (g.K.Sink.taken l.fn.sink) (g.K.Sink.faults l.fn.sink) l.fn.pending)
      (text l.texts (weave l.journal l.history))
      (stand (g.K.Sink.taken l.sink) (g.K.Sink.faults l.sink) l.pending)
      (lines_from l.texts (l.counter + 1) (unwoven l.journal l.history l.passed.locals l.passed.shared));
}
