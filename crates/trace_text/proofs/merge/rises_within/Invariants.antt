use Rattle.std.proofs.Common.{◌≤◌, ◌↔◌, drop}
use Rattle.napi_types.specs.plain.Weave.{RisesBetween}
use Rattle.trace_text.proofs.merge.rises_within.Given as goal

abbrev pub invariant-loop-local : goal.invariant-loop-local
invariant-loop-local l = record {
  bound : l.least ≤ l.last;
  same : RisesBetween l.least l.last (drop l.local-index l.journal) ↔ RisesBetween 0 l.last l.journal;
}
