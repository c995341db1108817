use Rattle.std.proofs.Common.{◌≡◌, ◌≤◌, [], None}
use Rattle.std.specs.List.{All}
use Rattle.napi_types.specs.parts.Buffers.{ArrayBuffer}
use Rattle.parts_suite.proofs.tests.buffers.fill.Given as goal

abbrev pub invariant-loop-value : goal.invariant-loop-value
invariant-loop-value g l = (l.made ≤ l.value) × (l.buffers.buffers.views ≡ []) × All (λ (r : ArrayBuffer). r.ticket ≡ None) l.buffers.buffers.buffers
