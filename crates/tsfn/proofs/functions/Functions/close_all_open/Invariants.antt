use Rattle.std.proofs.Common.{◌≡◌}
use Rattle.tsfn.proofs.ClosedFronts.{closed_front}
use Rattle.tsfn.proofs.functions.Functions.close_all_open.Given as goal

abbrev pub invariant-loop-place : goal.invariant-loop-place
invariant-loop-place l = l.self ≡ closed_front l.place l.fn.self
