use Rattle.std.proofs.Common.{◌≤◌, length}
use Rattle.env_loop.specs.RecordedRuns.{FitsHub}
use Rattle.environment_suite.proofs.tests.driving.to_end.Given as goal

abbrev pub invariant-loop-turns : goal.invariant-loop-turns
invariant-loop-turns g l = FitsHub l.env l.hub × (l.env.core.env.addons ≤ length l.addons.items)
