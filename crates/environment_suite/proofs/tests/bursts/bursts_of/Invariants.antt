use Rattle.std.proofs.Common.{◌≤◌, length}
use Rattle.env_loop.specs.RecordedRuns.{FitsHub}
use Rattle.environment_suite.proofs.tests.bursts.bursts_of.Given as goal

abbrev pub invariant-loop : goal.invariant-loop
invariant-loop g l = FitsHub l.env l.hub × (l.env.core.env.addons ≤ length l.addons.items)
