use Rattle.script_host.proofs.Concluding.{concluded}
use Rattle.script_host.proofs.top_call.host_scheduled.Goals as goal

pub returns-clause-concluded : goal.returns-clause-concluded
returns-clause-concluded g c =
    concluded _ _ _ _ _ _ _ _ _ c.run_in_turns-ran.result c.run_in_turns-ran.ensures.ran c.write_outcome.ensures.wrote c.run_in_turns-ran.ensures.counted
