use Rattle.script_host.proofs.Concluding.{concluded}
use Rattle.script_host.proofs.top_call.host.Goals as goal

pub returns-clause-concluded : goal.returns-clause-concluded
returns-clause-concluded g c =
    concluded _ _ _ _ _ _ _ _ _ c.run_on_threads-ran.result c.run_on_threads-ran.ensures.ran c.write_outcome.ensures.wrote c.run_on_threads-ran.ensures.counted
