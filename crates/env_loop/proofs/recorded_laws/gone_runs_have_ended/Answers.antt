use Rattle.env_loop.proofs.HubGoing.{gone-ended}
use Rattle.env_loop.proofs.recorded_laws.gone_runs_have_ended.Goals as goal

pub returns : goal.returns
returns c = gone-ended
