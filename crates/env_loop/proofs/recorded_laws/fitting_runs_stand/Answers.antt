use Rattle.env_loop.proofs.FollowedRuns.{fitting-runs-stand}
use Rattle.env_loop.proofs.recorded_laws.fitting_runs_stand.Goals as goal

pub returns : goal.returns
returns c = fitting-runs-stand
