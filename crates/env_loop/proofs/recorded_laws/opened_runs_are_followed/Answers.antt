use Rattle.env_loop.proofs.UnstartedAndEnded.{opened-runs-fit}
use Rattle.env_loop.proofs.HubGoing.{opened-followed}
use Rattle.env_loop.proofs.recorded_laws.opened_runs_are_followed.Goals as goal

pub returns-clause-followed : goal.returns-clause-followed
returns-clause-followed c = opened-followed

pub returns-clause-fitting : goal.returns-clause-fitting
returns-clause-fitting c = opened-runs-fit
