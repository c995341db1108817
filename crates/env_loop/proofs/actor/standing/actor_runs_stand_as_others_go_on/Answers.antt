use Rattle.env_loop.proofs.ActorsStand.{thread-runs-stand, worker-runs-stand}
use Rattle.env_loop.proofs.actor.standing.actor_runs_stand_as_others_go_on.Goals as goal

pub returns-clause-threads : goal.returns-clause-threads
returns-clause-threads c = thread-runs-stand

pub returns-clause-workers : goal.returns-clause-workers
returns-clause-workers c = worker-runs-stand
