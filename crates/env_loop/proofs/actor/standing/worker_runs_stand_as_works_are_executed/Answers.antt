use Rattle.env_loop.proofs.ActorsStand.{executed-works-stand}
use Rattle.env_loop.proofs.actor.standing.worker_runs_stand_as_works_are_executed.Goals as goal

pub returns : goal.returns
returns c = executed-works-stand
