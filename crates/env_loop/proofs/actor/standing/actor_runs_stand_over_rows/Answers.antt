use Rattle.env_loop.proofs.RunsOverRows.{actor-runs-stand-over}
use Rattle.env_loop.proofs.actor.standing.actor_runs_stand_over_rows.Goals as goal

pub returns : goal.returns
returns g c = actor-runs-stand-over g.row.J.Denot
