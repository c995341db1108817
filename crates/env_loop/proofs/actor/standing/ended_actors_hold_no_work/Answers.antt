use Rattle.env_loop.proofs.UnstartedAndEnded.{ended-actors-hold-none}
use Rattle.env_loop.proofs.actor.standing.ended_actors_hold_no_work.Goals as goal

pub returns : goal.returns
returns g c = ended-actors-hold-none g.row.J.Denot
