use Rattle.env_loop.proofs.UnstartedAndEnded.{unstarted-actors-stand}
use Rattle.env_loop.proofs.actor.standing.unstarted_actors_stand.Goals as goal

pub returns : goal.returns
returns g c = unstarted-actors-stand g.row.J.Denot
