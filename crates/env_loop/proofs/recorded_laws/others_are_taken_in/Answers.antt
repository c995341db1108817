use Rattle.env_loop.proofs.FollowedRuns.{others-taken-in}
use Rattle.env_loop.proofs.recorded_laws.others_are_taken_in.Goals as goal

pub returns : goal.returns
returns c = others-taken-in
