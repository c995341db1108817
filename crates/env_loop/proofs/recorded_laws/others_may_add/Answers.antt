use Rattle.env_loop.proofs.FollowedRuns.{others-may-add}
use Rattle.env_loop.proofs.recorded_laws.others_may_add.Goals as goal

pub returns : goal.returns
returns c = others-may-add
