use Rattle.std.specs.List.{All}
use Rattle.env_loop.specs.ActorTurns.{HoldsNoWork}
use Rattle.script_run.proofs.actors.retire_all.Given as goal

-- those that are left hold no work
abbrev pub invariant-loop-actor : goal.invariant-loop-actor
invariant-loop-actor l = All HoldsNoWork l.actors.items

abbrev pub decreases-loop-actor : goal.decreases-loop-actor
decreases-loop-actor l = goal.left-loop-actor l
