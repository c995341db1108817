use Rattle.std.proofs.Common.{◌≡◌, ◌++◌, take, drop}
use Rattle.stepper.specs.TakingPart.{turns_of}
use Rattle.stepper.proofs.order.around_opening.Given as goal

-- the environment has no turn among those that were passed
abbrev pub invariant-loop-place : goal.invariant-loop-place
invariant-loop-place l = turns_of l.schedule ≡ take l.place l.schedule ++ turns_of (drop l.place l.schedule)
