use Rattle.std.proofs.Common.{◌≡◌, take, count_by}
use Rattle.stepper.specs.TakingPart.{is_thread_run}
use Rattle.stepper.proofs.order.threads_among.Given as goal

-- so many of those that were passed are threads
abbrev pub invariant-loop-actor : goal.invariant-loop-actor
invariant-loop-actor g l = l.threads ≡ count_by is_thread_run (take l.actor-index l.actors)
