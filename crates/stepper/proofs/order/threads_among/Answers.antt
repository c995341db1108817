use Rattle.std.proofs.Common.{◌≤◌, length, ◌∙◌, ap, count_by, take_all, arith}
use Rattle.stepper.specs.TakingPart.{is_thread_run}
use Rattle.stepper.proofs.RoundSteps.{threads-counted}
use Rattle.stepper.proofs.order.threads_among.Goals as goal

pub returns : goal.returns
returns g c = λ n order.
    let all : length c.args.actors.now ≤ c.loop-actor.actor-index = omega (arith, c.loop-actor-test.false, c.loop-actor.auto.actor-index-end) in
    c.loop-actor.invariant ∙ ap (count_by is_thread_run) (take_all c.loop-actor.actor-index c.args.actors.now all) ∙ threads-counted n c.args.actors.now order
