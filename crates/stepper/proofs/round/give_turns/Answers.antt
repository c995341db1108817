use Rattle.std.proofs.Common.{◌∙◌, ◌<◌, length, refl, arith}
use Rattle.std.proofs.lemmas.List.{take_more}
use Rattle.addon_trait.proofs.SamePlans.{plans-none, plans-then}
use Rattle.stepper.proofs.OrderedTurns.{steps-none, steps-more}
use Rattle.stepper.proofs.round.give_turns.Goals as goal

pub loop-who-init : goal.loop-who-init
loop-who-init g c = record { plans = plans-none _ _; went = steps-none _ _ _ c.requires.stands }

pub loop-who-preserved : goal.loop-who-preserved
loop-who-preserved g c =
    let i = c.loop-who.invariant in
    let k = c.give_turn.ensures in
    let inside : c.loop-who.who-index < length c.args.turns.now = omega (arith, c.loop-who-test.true, c.loop-who.auto.who-index-end) in
    record {
      plans = plans-then _ _ _ _ i.plans k.plans;
      went = steps-more _ _ _ _ _ _ _ _ _ i.went i.plans.same k.went (take_more _ _ _ inside);
    }
