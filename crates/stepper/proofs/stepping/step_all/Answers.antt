use Rattle.std.proofs.Common.{◌≡◌, true, sym, subst, suc}
use Rattle.std.specs.List.{All}
use Rattle.addon_trait.proofs.SamePlans.{plans-then}
use Rattle.env_loop.specs.ActorTurns.{is_over, IsActorAt}
use Rattle.stepper.specs.GivenTurns.{Moment}
use Rattle.stepper.proofs.Openings.{start-stands, gone-over, ended-at-last, arose-at-last}
use Rattle.stepper.proofs.RoundSteps.{all-turns, all-prefix, all-back, schedule-steps, rounds-steps}
use Rattle.stepper.proofs.stepping.step_all.Goals as goal

pub give_turns-requires-clause-stands : goal.give_turns-requires-clause-stands
give_turns-requires-clause-stands g c κs within = start-stands _ _ _ c.requires.opened c.requires.empty c.requires.order c.requires.fresh

pub give_turns-requires-clause-scheduled : goal.give_turns-requires-clause-scheduled
give_turns-requires-clause-scheduled g c κs within =
    all-prefix (IsActorAt g.N.Naming.numbers) _ _
    (subst (All (IsActorAt g.N.Naming.numbers)) c.around_opening.ensures (all-turns (IsActorAt g.N.Naming.numbers) _ c.requires.scheduled))

pub give_turns-requires-2-clause-scheduled : goal.give_turns-requires-2-clause-scheduled
give_turns-requires-2-clause-scheduled g c κs within =
    all-back (IsActorAt g.N.Naming.numbers) _ _ (subst (All (IsActorAt g.N.Naming.numbers)) c.around_opening.ensures (all-turns (IsActorAt g.N.Naming.numbers) _ c.requires.scheduled))

pub rounds-init : goal.rounds-init
rounds-init g c = record {
  plans = plans-then _ _ _ _ c.give_turns.ensures.plans c.give_turns-2.ensures.plans;
  went = (0, schedule-steps _ _ _ _ _ _ _ _ _ c.around_opening.ensures c.give_turns.ensures.went c.give_turns.ensures.plans.same c.give_turns-2.ensures.went);
  rest = λ is. cc;
}

pub rounds-preserved : goal.rounds-preserved
rounds-preserved g c =
    let i = c.rounds.invariant in
    let k = c.round.ensures in
    record {
      plans = plans-then _ _ _ _ i.plans k.plans;
      went = (suc i.went.0, rounds-steps _ _ _ _ _ _ _ _ i.went.1 i.plans.same (k.went.steps c.if-round.false));
      rest = k.rest;
    }

pub returns-then-round-clause-over : goal.returns-then-round-clause-over
returns-then-round-clause-over g c =
    let was = c.round.ensures.went.was c.if-round.true in
    subst (λ (m : Moment g.row.J.Denot). All (λ a. is_over a ≡ true) m.actors) (sym was.1) (gone-over g.N.Naming.numbers _ c.rounds.invariant.went.1.stands was.0)

pub returns-then-round-clause-ended : goal.returns-then-round-clause-ended
returns-then-round-clause-ended g c =
    let was = c.round.ensures.went.was c.if-round.true in
    ended-at-last g.N.Naming.numbers _ _ _ _ c.requires.empty c.rounds.invariant.went.1.kept was.1 was.0 c.invariant.ensures

pub returns-then-round-clause-arose : goal.returns-then-round-clause-arose
returns-then-round-clause-arose g c =
    let was = c.round.ensures.went.was c.if-round.true in
    arose-at-last g.N.Naming.numbers _ c.args.schedule.now c.rounds.invariant.went.0 _ _ _ c.requires.opened c.requires.empty c.rounds.invariant.went.1 was.1
