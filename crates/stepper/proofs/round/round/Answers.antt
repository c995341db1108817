use Rattle.std.proofs.Common.{◌≢◌, ◌∙◌, ◌<◌, ◌≤◌, ◌∷◌, length, refl, ap, sym, arith, length-set}
use Rattle.std.proofs.lemmas.List.{take_more}
use Rattle.std.proofs.lemmas.List.Elements.{All-nil}
use Rattle.napi_types.specs.declared.entry.Actor.TheVariants as actor
use Rattle.env_loop.specs.declared.turn.LocalTurn.TheVariants as local
use Rattle.stepper.specs.TakingPart.{actors_of}
use Rattle.stepper.specs.Stepping.{RestsAt}
use Rattle.stepper.proofs.ActorPlaces.{actors-length, actors-count}
use Rattle.stepper.proofs.OrderedTurns.{environment-step, steps-more, actor-step, actor-falls}
use Rattle.stepper.proofs.Resting.{rest-more, rest-at, rest-whole, round-alone}
use Rattle.stepper.proofs.RoundSteps.{progress-none, progress-more, progress-at, round-steps}
use Rattle.stepper.proofs.round.round.Goals.{in-Made+else-resting, in-NeedsHub, then-actor_turn, else-actor_turn}
use Rattle.stepper.proofs.round.round.Goals as goal

pub loop-place-init : goal.loop-place-init
loop-place-init g c =
    let stands : c.environment_turn.result ≢ local.Gone =
    λ gone. elim c.match-environment_turn.branch [
      | in-Made+else-resting w ↦ let made = w.in-Made.is in cc
      | in-NeedsHub w ↦ let needs = w.in-NeedsHub.is in cc
    ] in
    record {
      plans = c.environment_turn.ensures.plans;
      many = refl;
      went = environment-step _ _ _ _ _ _ c.requires.stands c.environment_turn.ensures.went;
      rest = λ is. All-nil (RestsAt g.N.Naming.numbers c.environment_turn.new.hub);
      progress = progress-none g.N.Naming.numbers _ _ (c.environment_turn.ensures.went.falls stands);
    }

pub actor_turn-requires-clause-inside : goal.actor_turn-requires-clause-inside
actor_turn-requires-clause-inside g c κs within = omega (arith, c.loop-place-test.true, c.len-place-end.ensures, c.loop-place.invariant.many)

pub actor_turn-requires-clause-stands : goal.actor_turn-requires-clause-stands
actor_turn-requires-clause-stands g c κs within = c.loop-place.invariant.went.stands.actors.stands

pub loop-place-preserved : goal.loop-place-preserved
loop-place-preserved g c =
    let i = c.loop-place.invariant in
    let s = c.actor_turn.ensures in
    let inside : c.loop-place.place < length c.loop-place.actors.items = omega (arith, c.loop-place-test.true, c.len-place-end.ensures, i.many) in
    let there : c.loop-place.place < length (actors_of g.N.Naming.numbers) =
    omega (arith, inside, actors-length g.N.Naming.numbers, actors-count g.N.Naming.numbers c.loop-place.actors.items i.went.stands.actors.order) in
    record {
      plans = i.plans;
      many = ap length s.actors ∙ length-set c.loop-place.actors.items c.loop-place.place s.actor ∙ i.many;
      went = steps-more _ _ _ _ _ _ _ _ _ i.went refl (actor-step _ _ _ _ _ i.went.stands inside s _) (ap (λ xs. actor.Env ∷ xs) (take_more (actors_of g.N.Naming.numbers) c.loop-place.place actor.Env there));
      rest = λ is. elim c.if-actor_turn.branch [
        | then-actor_turn w ↦ let no : ⊥ = let was = w.resting-is in cc in absurd no
        | else-actor_turn w ↦
            rest-at g.N.Naming.numbers _ _ _ _ s.actors
            (rest-more g.N.Naming.numbers _ _ c.loop-place.actors.items c.loop-place.place s.actor inside (i.rest (sym w.resting-is ∙ is)) (s.rests w.if-actor_turn.false))
      ];
      progress = progress-at g.N.Naming.numbers _ _ _ _ _ s.actors (progress-more g.N.Naming.numbers _ _ _ _ _ _ inside i.progress (actor-falls g.N.Naming.numbers _ _ _ _ i.went.stands inside s c.environment_turn.new.env));
    }

pub returns-then-resting-clause-went : goal.returns-then-resting-clause-went
returns-then-resting-clause-went g c = round-alone _ _ _ _ _ c.requires.stands c.in-Made.ensures.went (c.requires.rest c.if-resting.true)

pub returns-clause-rest : goal.returns-clause-rest
returns-clause-rest g c =
    let i = c.loop-place.invariant in
    let all : length c.loop-place.actors.items ≤ c.loop-place.place = omega (arith, c.loop-place-test.false, c.len-place-end.ensures, i.many) in
    λ is. rest-whole _ _ c.loop-place.place _ all (i.rest is)

pub returns-clause-went : goal.returns-clause-went
returns-clause-went g c =
    let i = c.loop-place.invariant in
    let all : length c.loop-place.actors.items ≤ c.loop-place.place = omega (arith, c.loop-place-test.false, c.len-place-end.ensures, i.many) in
    round-steps _ _ _ _ c.requires.stands c.invariant.ensures c.loop-place.place all i.went i.progress
