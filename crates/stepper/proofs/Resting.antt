-- Threads and workers that rest: they have ended or wait, and hold no work that is still to be executed.
use Rattle.std.proofs.Common.{◌≡◌, ◌∙◌, inr, ℕ, zero, suc, ◌+◌, ◌<◌, ◌≤◌, false, List, [], ◌∷◌, ◌++◌, length, take, set, get_or, refl, ap, sym, subst, arith, take_all}
use Rattle.std.specs.List.{All}
use Rattle.std.proofs.lemmas.List.{length-map, set-get_or, take_more, take_more_set}
use Rattle.std.proofs.lemmas.List.Elements.{All-append, All-cons, All-get_or, All-nil, All-same}
use Rattle.napi_types.specs.declared.entry.Actor.TheVariants as actor
use Rattle.napi_types.specs.plain.Lists.{singleton}
use Rattle.napi_types.specs.scripts.Plans.{Plan}
use Rattle.shared_hub.specs.HubStates.{HubSeen}
use Rattle.shared_hub.specs.KeptHubs.{IsLedHub}
use Rattle.shared_hub.specs.declared.naming.Numbers.{Numbers}
use Rattle.env_loop.specs.ActorTurns.{actor_of, IsActorOf, IsSameActor, with_work_executed}
use Rattle.env_loop.specs.declared.actor.ActorRun.{ActorRun}
use Rattle.env_loop.specs.declared.turn.LocalTurn.TheVariants as local
use Rattle.env_loop.proofs.SameActors.{same-actor-none}
use Rattle.stepper.specs.TakingPart.{actors_of}
use Rattle.stepper.specs.GivenTurns.{RunAtHub, Moment, moment_of}
use Rattle.stepper.specs.Stepping.{RestsAt, Stands, EnvironmentSteps, ActorSteps, Steps, RoundSteps}
use Rattle.stepper.proofs.OrderedTurns.{environment-step, steps-none, steps-then, actor-step}

-- an element of a list is the one at its place
there-is : {A : Type 0} (xs : List A) (k : ℕ) → k < length xs → (x : A) × (x ≡ get_or xs k x)
there-is [] k inside = absurd (omega (arith, inside))
there-is (x ∷ xs) zero inside = (x, refl)
there-is (x ∷ xs) (suc k) inside = there-is xs k (omega (arith, inside))

module _ {J : Type 0} where
  -- THOSE THAT WERE GIVEN THEIR TURNS
  -- where each whose turn was rests, and the next one does, so do all of them
  pub rest-more : (n : Numbers) (before after : HubSeen) (actors : List (ActorRun J)) (place : ℕ) (a : ActorRun J) → place < length actors
      → All (RestsAt n before) (take place actors) → (after ≡ before) × RestsAt n after a → All (RestsAt n after) (take (place + 1) (set actors place a))
  rest-more n before after actors place a inside rest next =
      All-same (RestsAt n after) (take (place + 1) (set actors place a)) (take place actors ++ a ∷ []) (take_more_set actors place a inside)
      (All-append (RestsAt n after) (take place actors) (a ∷ []) (subst (λ s. All (RestsAt n s) (take place actors)) (sym next.0) rest)
      (All-cons (RestsAt n after) a [] next.1 (All-nil (RestsAt n after))))

  pub rest-at : (n : Numbers) (hub : HubSeen) (count : ℕ) (actors new : List (ActorRun J)) → new ≡ actors → All (RestsAt n hub) (take count actors)
      → All (RestsAt n hub) (take count new)
  rest-at n hub count actors new same rest = subst (λ xs. All (RestsAt n hub) (take count xs)) (sym same) rest

  pub rest-whole : (n : Numbers) (hub : HubSeen) (count : ℕ) (actors : List (ActorRun J)) → length actors ≤ count → All (RestsAt n hub) (take count actors)
      → All (RestsAt n hub) actors
  rest-whole n hub count actors all rest = subst (All (RestsAt n hub)) (take_all count actors all) rest

  -- TURNS THAT ARE PASSED OVER
  module _ (n : Numbers) (plans : List Plan) (m : Moment J) (stands : Stands n m) (led : IsLedHub n m.env.hub) (rest : All (RestsAt n m.env.hub) m.actors) where
    -- the turn of one that rests changes nothing
    resting-turn : (k : ℕ) → k < length m.actors → ActorSteps n k false m.actors m.env.hub m.actors m.env.hub
    resting-turn k inside = at (there-is m.actors k inside)
      where
        at : (a : ActorRun J) × (a ≡ get_or m.actors k a) → ActorSteps n k false m.actors m.env.hub m.actors m.env.hub
        at there =
            let a : ActorRun J = there.0 in
            let rests : RestsAt n m.env.hub a = subst (RestsAt n m.env.hub) (sym there.1) (All-get_or (RestsAt n m.env.hub) m.actors k a inside rest) in
            record {
              actor = a;
              actors = sym (set-get_or m.actors k a) ∙ ap (set m.actors k) (sym there.1);
              turn = inr (record { still = rests.still; executed = sym rests.executed ∙ ap with_work_executed there.1; hub = refl });
              stands = subst (IsActorOf n m.env.hub) (sym there.1) (All-get_or (IsActorOf n m.env.hub) m.actors k a inside stands.actors.stands);
              same = subst (λ b. IsSameActor b a) there.1 (same-actor-none a);
              led = (led, led);
              rests = λ is. (refl, rests);
            }

    resting-turns : (k : ℕ) → k ≤ length m.actors → Steps n plans (take k (actors_of n)) m m
    resting-turns zero within = steps-none n plans m stands
    resting-turns (suc k) within =
        let inside : k < length m.actors = omega (arith, within) in
        let there : k < length (actors_of n) = omega (arith, inside, ap length stands.actors.order, length-map m.actors actor_of) in
        subst (λ who. Steps n plans who m m) (sym (take-next k there))
        (steps-then n plans (take k (actors_of n)) (singleton (get_or (actors_of n) k actor.Env)) m m m (resting-turns k (omega (arith, within)))
        (actor-step n m k m.actors m.env.hub stands inside (resting-turn k inside) plans))
      where
        take-next : (k : ℕ) → k < length (actors_of n) → take (suc k) (actors_of n) ≡ take k (actors_of n) ++ singleton (get_or (actors_of n) k actor.Env)
        take-next k there = ap (λ i. take i (actors_of n)) (next k) ∙ take_more (actors_of n) k actor.Env there
          where
            next : (k : ℕ) → suc k ≡ k + 1
            next k = omega arith

    pub all-rest : Steps n plans (actors_of n) m m
    all-rest = subst (λ who. Steps n plans who m m) (take_all (length m.actors) (actors_of n) (omega (arith, ap length stands.actors.order, length-map m.actors actor_of)))
        (resting-turns (length m.actors) (omega arith))

  -- a round in which the environment made its entry alone, and all others rest
  pub round-alone : (n : Numbers) (plans : List Plan) (old new : RunAtHub) (actors : List (ActorRun J)) → Stands n (moment_of old actors)
      → EnvironmentSteps n plans local.Made old new → All (RestsAt n old.hub) actors → RoundSteps n plans false (moment_of old actors) (moment_of new actors)
  round-alone n plans old new actors stands went rest =
      let first : Steps n plans (singleton actor.Env) (moment_of old actors)
      (moment_of new actors) = environment-step n plans local.Made old new actors stands went in
      let same : new.hub ≡ old.hub = (went.alone refl).0 in
      record {
        was = λ is. cc;
        steps = λ is.
            steps-then n plans (singleton actor.Env) (actors_of n) (moment_of old actors) (moment_of new actors) (moment_of new actors) first
            (all-rest n plans (moment_of new actors) first.stands (subst (IsLedHub n) (sym same) went.led) (subst (λ s. All (RestsAt n s) actors) (sym same) rest));
        falls = λ is. (went.alone refl).1;
      }
