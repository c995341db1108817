-- How turns come one after another, and what each keeps of the moment before it.
use Rattle.std.proofs.Common.{◌≡◌, ◌∙◌, ◌⊎◌, inl, inr, ℕ, zero, suc, ◌+◌, ◌-◌, ◌*◌, ◌<◌, ◌≤◌, Bool, true, false, ◌==◌, is_none, List, [], ◌∷◌, ◌++◌, map, length, drop, set, get_or, refl, ap, sym, subst, arith, true≢false, length-append, length-set, get_or-set_same, get_or-set_other}
use Rattle.std.specs.List.{All, AllZip}
use Rattle.std.proofs.lemmas.List.Elements.{All-weaker, All-from_get_or, All-get_or, All-set, All-cons, All-nil}
use Rattle.std.proofs.lemmas.Bool.Decides.{nat_tests}
use Rattle.std.proofs.lemmas.List.{get_or-map, length-map}
use Rattle.napi_types.specs.declared.entry.Actor.{Actor}
use Rattle.napi_types.specs.declared.entry.Actor.TheVariants as actor
use Rattle.napi_types.specs.declared.entry.Entry.{Entry}
use Rattle.napi_types.specs.declared.op.Op.{Op}
use Rattle.napi_types.specs.plain.Entries.{is_environment}
use Rattle.napi_types.specs.plain.Lists.{singleton}
use Rattle.napi_types.specs.plain.Room.{one_if}
use Rattle.napi_types.specs.scripts.Plans.{Plan}
use Rattle.napi_types.specs.hub.Actors.{is_thread, is_worker}
use Rattle.napi_types.specs.hub.Hub.{Hub, Final}
use Rattle.napi_types.specs.hub.HubMoves.{is_spent}
use Rattle.napi_types.specs.runs.Setting.{Setting}
use Rattle.napi_types.specs.all_runs.TurnsInOrder.{IsStill, OtherTakesTurn, TakesTurn}
use Rattle.napi_types.proofs.hub.OthersKeep.{others-keep-hub}
use Rattle.shared_hub.specs.HubStates.{HubSeen, AddsEntry}
use Rattle.shared_hub.specs.KeptHubs.{IsLedHub}
use Rattle.shared_hub.specs.declared.naming.Numbers.{Numbers}
use Rattle.env_loop.specs.ActorRuns.{AddsEntryOf}
use Rattle.env_loop.specs.ActorTurns.{actor_of, is_over, IsActorOf, IsSameActor, with_work_executed}
use Rattle.env_loop.specs.FollowedRuns.{FollowsOnAt, IsFollowed, HasNumbers}
use Rattle.env_loop.specs.Recording.{AddonStates}
use Rattle.env_loop.specs.RecordedRuns.{Run, FitsHub}
use Rattle.env_loop.specs.declared.actor.ActorRun.{ActorRun}
use Rattle.env_loop.specs.declared.actor.ActorRun.TheVariants as run
use Rattle.env_loop.specs.declared.turn.LocalTurn.{LocalTurn}
use Rattle.env_loop.proofs.ActorsStand.{thread-runs-stand, worker-runs-stand}
use Rattle.env_loop.proofs.FollowedRuns.{fitting-runs-stand, others-may-add}
use Rattle.env_loop.proofs.SameActors.{same-actor-none, same-actor-then}
use Rattle.stepper.specs.TakingPart.{actors_of, actor_place}
use Rattle.stepper.specs.GivenTurns.{RunAtHub, Moment, moment_of, TurnOf, TurnOfActor, TurnsThrough, EnvironmentTurns, ActorTurns}
use Rattle.stepper.specs.ListTurns.{lists_at, HasScript}
use Rattle.stepper.specs.Stepping.{measure, RunKeeps, EnvironmentSteps, ActorSteps, Stands, Steps}
use Rattle.stepper.proofs.ActorPlaces.{IsOther, stands-there, StandsThere}
use Rattle.stepper.proofs.Endings.{spent-over, IsStillAt}
use Rattle.stepper.proofs.ListTurns.{turns-then, lists-turn, has-same, all-have, is-still}

-- THE ENVIRONMENT
pub goes-then : (n : Numbers) (plans : List Plan) (old mid new : Run) (xs ys zs : List Entry) (all now later : AddonStates) → mid.core.env.addons ≡ old.core.env.addons
    → FollowsOnAt n plans old xs all mid ys now → FollowsOnAt n plans mid ys now new zs later → FollowsOnAt n plans old xs all new zs later
goes-then n plans old mid new xs ys zs all now later same first second s firsts numbers of followed =
    second s firsts numbers (record { count = of.count ∙ sym same; first = of.first }) (first s firsts numbers of followed)

keeps-none : (n : Numbers) (plans : List Plan) (m : RunAtHub) → RunKeeps n plans m m
keeps-none n plans m = record { addons = refl; limit = refl; others = refl; goes = λ s firsts numbers of followed. followed }

pub keeps-then : (n : Numbers) (plans : List Plan) (old mid new : RunAtHub) → RunKeeps n plans old mid → RunKeeps n plans mid new → RunKeeps n plans old new
keeps-then n plans old mid new k l = record {
  addons = l.addons ∙ k.addons;
  limit = l.limit ∙ k.limit;
  others = subst (λ c. drop c new.addons.registers ≡ drop c mid.addons.registers) k.addons l.others ∙ k.others;
  goes = goes-then n plans old.run mid.run new.run old.hub.history mid.hub.history new.hub.history old.addons mid.addons new.addons k.addons k.goes l.goes;
}

others-not : (who : Actor) → IsOther who → is_environment who ≡ false
others-not actor.Env other = absurd other
others-not (actor.Thread t) other = refl
others-not (actor.Worker w) other = refl

unlike : (a b : ℕ) (c : Bool) → (a == b) ≡ c → (a ≡ b → ⊥) → (a == b) ≡ false
unlike a b true is apart = absurd (apart (alike a b is))
  where
    alike : (a b : ℕ) → (a == b) ≡ true → a ≡ b
    alike a b is = grind (arith, nat_tests)
unlike a b false is apart = is

module _ {J : Type 0} where
  -- THE SAME ACTORS
  all-same : (xs : List (ActorRun J)) → AllZip IsSameActor xs xs
  all-same [] = tt
  all-same (x ∷ xs) = (same-actor-none x, all-same xs)

  all-then : (xs ys zs : List (ActorRun J)) → AllZip IsSameActor xs ys → AllZip IsSameActor ys zs → AllZip IsSameActor xs zs
  all-then [] [] [] p q = tt
  all-then [] [] (z ∷ zs) p q = absurd q
  all-then [] (y ∷ ys) zs p q = absurd p
  all-then (x ∷ xs) [] zs p q = absurd p
  all-then (x ∷ xs) (y ∷ ys) [] p q = absurd q
  all-then (x ∷ xs) (y ∷ ys) (z ∷ zs) p q = (same-actor-then x y z p.0 q.0, all-then xs ys zs p.1 q.1)

  all-set : (xs : List (ActorRun J)) (i : ℕ) (a : ActorRun J) → IsSameActor (get_or xs i a) a → AllZip IsSameActor xs (set xs i a)
  all-set [] i a same = tt
  all-set (x ∷ xs) zero a same = (same, all-same xs)
  all-set (x ∷ xs) (suc i) a same = (same-actor-none x, all-set xs i a same)

  -- so it is the same one by name
  pub same-name : (a b : ActorRun J) → IsSameActor a b → actor_of a ≡ actor_of b
  same-name (run.OfThread t) (run.OfThread u) p = ap (λ k. actor.Thread k) (sym p.number)
  same-name (run.OfWorker t) (run.OfWorker u) p = ap (λ k. actor.Worker k) (sym p)
  same-name (run.OfThread t) (run.OfWorker u) p = absurd p
  same-name (run.OfWorker t) (run.OfThread u) p = absurd p

  names-set : (xs : List (ActorRun J)) (i : ℕ) (a : ActorRun J) → actor_of (get_or xs i a) ≡ actor_of a → map actor_of (set xs i a) ≡ map actor_of xs
  names-set [] i a same = refl
  names-set (x ∷ xs) zero a same = ap (λ w. w ∷ map actor_of xs) (sym same)
  names-set (x ∷ xs) (suc i) a same = ap (λ ws. actor_of x ∷ ws) (names-set xs i a same)

  -- TURNS ONE AFTER ANOTHER
  through-then : (n : Numbers) (plans : List Plan) (xs ys : List Actor) (old mid new : Moment J) → TurnsThrough n plans xs old mid → TurnsThrough n plans ys mid new
      → TurnsThrough n plans (xs ++ ys) old new
  through-then n plans [] ys old mid new first second = subst (λ (m : Moment J). TurnsThrough n plans ys m new) first second
  through-then n plans (who ∷ xs) ys old mid new first second = (first.0, first.1, through-then n plans xs ys first.0 mid new first.2 second)

  pub steps-none : (n : Numbers) (plans : List Plan) (m : Moment J) → Stands n m → Steps n plans [] m m
  steps-none n plans m stands = record {
    turns = refl;
    lists = λ s scripts firsts numbers of followed has. refl;
    stands = stands;
    same = all-same m.actors;
    kept = keeps-none n plans m.env;
  }

  pub steps-then : (n : Numbers) (plans : List Plan) (xs ys : List Actor) (old mid new : Moment J) → Steps n plans xs old mid → Steps n plans ys mid new
      → Steps n plans (xs ++ ys) old new
  steps-then n plans xs ys old mid new first second = record {
    turns = through-then n plans xs ys old mid new first.turns second.turns;
    lists = λ s scripts firsts numbers of followed has.
        turns-then s scripts xs ys (lists_at old) (lists_at mid) (lists_at new) (first.lists s scripts firsts numbers of followed has)
        (second.lists s scripts firsts numbers (record { count = of.count ∙ sym first.kept.addons; first = of.first }) (first.kept.goes s firsts numbers of followed)
        (all-have scripts old.actors mid.actors first.same has));
    stands = second.stands;
    same = all-then old.actors mid.actors new.actors first.same second.same;
    kept = keeps-then n plans old.env mid.env new.env first.kept second.kept;
  }

  -- the turn of one more, by addons that tell the same plans
  pub steps-more : (n : Numbers) (plans later : List Plan) (xs zs : List Actor) (who : Actor) (old mid new : Moment J) → Steps n plans xs old mid → later ≡ plans
      → Steps n later (singleton who) mid new → zs ≡ xs ++ singleton who → Steps n plans zs old new
  steps-more n plans later xs zs who old mid new first same second more =
      subst (λ ys. Steps n plans ys old new) (sym more)
      (steps-then n plans xs (singleton who) old mid new first (subst (λ ps. Steps n ps (singleton who) mid new) same second))

  -- AS ONE OF THEM GOES ON
  -- an actor stands while another one makes an entry
  abbrev IsApart : ActorRun J → Actor → Type 0
  IsApart (run.OfThread t) who = is_thread t.number who ≡ false
  IsApart (run.OfWorker w) who = is_worker w.number who ≡ false

  other-stands : (n : Numbers) (before after : HubSeen) (x : Entry) (a : ActorRun J) → IsLedHub n before → AddsEntry before x after → IsApart a x.actor → IsActorOf n before a
      → IsActorOf n after a
  other-stands n before after x (run.OfThread t) led adds apart of = thread-runs-stand n before after t x led of adds apart
  other-stands n before after x (run.OfWorker w) led adds apart of = worker-runs-stand n before after w x led of adds apart

  apart-env : (a : ActorRun J) → IsApart a actor.Env
  apart-env (run.OfThread t) = refl
  apart-env (run.OfWorker w) = refl

  all-stand : (n : Numbers) (before after : HubSeen) (x : Entry) (xs : List (ActorRun J)) → IsLedHub n before → AddsEntry before x after → x.actor ≡ actor.Env
      → All (IsActorOf n before) xs → All (IsActorOf n after) xs
  all-stand n before after x xs led adds by stand =
      All-weaker (IsActorOf n before) (IsActorOf n after) (λ a of. other-stands n before after x a led adds (subst (IsApart a) (sym by) (apart-env a)) of) xs stand

  -- THE ENVIRONMENT'S TURN
  same-stand : (n : Numbers) (before after : HubSeen) (xs : List (ActorRun J)) → after ≡ before → All (IsActorOf n before) xs → All (IsActorOf n after) xs
  same-stand n before after xs same stand = subst (λ s. All (IsActorOf n s) xs) (sym same) stand

  env-stand : (n : Numbers) (plans : List Plan) (old new : RunAtHub) (xs : List (ActorRun J)) → IsLedHub n old.hub → EnvironmentTurns n plans old new → All (IsActorOf n old.hub) xs → All (IsActorOf n new.hub) xs
  env-stand n plans old new xs led (inl m) stand = same-stand n old.hub new.hub xs m.hub stand
  env-stand n plans old new xs led (inr (inl m)) stand = all-stand n old.hub new.hub m.one.entry xs led m.one.adds m.one.by stand
  env-stand n plans old new xs led (inr (inr (inl m))) stand = same-stand n old.hub new.hub xs m.hub stand
  env-stand n plans old new xs led (inr (inr (inr (inl m)))) stand = same-stand n old.hub new.hub xs m.hub stand
  env-stand n plans old new xs led (inr (inr (inr (inr m)))) stand = same-stand n old.hub new.hub xs (ap (λ (r : RunAtHub). r.hub) m.same) stand

  pub environment-step : (n : Numbers) (plans : List Plan) (turn : LocalTurn) (old new : RunAtHub) (actors : List (ActorRun J)) → Stands n (moment_of old actors)
      → EnvironmentSteps n plans turn old new → Steps n plans (singleton actor.Env) (moment_of old actors) (moment_of new actors)
  environment-step n plans turn old new actors stands went = record {
    turns = (moment_of new actors, record { turn = went.turn; goes = went.kept.goes; actors = refl }, refl);
    lists = λ s scripts firsts numbers of followed has.
        (lists_at (moment_of new actors), lists-turn n plans old new s firsts numbers went.led followed (went.kept.goes s firsts numbers of followed) went.turn, refl);
    stands = record {
      env = went.stands;
      actors = record {
        order = stands.actors.order;
        stands = env-stand n plans old new actors went.led went.turn stands.actors.stands;
        ended = λ final. by (went.spent final);
      };
    };
    same = all-same actors;
    kept = went.kept;
  }
    where
      by : (old.hub.hub.stage ≡ Final) ⊎ (is_spent old.hub.hub ≡ true) → All (λ a. is_over a ≡ true) actors
      by (inl before) = stands.actors.ended before
      by (inr spent) = spent-over n old.hub went.led actors spent stands.actors.stands

  -- THE TURN OF A THREAD OR A WORKER
  -- the others at a list where one has its place
  others-stand : (P : ActorRun J → Type 0) (xs : List (ActorRun J)) (i : ℕ) (a : ActorRun J) → P a
      → ((j : ℕ) → j < length xs → (j ≡ i → ⊥) → P (get_or xs j a)) → All P (set xs i a)
  others-stand P xs i a own others =
      All-from_get_or P (set xs i a) a (λ j inside. by j (omega (arith, inside, length-set xs i a)) (j == i) refl)
    where
      apart : (j i : ℕ) → (j == i) ≡ false → j ≡ i → ⊥
      apart j i is same = grind (arith, nat_tests)

      alike : (j i : ℕ) → (j == i) ≡ true → j ≡ i
      alike j i is = grind (arith, nat_tests)

      by : (j : ℕ) → j < length xs → (b : Bool) → (j == i) ≡ b → P (get_or (set xs i a) j a)
      by j inside true is = subst P (sym (ap (λ k. get_or (set xs i a) k a) (alike j i is) ∙ get_or-set_same xs i a a (subst (λ k. k < length xs) (alike j i is) inside))) own
      by j inside false is = subst P (sym (get_or-set_other xs i j a a (apart j i is))) (others j inside (apart j i is))

  module _ (n : Numbers) (m : Moment J) (place : ℕ) (actors : List (ActorRun J)) (after : HubSeen) (stands : Stands n m) (inside : place < length m.actors)
      {made : Bool} (s : ActorSteps n place made m.actors m.env.hub actors after) where
    abbrev before : HubSeen
    before = m.env.hub

    name-at : (j : ℕ) (d : ActorRun J) → j < length m.actors → get_or (actors_of n) j actor.Env ≡ actor_of (get_or m.actors j d)
    name-at j d there = ap (λ (ws : List Actor). get_or ws j actor.Env) (sym stands.actors.order) ∙ get_or-map actor_of m.actors j d actor.Env there

    -- its name is the one of its place
    name : actor_of s.actor ≡ get_or (actors_of n) place actor.Env
    name = sym (same-name (get_or m.actors place s.actor) s.actor s.same) ∙ sym (name-at place s.actor inside)

    long : length (actors_of n) ≡ length m.actors
    long = ap length (sym stands.actors.order) ∙ length-map m.actors actor_of

    there-at : (j : ℕ) → j < length m.actors → StandsThere n j (get_or (actors_of n) j actor.Env)
    there-at j there = stands-there n j (omega (arith, there, long))

    there : StandsThere n place (actor_of s.actor)
    there = subst (StandsThere n place) (sym name) (there-at place inside)

    other : IsOther (actor_of s.actor)
    other = there.other

    -- a thread or a worker by its name, and by the actor that made an entry
    named-apart : (a : ActorRun J) (who : Actor) → (actor_of a ≡ who → ⊥) → IsApart a who
    named-apart (run.OfThread t) actor.Env apart = refl
    named-apart (run.OfThread t) (actor.Worker w) apart = refl
    named-apart (run.OfThread t) (actor.Thread u) apart = unlike u t.number (u == t.number) refl (λ same. apart (ap (λ k. actor.Thread k) (sym same)))
    named-apart (run.OfWorker w) actor.Env apart = refl
    named-apart (run.OfWorker w) (actor.Thread u) apart = refl
    named-apart (run.OfWorker w) (actor.Worker u) apart = unlike u w.number (u == w.number) refl (λ same. apart (ap (λ k. actor.Worker k) (sym same)))

    -- at another place stands another actor
    apart-at : (j : ℕ) → j < length m.actors → (j ≡ place → ⊥) → actor_of (get_or m.actors j s.actor) ≡ actor_of (get_or m.actors place s.actor) → ⊥
    apart-at j inside-too apart same =
        apart (sym (there-at j inside-too).place
        ∙ ap (actor_place n.threads) (name-at j s.actor inside-too ∙ same ∙ same-name (get_or m.actors place s.actor) s.actor s.same)
        ∙ there.place)

    -- where it made an entry ..
    made-stand : (x : AddsEntryOf (actor_of (get_or m.actors place s.actor)) before after) → All (IsActorOf n after) actors
    made-stand x =
        subst (All (IsActorOf n after)) (sym s.actors) (others-stand (IsActorOf n after) m.actors place s.actor s.stands
        (λ j inside-too apart. other-stands n before after x.entry (get_or m.actors j s.actor) s.led.0 x.adds
        (named-apart (get_or m.actors j s.actor) x.entry.actor (λ same. apart-at j inside-too apart (same ∙ x.by)))
        (All-get_or (IsActorOf n before) m.actors j s.actor inside-too stands.actors.stands)))

    stay-stand : after ≡ before → All (IsActorOf n after) actors
    stay-stand same =
        subst (All (IsActorOf n after)) (sym s.actors) (others-stand (IsActorOf n after) m.actors place s.actor s.stands
        (λ j inside-too apart. subst (λ u. IsActorOf n u (get_or m.actors j s.actor)) (sym same)
        (All-get_or (IsActorOf n before) m.actors j s.actor inside-too stands.actors.stands)))

    actors-stand : ActorTurns n (get_or m.actors place s.actor) before s.actor after → All (IsActorOf n after) actors
    actors-stand (inl made) = made-stand made.one
    actors-stand (inr stays) = stay-stand stays.hub

    -- the entry is not the environment's
    not-env : (x : AddsEntryOf (actor_of (get_or m.actors place s.actor)) before after) → is_environment x.entry.actor ≡ false
    not-env x = others-not (x.entry.actor) (subst IsOther (sym (x.by ∙ same-name (get_or m.actors place s.actor) s.actor s.same)) other)

    fits-after : ActorTurns n (get_or m.actors place s.actor) before s.actor after → FitsHub m.env.run after
    fits-after (inl made) = fitting-runs-stand m.env.run before after made.one.entry stands.env.fits (not-env made.one) made.one.adds
    fits-after (inr stays) = subst (FitsHub m.env.run) (sym stays.hub) stands.env.fits

    goes-after : (plans : List Plan) → ActorTurns n (get_or m.actors place s.actor) before s.actor after
        → FollowsOnAt n plans m.env.run before.history m.env.addons m.env.run after.history m.env.addons
    goes-after plans (inl made) = λ t firsts numbers of followed.
        subst (λ xs. IsFollowed t m.env.run xs m.env.addons firsts) (sym made.one.adds.history)
        (others-may-add t m.env.run before.history (singleton made.one.entry) m.env.addons firsts followed
        (All-cons (λ (x : Entry). is_environment x.actor ≡ false) made.one.entry [] (not-env made.one) (All-nil (λ (x : Entry). is_environment x.actor ≡ false))))
    goes-after plans (inr stays) = λ t firsts numbers of followed. subst (λ (u : HubSeen). IsFollowed t m.env.run u.history m.env.addons firsts) (sym stays.hub) followed

    over-executed : (a : ActorRun J) → is_over (with_work_executed a) ≡ is_over a
    over-executed (run.OfThread t) = refl
    over-executed (run.OfWorker w) = refl

    -- once `finals` has come all have ended, and none makes an entry
    ended-after : ActorTurns n (get_or m.actors place s.actor) before s.actor after → after.hub.stage ≡ Final → All (λ a. is_over a ≡ true) actors
    ended-after (inl made) final =
        let early : before.hub.stage ≡ Final =
        sym (others-keep-hub before.hub made.one.entry (not-env made.one) made.one.adds.next).standing.stage ∙ ap (λ (h : Hub). h.stage) (sym made.one.adds.hub) ∙ final in
        absurd (true≢false (sym (All-get_or (λ a. is_over a ≡ true) m.actors place s.actor inside (stands.actors.ended early)) ∙ made.live))
    ended-after (inr stays) final =
        let all : All (λ a. is_over a ≡ true) m.actors = stands.actors.ended (ap (λ (u : HubSeen). u.hub.stage) (sym stays.hub) ∙ final) in
        subst (All (λ a. is_over a ≡ true)) (sym s.actors) (All-set (λ a. is_over a ≡ true) m.actors place s.actor
        (ap is_over stays.executed ∙ over-executed (get_or m.actors place s.actor) ∙ All-get_or (λ a. is_over a ≡ true) m.actors place s.actor inside all) all)

    turn-by : (who : Actor) → actor_of s.actor ≡ who → actor_place n.threads who ≡ place → TurnOfActor n who m (moment_of (record m.env { hub = after }) actors)
    turn-by who is at = record {
      actor = s.actor;
      is = is;
      actors = s.actors ∙ ap (λ i. set m.actors i s.actor) (sym at);
      turn = subst (λ i. ActorTurns n (get_or m.actors i s.actor) before s.actor after) (sym at) s.turn;
      run = refl;
      addons = refl;
    }

    -- the turn by its name
    turn-of : (plans : List Plan) (who : Actor) → IsOther who → actor_of s.actor ≡ who → actor_place n.threads who ≡ place
        → TurnOf n plans who m (moment_of (record m.env { hub = after }) actors)
    turn-of plans actor.Env named is at = absurd named
    turn-of plans (actor.Thread t) named is at = turn-by (actor.Thread t) is at
    turn-of plans (actor.Worker w) named is at = turn-by (actor.Worker w) is at

    -- the turn as the two lists show it
    lists-of : (t : Setting) (scripts : List (List Op)) → HasNumbers t n → All (HasScript scripts) m.actors → (who : Actor) → actor_of s.actor ≡ who
        → ActorTurns n (get_or m.actors place s.actor) before s.actor after
        → OtherTakesTurn t scripts who (lists_at m) (lists_at (moment_of (record m.env { hub = after }) actors))
    lists-of t scripts numbers has who is (inl made) =
        inl (record { entry = made.one.entry; by = made.one.by ∙ same-name (get_or m.actors place s.actor) s.actor s.same ∙ is; journal = refl; history = made.one.adds.history }, refl)
    lists-of t scripts numbers has who is (inr stays) =
        let own : HasScript scripts s.actor =
        has-same scripts (get_or m.actors place s.actor) s.actor s.same (All-get_or (HasScript scripts) m.actors place s.actor inside has) in
        inr (
          subst (λ w. IsStill t scripts w before.history) is
              (is-still n t scripts before s.actor s.led.0 numbers (subst (λ u. IsActorOf n u s.actor) stays.hub s.stands) own stays.still),
          ap (λ (u : HubSeen). lists_at (moment_of (record m.env { hub = u }) actors)) stays.hub,
        )

    lists-by : (t : Setting) (scripts : List (List Op)) → HasNumbers t n → All (HasScript scripts) m.actors → (who : Actor) → IsOther who → actor_of s.actor ≡ who
        → TakesTurn t scripts who (lists_at m) (lists_at (moment_of (record m.env { hub = after }) actors))
    lists-by t scripts numbers has actor.Env named is = absurd named
    lists-by t scripts numbers has (actor.Thread u) named is = lists-of t scripts numbers has (actor.Thread u) is s.turn
    lists-by t scripts numbers has (actor.Worker w) named is = lists-of t scripts numbers has (actor.Worker w) is s.turn

    pub actor-step : (plans : List Plan) → Steps n plans (singleton (get_or (actors_of n) place actor.Env)) m (moment_of (record m.env { hub = after }) actors)
    actor-step plans = record {
      turns = (
        moment_of (record m.env { hub = after }) actors,
        subst (λ who. TurnOf n plans who m (moment_of (record m.env { hub = after }) actors)) name
            (turn-of plans (actor_of s.actor) other refl there.place),
        refl,
      );
      lists = λ t scripts firsts numbers of followed has. (
        lists_at (moment_of (record m.env { hub = after }) actors),
        subst (λ who. TakesTurn t scripts who (lists_at m) (lists_at (moment_of (record m.env { hub = after }) actors))) name
            (lists-by t scripts numbers has (actor_of s.actor) other refl),
        refl,
      );
      stands = record {
        env = record { fits = fits-after s.turn; answered = stands.env.answered };
        actors = record {
          order = ap (map actor_of) s.actors ∙ names-set m.actors place s.actor (same-name (get_or m.actors place s.actor) s.actor s.same) ∙ stands.actors.order;
          stands = actors-stand s.turn;
          ended = ended-after s.turn;
        };
      };
      same = subst (AllZip IsSameActor m.actors) (sym s.actors) (all-set m.actors place s.actor s.same);
      kept = record { addons = refl; limit = refl; others = refl; goes = goes-after plans s.turn };
    }

    pub named-step : (plans : List Plan) (who : Actor) → get_or (actors_of n) place actor.Env ≡ who → Steps n plans (singleton who) m
        (moment_of (record m.env { hub = after }) actors)
    named-step plans who is = subst (λ w. Steps n plans (singleton w) m (moment_of (record m.env { hub = after }) actors)) is (actor-step plans)

    -- the entry of a turn lowers the measure, and else the actor stays still
    pub actor-falls : (run : Run) → (measure n run after < measure n run before) ⊎ ((after ≡ before) × IsStillAt n before s.actor)
    actor-falls run = by s.turn
      where
        less : (z limit a b r f : ℕ) → a ≡ b + 1 → a + r ≤ limit → 2 * (z + (limit - a)) + f < 2 * (z + (limit - b)) + f
        less z limit a b r f more within = omega (arith, more, within)

        by : ActorTurns n (get_or m.actors place s.actor) before s.actor after → (measure n run after < measure n run before) ⊎ ((after ≡ before) × IsStillAt n before s.actor)
        by (inl made) = inl (less _ _ _ _ _ (one_if (is_none run.ending))
            (ap length made.one.adds.history ∙ length-append before.history (singleton made.one.entry)) s.led.1.within)
        by (inr stays) = inr (stays.hub, stays.still)
