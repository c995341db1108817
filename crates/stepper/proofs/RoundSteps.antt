-- Rounds: how they come near to the end.
use Rattle.std.proofs.Common.{◌≡◌, ◌≢◌, ◌∙◌, ◌⊎◌, inl, inr, ℕ, zero, suc, ◌+◌, ◌<◌, ◌≤◌, Bool, true, false, cond, List, [], ◌∷◌, ◌++◌, map, length, take, set, count_by, Option, Some, None, refl, ap, sym, subst, arith, take_all, append_assoc, append-nil, lt_trans}
use Rattle.std.specs.List.{All, range_with_len}
use Rattle.std.specs.Option.{option_or}
use Rattle.std.proofs.lemmas.List.{take_more_set, length-map}
use Rattle.std.proofs.lemmas.List.Sums.{sum_by-cons}
use Rattle.std.proofs.lemmas.List.Elements.{All-append, All-same, All-cons, All-nil, All-head, All-tail}
use Rattle.napi_types.specs.declared.entry.Actor.{Actor}
use Rattle.napi_types.specs.declared.entry.Actor.TheVariants as actor
use Rattle.napi_types.specs.declared.entry.Phase.{Phase}
use Rattle.napi_types.specs.declared.entry.Phase.TheVariants as phase
use Rattle.napi_types.specs.parts.Frames.{Frame}
use Rattle.napi_types.specs.scripts.Plans.{Plan}
use Rattle.napi_types.specs.environment.Environment.{Environment}
use Rattle.napi_types.specs.hub.Hub.{Stage, Before, Live, Drained, Final, is_of_hooks, IsStageOf}
use Rattle.napi_types.specs.hub.Waits.{SomebodyGoesOn}
use Rattle.napi_types.specs.runs.Choice.{local_choice, local_choice_in, hub_choice, waiting_hooks}
use Rattle.napi_types.specs.runs.Loop.{Event, IsGone, ticket_choice}
use Rattle.napi_types.proofs.all_runs.Stillness.{somebody-always-goes-on}
use Rattle.shared_hub.specs.HubStates.{HubSeen}
use Rattle.shared_hub.specs.KeptHubs.{IsLedHub}
use Rattle.shared_hub.specs.declared.naming.Numbers.{Numbers}
use Rattle.env_loop.specs.declared.actor.ActorRun.{ActorRun}
use Rattle.env_loop.specs.declared.actor.ActorRun.TheVariants as run
use Rattle.env_loop.specs.declared.turn.LocalTurn.{LocalTurn}
use Rattle.env_loop.specs.declared.turn.LocalTurn.TheVariants as turn
use Rattle.env_loop.specs.ActorTurns.{actor_of, IsActorOf}
use Rattle.env_loop.specs.RecordedRuns.{Run, FitsHub, pending_at_hub}
use Rattle.env_loop.specs.Turns.{event_turn, turn_at, needs_hub, hub_event}
use Rattle.stepper.specs.TakingPart.{actors_of, round_of, rounds_of, turns_of, is_thread_run}
use Rattle.stepper.specs.GivenTurns.{RunAtHub, Moment, moment_of, IsIdle, WasGone}
use Rattle.stepper.specs.Stepping.{measure, Stands, Steps, RoundSteps}
use Rattle.stepper.proofs.Endings.{IsStillAt, nobody-goes-on}
use Rattle.stepper.proofs.ListTurns.{unowed-turn}
use Rattle.stepper.proofs.OrderedTurns.{steps-then}

-- AN ENVIRONMENT THAT HAS NOTHING TO DO
no-local : (o h : Option Event) → option_or o h ≡ None → o ≡ None
no-local None h none = refl
no-local (Some event) h none = cc

no-hub : (o h : Option Event) → option_or o h ≡ None → h ≡ None
no-hub None h none = none
no-hub (Some event) h none = cc

early-stage : (shown s : Stage) → s ≡ shown → s ≡ Final → (shown ≡ Final → ⊥) → ⊥
early-stage shown s is final never = never (sym is ∙ final)

-- it is neither in its last phase nor gone
early-phase : (e : Environment) (p : Phase) (s : Stage) → IsStageOf p s → local_choice_in e p ≡ None → event_turn None p ≡ turn.NeedsHub → s ≢ Final
early-phase e phase.Init s shows none needs = λ final. early-stage Before s shows final (λ is. cc)
early-phase e phase.Live s shows none needs = λ final. early-stage Live s shows final (λ is. cc)
early-phase e phase.Hooks s shows none needs = λ final. let no : is_of_hooks Final ≡ true = ap is_of_hooks (sym final) ∙ shows in cc
early-phase e phase.Drain s shows none needs = λ final. early-stage Drained s shows final (λ is. cc)
early-phase e phase.Finals s shows none needs = absurd (always (ticket_choice e phase.Finals) none)
  where
    always : (o : Option Event) → option_or o (Some IsGone) ≡ None → ⊥
    always None none = cc
    always (Some event) none = cc
early-phase e phase.Gone s shows none needs = cc

-- nothing is pending, so that no frame stands
no-frame : (fs : List Frame) (e : Environment) → turn_at fs e ≡ turn.NeedsHub → event_turn (local_choice e) e.phase ≡ turn.NeedsHub
no-frame [] e needs = needs
no-frame (f ∷ fs) e needs = cc

-- so the hub has an event, or somebody goes on
idle-goes-on : (n : Numbers) (r : Run) (s : HubSeen) → IsLedHub n s → FitsHub r s → needs_hub r → pending_at_hub r ≡ false
    → hub_event r.core.env s.hub ≡ None → SomebodyGoesOn s.hub
idle-goes-on n r s led fits needs unowed none =
    let choice : local_choice r.core.env ≡ None = no-local (local_choice r.core.env) (hub_choice s.hub (waiting_hooks r.core.env)) none in
    let event : event_turn (local_choice r.core.env) r.core.env.phase ≡ turn.NeedsHub =
    no-frame r.core.env.frames r.core.env (unowed-turn (pending_at_hub r) (turn_at r.core.env.frames r.core.env) unowed needs) in
    somebody-always-goes-on n.limits.history n.threads n.workers s.history s.hub (waiting_hooks r.core.env) led.led
    (early-phase r.core.env r.core.env.phase s.hub.stage fits.stage choice (subst (λ o. event_turn o r.core.env.phase ≡ turn.NeedsHub) choice event))
    (no-hub (local_choice r.core.env) (hub_choice s.hub (waiting_hooks r.core.env)) none)

-- SO MANY ROUNDS
pub rounds-more : (n : Numbers) (k : ℕ) → rounds_of n k ++ round_of n ≡ rounds_of n (suc k)
rounds-more n zero = sym (append-nil (round_of n))
rounds-more n (suc k) = append_assoc (round_of n) (rounds_of n k) (round_of n) ∙ ap (λ xs. round_of n ++ xs) (rounds-more n k)

-- THE SCHEDULE
pub all-turns : (P : Actor → Type 0) (xs : List Actor) → All P xs → All P (turns_of xs)
all-turns P [] all = all
all-turns P (actor.Env ∷ xs) all = All-tail P actor.Env xs all
all-turns P (actor.Thread t ∷ xs) all = All-cons P (actor.Thread t) (turns_of xs) (All-head P (actor.Thread t) xs all) (all-turns P xs (All-tail P (actor.Thread t) xs all))
all-turns P (actor.Worker w ∷ xs) all = All-cons P (actor.Worker w) (turns_of xs) (All-head P (actor.Worker w) xs all) (all-turns P xs (All-tail P (actor.Worker w) xs all))

pub all-prefix : (P : Actor → Type 0) (xs ys : List Actor) → All P (xs ++ ys) → All P xs
all-prefix P [] ys all = All-nil P
all-prefix P (x ∷ xs) ys all = All-cons P x xs (All-head P x (xs ++ ys) all) (all-prefix P xs ys (All-tail P x (xs ++ ys) all))

pub all-back : (P : Actor → Type 0) (xs ys : List Actor) → All P (xs ++ ys) → All P ys
all-back P [] ys all = all
all-back P (x ∷ xs) ys all = all-back P xs ys (All-tail P x (xs ++ ys) all)

-- THE THREADS AMONG THE ACTORS
abbrev is_thread_name : Actor → Bool
is_thread_name (actor.Thread t) = true
is_thread_name _ = false

module _ {J : Type 0} where
  counted : (xs : List (ActorRun J)) → count_by is_thread_run xs ≡ count_by is_thread_name (map actor_of xs)
  counted [] = refl
  counted (x ∷ xs) =
      sum_by-cons (λ y. cond (is_thread_run y) 1 0) x xs ∙ ap (λ k. cond (is_thread_run x) 1 0 + k) (counted xs) ∙ ap (λ b. cond b 1 0 + count_by is_thread_name (map actor_of xs)) (alike x)
      ∙ sym (sum_by-cons (λ y. cond (is_thread_name y) 1 0) (actor_of x) (map actor_of xs))
    where
      alike : (a : ActorRun J) → is_thread_run a ≡ is_thread_name (actor_of a)
      alike (run.OfThread t) = refl
      alike (run.OfWorker w) = refl

threads-count : (a n : ℕ) (xs : List Actor) → count_by is_thread_name (map (λ t. actor.Thread t) (range_with_len a n) ++ xs) ≡ n + count_by is_thread_name xs
threads-count a zero xs = none (count_by is_thread_name xs)
  where
    none : (k : ℕ) → k ≡ 0 + k
    none k = omega arith
threads-count a (suc n) xs =
    sum_by-cons (λ y. cond (is_thread_name y) 1 0) (actor.Thread a) (map (λ t. actor.Thread t) (range_with_len (a + 1) n) ++ xs) ∙ more n (count_by is_thread_name xs) _ (threads-count (a + 1) n xs)
  where
    more : (n k m : ℕ) → m ≡ n + k → 1 + m ≡ suc n + k
    more n k m is = omega (arith, is)

workers-count : (a n : ℕ) → count_by is_thread_name (map (λ w. actor.Worker w) (range_with_len a n)) ≡ 0
workers-count a zero = refl
workers-count a (suc n) =
    sum_by-cons (λ y. cond (is_thread_name y) 1 0) (actor.Worker a) (map (λ w. actor.Worker w) (range_with_len (a + 1) n)) ∙ none _ (workers-count (a + 1) n)
  where
    none : (m : ℕ) → m ≡ 0 → 0 + m ≡ 0
    none m is = omega (arith, is)

module _ {J : Type 0} where
  pub threads-counted : (n : Numbers) (xs : List (ActorRun J)) → map actor_of xs ≡ actors_of n → count_by is_thread_run xs ≡ n.threads
  threads-counted n xs order =
      counted xs ∙ ap (count_by is_thread_name) order ∙ threads-count 0 n.threads (map (λ w. actor.Worker w) (range_with_len 0 n.workers))
      ∙ omega (arith, workers-count 0 n.workers)

  -- A ROUND
  -- the environment had nothing to do at its turn, and each that had its turn since has ended or waits
  pub record Idling (n : Numbers) (old now : RunAtHub) (passed : List (ActorRun J)) : Type 0 where
    pub idle : IsIdle old now
    pub still : All (IsStillAt n old.hub) passed

  abbrev pub Progress : Numbers → RunAtHub → RunAtHub → List (ActorRun J) → Type 0
  Progress n old now passed = (measure n now.run now.hub < measure n old.run old.hub) ⊎ Idling n old now passed

  pub progress-none : (n : Numbers) (old now : RunAtHub) → (measure n now.run now.hub < measure n old.run old.hub) ⊎ IsIdle old now → Progress n old now []
  progress-none n old now (inl less) = inl less
  progress-none n old now (inr idle) = inr (record { idle = idle; still = All-nil (IsStillAt n old.hub) })

  pub progress-more : (n : Numbers) (old now : RunAtHub) (actors : List (ActorRun J)) (place : ℕ) (a : ActorRun J) (after : HubSeen) → place < length actors
      → Progress n old now (take place actors)
      → (measure n now.run after < measure n now.run now.hub) ⊎ ((after ≡ now.hub) × IsStillAt n now.hub a)
      → Progress n old (record now { hub = after }) (take (place + 1) (set actors place a))
  progress-more n old now actors place a after inside (inl less) (inl falls) = inl (lt_trans falls less)
  progress-more n old now actors place a after inside (inl less) (inr still) =
      inl (subst (λ (s : HubSeen). measure n now.run s < measure n old.run old.hub) (sym still.0) less)
  progress-more n old now actors place a after inside (inr idling) (inl falls) =
      inl (subst (λ (r : Run). measure n now.run after < measure n r old.hub) idling.idle.run
      (subst (λ (s : HubSeen). measure n now.run after < measure n now.run s) idling.idle.hub falls))
  progress-more n old now actors place a after inside (inr idling) (inr still) = inr (record {
    idle = record {
      needs = idling.idle.needs;
      unowed = idling.idle.unowed;
      none = idling.idle.none;
      run = idling.idle.run;
      hub = still.0 ∙ idling.idle.hub;
      addons = idling.idle.addons;
    };
    still =
        All-same (IsStillAt n old.hub) (take (place + 1) (set actors place a)) (take place actors ++ a ∷ []) (take_more_set actors place a inside)
        (All-append (IsStillAt n old.hub) (take place actors) (a ∷ []) idling.still
        (All-cons (IsStillAt n old.hub) a [] (subst (λ (s : HubSeen). IsStillAt n s a) idling.idle.hub still.1) (All-nil (IsStillAt n old.hub))));
  })

  pub progress-at : (n : Numbers) (old now : RunAtHub) (count : ℕ) (actors new : List (ActorRun J)) → new ≡ actors → Progress n old now (take count actors) → Progress n old now (take count new)
  progress-at n old now count actors new same progress = subst (λ xs. Progress n old now (take count xs)) (sym same) progress

  -- not all of them wait
  pub progress-falls : (n : Numbers) (old now : Moment J) → Stands n old → Stands n now → IsLedHub n now.env.hub → Progress n old.env now.env now.actors
      → measure n now.env.run now.env.hub < measure n old.env.run old.env.hub
  progress-falls n old now first stands led (inl less) = less
  progress-falls n old now first stands led (inr idling) =
      let led-first : IsLedHub n old.env.hub = subst (IsLedHub n) idling.idle.hub led in
      absurd (nobody-goes-on n old.env.hub led-first now.actors stands.actors.order (subst (λ s. All (IsActorOf n s) now.actors) idling.idle.hub stands.actors.stands) idling.still
      (idle-goes-on n old.env.run old.env.hub led-first first.env.fits idling.idle.needs idling.idle.unowed idling.idle.none))

  -- a round
  pub round-steps : (n : Numbers) (plans : List Plan) (old now : Moment J) → Stands n old → IsLedHub n now.env.hub → (count : ℕ) → length now.actors ≤ count
      → Steps n plans (actor.Env ∷ take count (actors_of n)) old now → Progress n old.env now.env (take count now.actors) → RoundSteps n plans false old now
  round-steps n plans old now first led count all steps progress = record {
    was = λ is. cc;
    steps = λ is. subst (λ xs. Steps n plans (actor.Env ∷ xs) old now) (take_all count (actors_of n) many) steps;
    falls = λ is. progress-falls n old now first steps.stands led (subst (Progress n old.env now.env) (take_all count now.actors all) progress);
  }
    where
      many : length (actors_of n) ≤ count
      many = omega (arith, all, ap length steps.stands.actors.order, length-map now.actors actor_of)

  pub round-none : (n : Numbers) (plans : List Plan) (old now : RunAtHub) (actors : List (ActorRun J)) → WasGone old now
      → RoundSteps n plans true (moment_of old actors) (moment_of now actors)
  round-none n plans old now actors gone = record {
    was = λ is. (gone.gone, ap (λ (r : RunAtHub). moment_of r actors) gone.same);
    steps = λ is. cc;
    falls = λ is. cc;
  }

  -- THE SCHEDULE, AND ROUNDS AFTER IT
  -- the turns of the schedule in two parts
  pub schedule-steps : (n : Numbers) (plans later : List Plan) (turns xs ys : List Actor) (old mid new : Moment J) → turns ≡ xs ++ ys → Steps n plans xs old mid → later ≡ plans
      → Steps n later ys mid new → Steps n plans (turns ++ rounds_of n 0) old new
  schedule-steps n plans later turns xs ys old mid new is first same second =
      subst (λ zs. Steps n plans zs old new) (sym (append-nil turns ∙ is)) (steps-then n plans xs ys old mid new first (subst (λ ps. Steps n ps ys mid new) same second))

  -- one round more
  pub rounds-steps : (n : Numbers) (plans later : List Plan) (turns : List Actor) (k : ℕ) (old mid new : Moment J) → Steps n plans (turns ++ rounds_of n k) old mid → later ≡ plans
      → Steps n later (round_of n) mid new → Steps n plans (turns ++ rounds_of n (suc k)) old new
  rounds-steps n plans later turns k old mid new first same second =
      subst (λ zs. Steps n plans zs old new) (append_assoc turns (rounds_of n k) (round_of n) ∙ ap (λ zs. turns ++ zs) (rounds-more n k))
      (steps-then n plans (turns ++ rounds_of n k) (round_of n) old mid new first (subst (λ ps. Steps n ps (round_of n) mid new) same second))

  pub steps-at : (n : Numbers) (plans : List Plan) (turns : List Actor) (old last now : Moment J) → now ≡ last → Steps n plans turns old last → Steps n plans turns old now
  steps-at n plans turns old last now same steps = subst (Steps n plans turns old) (sym same) steps
