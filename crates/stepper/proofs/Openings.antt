-- How all begins, and how it ends.
use Rattle.std.proofs.Common.{◌≡◌, ◌∙◌, ℕ, true, false, List, [], ◌∷◌, ◌++◌, map, length, get_or, is_some, ap, sym, subst, arith}
use Rattle.std.specs.List.{All}
use Rattle.std.proofs.lemmas.List.{get_or-map, length-map}
use Rattle.std.proofs.lemmas.List.Elements.{All-nil, All-get_or, All-from_get_or}
use Rattle.napi_types.specs.declared.entry.Actor.{Actor}
use Rattle.napi_types.specs.declared.entry.Actor.TheVariants as actor
use Rattle.napi_types.specs.declared.entry.Local.{Local}
use Rattle.napi_types.specs.declared.entry.Phase.{Phase}
use Rattle.napi_types.specs.declared.entry.Phase.TheVariants as phase
use Rattle.napi_types.specs.environment.Changes.{opening_change}
use Rattle.napi_types.specs.environment.Environment.{new_environment}
use Rattle.napi_types.specs.hub.Hub.{Stage, Final, Before, IsStageOf}
use Rattle.napi_types.specs.scripts.Plans.{Plan}
use Rattle.napi_types.specs.all_runs.TurnsInOrder.{BothLists, TurnsLead}
use Rattle.env_core.specs.Core.{Core}
use Rattle.shared_hub.specs.HubStates.{HubSeen, hub_seen}
use Rattle.shared_hub.specs.KeptHubs.{IsLedHub}
use Rattle.shared_hub.specs.declared.naming.Numbers.{Numbers}
use Rattle.env_loop.specs.declared.actor.ActorRun.{ActorRun}
use Rattle.env_loop.specs.ActorTurns.{actor_of, is_over, IsActorAt, IsActorOf, IsUnstartedActor}
use Rattle.env_loop.specs.FollowedRuns.{FollowsOnAt, IsFollowed}
use Rattle.env_loop.specs.RecordedRuns.{Run, FitsHub}
use Rattle.env_loop.proofs.HubGoing.{replays-in, gone-ended}
use Rattle.env_loop.specs.OpenedAndGone.{IsOpenedRun, EndsWhole}
use Rattle.env_loop.proofs.UnstartedAndEnded.{opened-runs-fit, unstarted-actors-stand}
use Rattle.stepper.specs.TakingPart.{actors_of, turns_of, rounds_of}
use Rattle.stepper.specs.GivenTurns.{RunAtHub, Moment, moment_of}
use Rattle.stepper.specs.ListTurns.{lists_at, AroseWhole}
use Rattle.stepper.specs.Stepping.{RunStands, RunKeeps, Stands, Steps}
use Rattle.stepper.proofs.ActorPlaces.{stands-there}
use Rattle.stepper.proofs.ListTurns.{both-same}

-- THE ENVIRONMENT
opened-stands : (n : Numbers) (m : RunAtHub) → IsOpenedRun m.run → m.hub ≡ hub_seen n [] → RunStands m
opened-stands n m opened empty = record {
  fits = subst (FitsHub m.run) (sym empty) (opened-runs-fit n m.run opened);
  answered = λ i. (opened.core i).awaited;
}

-- THE END
gone-stage : (p : Phase) (s : Stage) → IsStageOf p s → p ≡ phase.Gone → s ≡ Final
gone-stage phase.Gone s shows gone = shows
gone-stage phase.Init s shows gone = cc
gone-stage phase.Live s shows gone = cc
gone-stage phase.Hooks s shows gone = cc
gone-stage phase.Drain s shows gone = cc
gone-stage phase.Finals s shows gone = shows

module _ {J : Type 0} where
  -- THE ACTORS
  all-unstarted-stand : (n : Numbers) (xs : List (ActorRun J)) → map actor_of xs ≡ actors_of n → All IsUnstartedActor xs → All (IsActorOf n (hub_seen n [])) xs
  all-unstarted-stand n [] order fresh = All-nil (IsActorOf n (hub_seen n []))
  all-unstarted-stand n (x ∷ xs) order fresh =
      All-from_get_or (IsActorOf n (hub_seen n [])) (x ∷ xs) x (λ i inside.
      let name : get_or (actors_of n) i actor.Env ≡ actor_of (get_or (x ∷ xs) i x) =
      ap (λ (ws : List Actor). get_or ws i actor.Env) (sym order) ∙ get_or-map actor_of (x ∷ xs) i x actor.Env inside in
      unstarted-actors-stand J n (get_or (x ∷ xs) i x)
      (subst (IsActorAt n) name (stands-there n i (omega (arith, inside, ap length order, length-map (x ∷ xs) actor_of))).at)
      (All-get_or IsUnstartedActor (x ∷ xs) i x inside fresh))

  pub start-stands : (n : Numbers) (m : RunAtHub) (xs : List (ActorRun J)) → IsOpenedRun m.run → m.hub ≡ hub_seen n [] → map actor_of xs ≡ actors_of n
      → All IsUnstartedActor xs → Stands n (moment_of m xs)
  start-stands n m xs opened empty order fresh = record {
    env = opened-stands n m opened empty;
    actors = record {
      order = order;
      stands = subst (λ (s : HubSeen). All (IsActorOf n s) xs) (sym empty) (all-unstarted-stand n xs order fresh);
      ended = λ final. absurd (early (ap (λ (s : HubSeen). s.hub.stage) (sym empty) ∙ final));
    };
  }
    where
      early : Before ≡ Final → ⊥
      early is = cc

  pub gone-over : (n : Numbers) (m : Moment J) → Stands n m → m.env.run.core.env.phase ≡ phase.Gone → All (λ a. is_over a ≡ true) m.actors
  gone-over n m stands gone = stands.actors.ended (gone-stage m.env.run.core.env.phase m.env.hub.hub.stage stands.env.fits.stage gone)

-- the run that went on from its opening has come to its end in the two lists
pub ended-at-last : {J : Type 0} (n : Numbers) (plans : List Plan) (start : RunAtHub) (last m : Moment J) → start.hub ≡ hub_seen n [] → RunKeeps n plans start last.env → m ≡ last
    → last.env.run.core.env.phase ≡ phase.Gone → IsLedHub n m.env.hub
    → EndsWhole n plans start.run start.addons (record { journal = m.env.run.core.journal; history = m.env.hub.history }) m.env.addons
ended-at-last {J = J} n plans start last m empty kept same gone led =
    let goes : FollowsOnAt n plans start.run [] start.addons last.env.run last.env.hub.history last.env.addons =
    subst (λ xs. FollowsOnAt n plans start.run xs start.addons last.env.run last.env.hub.history last.env.addons)
    (ap (λ (s : HubSeen). s.history) empty) kept.goes in
    let there : IsLedHub n last.env.hub = subst (λ (k : Moment J). IsLedHub n k.env.hub) same led in
    let P : Moment J → Type 0 = λ k. EndsWhole n plans start.run start.addons (record { journal = k.env.run.core.journal; history = k.env.hub.history }) k.env.addons in
    subst P (sym same) (λ s firsts numbers of followed.
    gone-ended s last.env.run last.env.hub.history last.env.addons firsts (replays-in n s last.env.hub there numbers) (goes s firsts numbers of followed) gone)

-- the opening at a version as it stands first in the journal
abbrev opening_entry : ℕ → Local
opening_entry version = record { at = 0; entry = (opening_change (new_environment (record { version = version; addons = 0; texts = 0 }))).entry }

-- the lists of a run that opened
opened-lists : {J : Type 0} (n : Numbers) (m : Moment J) → IsOpenedRun m.env.run → m.env.hub ≡ hub_seen n []
    → lists_at m ≡ record { journal = opening_entry m.env.run.core.env.version ∷ []; history = []; stopped = false }
opened-lists n m opened empty =
    both-same m.env.run.core.journal (opening_entry m.env.run.core.env.version ∷ []) m.env.hub.history [] (is_some m.env.run.ending) false
    (ap (λ (c : Core). c.journal) opened.core) (ap (λ (s : HubSeen). s.history) empty) (ap (λ (r : Run). is_some r.ending) opened.opened)

-- and the two lists arose by the turns that led from there
pub arose-at-last : {J : Type 0} (n : Numbers) (plans : List Plan) (schedule : List Actor) (rounds : ℕ) (start last m : Moment J) → IsOpenedRun start.env.run
    → start.env.hub ≡ hub_seen n [] → Steps n plans (turns_of schedule ++ rounds_of n rounds) start last → m ≡ last
    → AroseWhole n plans schedule start.env.run start.env.addons start.actors (record { journal = m.env.run.core.journal; history = m.env.hub.history })
arose-at-last {J = J} n plans schedule rounds start last m opened empty steps same = (
  rounds,
  λ s scripts firsts numbers of followed has.
      let turns : List Actor = turns_of schedule ++ rounds_of n rounds in
      let led : TurnsLead s scripts turns (lists_at start) (lists_at last) =
      steps.lists s scripts firsts numbers of
      (subst (λ xs. IsFollowed s start.env.run xs start.env.addons firsts) (sym (ap (λ (u : HubSeen). u.history) empty)) followed) has in
      record {
        opening = opening_entry start.env.run.core.env.version;
        stopped = is_some m.env.run.ending;
        led = subst (λ (l : BothLists). TurnsLead s scripts turns l (lists_at m)) (opened-lists n start opened empty)
            (subst (λ (k : Moment J). TurnsLead s scripts turns (lists_at start) (lists_at k)) (sym same) led);
      },
)
