-- A run that is driven beside its hub, and an actor beside them.
use Rattle.std.proofs.Common.{◌≡◌, ◌≢◌, ◌↔◌, ◌∙◌, ℕ, Bool, true, false, cond, List, [], ◌∷◌, Option, Some, None, is_some, IsTrue, refl, ap, sym, subst, arith}
use Rattle.std.proofs.lemmas.List.Elements.{All-nil}
use Rattle.napi_types.specs.declared.entry.Actor.TheVariants as actor
use Rattle.napi_types.specs.declared.entry.Entry.{Entry}
use Rattle.napi_types.specs.declared.entry.Phase.TheVariants as phase
use Rattle.napi_types.specs.plain.Entries.{is_environment}
use Rattle.napi_types.specs.environment.Environment.{OpenedWith}
use Rattle.napi_types.specs.parts.Pool.{executed_by}
use Rattle.napi_types.specs.hub.ActorLaws.{worker_at}
use Rattle.napi_types.specs.hub.Actors.{is_thread, is_worker, Working, Over}
use Rattle.napi_types.specs.hub.WorkerSteps.{is_worker_there}
use Rattle.napi_types.proofs.all_runs.WorkersStand.{workers-stand-as-the-hub-says}
use Rattle.napi_types.proofs.hub.ServingWorkers.{executing-workers-are-there}
use Rattle.env_core.specs.Core.{opened_core}
use Rattle.shared_hub.specs.HubStates.{HubSeen, AddsEntry, hub_seen}
use Rattle.shared_hub.specs.KeptHubs.{IsLedHub}
use Rattle.shared_hub.specs.declared.naming.Numbers.{Numbers}
use Rattle.env_loop.specs.ActorRuns.{AddsEntryOf, WorkerSeen, IsWorkerOf, HeldWork, NoWork, Started, Executed, IsHeld, IsHandsFree, worker_state}
use Rattle.env_loop.specs.ActorTurns.{actor_of, is_over, IsActorOf, HoldsNoWork}
use Rattle.env_loop.specs.RecordedRuns.{Run, opened_run, FitsHub}
use Rattle.env_loop.specs.declared.actor.ActorRun.{ActorRun}
use Rattle.env_loop.specs.declared.actor.ActorRun.TheVariants as run
use Rattle.env_loop.specs.declared.actor.ActorTurn.{ActorTurn}
use Rattle.env_loop.specs.declared.actor.ActorTurn.TheVariants as actor_turn
use Rattle.env_loop.specs.declared.run.HubTurn.{HubTurn}
use Rattle.env_loop.specs.declared.run.HubTurn.TheVariants as hub_turn
use Rattle.env_loop.proofs.ActorsStand.{thread-runs-stand, worker-runs-stand}
use Rattle.env_loop.proofs.FollowedRuns.{fitting-runs-stand}

-- what the environment of these tests is opened with
abbrev one_addon : OpenedWith
one_addon = record { version = 9; addons = 1; texts = 0 }

-- a hub that opened fits a run of which no turn was made
pub opened-fits : (n : Numbers) (journal : ℕ) (start : Run) (seen : HubSeen) → start ≡ opened_run (opened_core one_addon journal) → seen ≡ hub_seen n []
    → FitsHub start seen
opened-fits n journal start seen opens is = subst (λ r. FitsHub r seen) (sym opens) (subst (FitsHub (opened_run (opened_core one_addon journal))) (sym is) fits)
  where
    fits : FitsHub (opened_run (opened_core one_addon journal)) (hub_seen n [])
    fits = record { stage = refl; standing = refl; owned = record { works = All-nil _; functions = All-nil _ }; noted = omega (arith) }

-- AN ACTOR BESIDE IT
-- a worker that has ended executes nothing
hands-free : (n : Numbers) (s : HubSeen) (w : WorkerSeen) → IsLedHub n s → IsWorkerOf n s w → w.over ≡ true → IsHandsFree w.held
hands-free n s w led of over = by w.held refl
  where
    there : is_some (executed_by s.hub.pool w.number) ≡ true → ⊥
    there runs =
        let is : is_worker_there s.hub w.number ≡ true = executing-workers-are-there n.limits.history n.threads n.workers w.number s.history s.hub led.led runs in
        let at : Some (worker_state w) ≡ Some (worker_at s.hub w.number) =
        sym of.stands ∙ workers-stand-as-the-hub-says n.limits.history n.threads n.workers w.number s.history s.hub led.led of.there in
        let no : Some Over ≡ Some Working = cc in
        cc

    by : (held : HeldWork) → w.held ≡ held → IsHandsFree held
    by NoWork e = tt
    by (Started t) e = absurd (there (ap is_some (subst (IsHeld s.hub.pool w.number) e of.held).0))
    by (Executed r) e = absurd (there (ap is_some (subst (IsHeld s.hub.pool w.number) e of.held).0))

module _ {J : Type 0} where
  more-stands : (n : Numbers) (before after : HubSeen) (x : Entry) (a : ActorRun J) → IsLedHub n before → AddsEntry before x after → x.actor ≡ actor.Env → IsActorOf n before a
      → IsActorOf n after a
  more-stands n before after x (run.OfThread t) led adds own of = thread-runs-stand n before after t x led of adds (subst (λ who. is_thread t.number who ≡ false) (sym own) refl)
  more-stands n before after x (run.OfWorker w) led adds own of = worker-runs-stand n before after w x led of adds (subst (λ who. is_worker w.number who ≡ false) (sym own) refl)

  -- it stays one of the hub's as the environment makes its turn there
  pub actor-stands : (n : Numbers) (r : HubTurn) (before after : HubSeen) → IsLedHub n before → (r ≡ hub_turn.Made → AddsEntryOf actor.Env before after)
      → (r ≢ hub_turn.Made → after ≡ before) → (a : ActorRun J) → IsActorOf n before a → IsActorOf n after a
  actor-stands n hub_turn.Made before after led made same a of = more-stands n before after (made refl).entry a led (made refl).adds (made refl).by of
  actor-stands n (hub_turn.Cut w) before after led made same a of = subst (λ s. IsActorOf n s a) (sym (same (λ e. cc))) of
  actor-stands n hub_turn.Nothing before after led made same a of = subst (λ s. IsActorOf n s a) (sym (same (λ e. cc))) of

  not-environment : (a : ActorRun J) → is_environment (actor_of a) ≡ false
  not-environment (run.OfThread t) = refl
  not-environment (run.OfWorker w) = refl

  -- the environment's run still fits with the hub as the actor makes its turn
  pub fits-beside : (t : ActorTurn) (a : ActorRun J) (before after : HubSeen) → (t ≡ actor_turn.Made → AddsEntryOf (actor_of a) before after) → (t ≢ actor_turn.Made → after ≡ before)
      → (r : Run) → FitsHub r before → FitsHub r after
  fits-beside actor_turn.Made a before after made same r fits =
      fitting-runs-stand r before after (made refl).entry fits (subst (λ who. is_environment who ≡ false) (sym (made refl).by) (not-environment a)) (made refl).adds
  fits-beside actor_turn.Blocked a before after made same r fits = subst (FitsHub r) (sym (same (λ e. cc))) fits
  fits-beside actor_turn.Ended a before after made same r fits = subst (FitsHub r) (sym (same (λ e. cc))) fits

  over-free : (n : Numbers) (s : HubSeen) (a : ActorRun J) → IsLedHub n s → IsActorOf n s a → is_over a ≡ true → HoldsNoWork a
  over-free n s (run.OfThread t) led of over = tt
  over-free n s (run.OfWorker w) led of over = hands-free n s w led of over

  -- so it holds no work where its turn finds that it has ended
  pub ended-free : (n : Numbers) (t : ActorTurn) (before after : HubSeen) (old new : ActorRun J) → IsLedHub n before → IsActorOf n after new
      → (t ≢ actor_turn.Made → (after ≡ before) × (new ≡ old)) → ((t ≡ actor_turn.Ended) ↔ IsTrue (is_over old)) → t ≡ actor_turn.Ended → HoldsNoWork new
  ended-free n t before after old new led of same ended is =
      let stays : (after ≡ before) × (new ≡ old) = same (λ made. unlike (sym is ∙ made)) in
      over-free n after new (subst (IsLedHub n) (sym stays.0) led) of (ap is_over stays.1 ∙ ended.0 is)
    where
      unlike : actor_turn.Ended ≡ actor_turn.Made → ⊥
      unlike e = cc
