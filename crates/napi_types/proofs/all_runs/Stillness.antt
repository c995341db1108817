-- Where the environment has no event another actor goes on, until it is gone.
use Rattle.std.proofs.Common.{◌≡◌, ◌≢◌, ◌∙◌, inl, inr, ℕ, Bool, true, false, not, cond, ◌&&◌, List, [], ◌∷◌, IsTrue, refl, ap, sym, subst, Option, Some, None, is_none, option_map}
use Rattle.std.specs.Option.{option_or}
use Rattle.napi_types.specs.declared.entry.Actor.TheVariants as actor
use Rattle.napi_types.specs.declared.entry.Duty.TheVariants as duty
use Rattle.napi_types.specs.declared.entry.Entry.{Entry}
use Rattle.napi_types.specs.declared.entry.HostStep.TheVariants as host
use Rattle.napi_types.specs.declared.entry.LoopEnd.TheVariants as loop_end
use Rattle.napi_types.specs.declared.entry.Out.TheVariants as out
use Rattle.napi_types.specs.declared.entry.Phase.{Phase}
use Rattle.napi_types.specs.declared.entry.Phase.TheVariants as phase
use Rattle.napi_types.specs.plain.Lists.{is_empty}
use Rattle.napi_types.specs.parts.Pool.{executed_by, value_of_work}
use Rattle.napi_types.specs.environment.Environment.{Environment}
use Rattle.napi_types.specs.hub.Hub.{Hub, Stage, Before, Live, LoopEnded, Drained, Final, is_past_drain, IsStageOf, HooksAbandoned}
use Rattle.napi_types.specs.hub.HubMoves.{HubMove, hub_move, is_idle, is_quiet, is_spent}
use Rattle.napi_types.specs.hub.HubStep.{actor_told}
use Rattle.napi_types.specs.hub.Waits.{ThreadGoesOn, WorkerGoesOn, SomebodyGoesOn}
use Rattle.napi_types.specs.hub.WorkerSteps.{is_worker_there, start_step, work_end_step}
use Rattle.napi_types.specs.runs.Choice.{local_choice, local_choice_in, hub_choice, hub_choice_at, waiting_hooks}
use Rattle.napi_types.specs.runs.Loop.{Event, ticket_choice, Moves, EndsLoop, FinalsCome, IsGone, Abandons, Drains}
use Rattle.napi_types.specs.runs.Machine.{Machine}
use Rattle.napi_types.specs.runs.Setting.{opening_of, final_of}
use Rattle.napi_types.specs.all_runs.Goings.{SomebodyAlwaysGoesOn, AnotherGoesOn, RunsNeverStandStill}
use Rattle.napi_types.proofs.plain.Lists.{none-last}
use Rattle.napi_types.proofs.hub.ClosingPools.{IsShut, step-shut, pools-close-at-the-drain}
use Rattle.napi_types.proofs.hub.EarlyWorkers.{IsStaffed, step-staffed, workers-end-after-the-drain}
use Rattle.napi_types.proofs.hub.ServingWorkers.{IsServing, step-serves, executing-workers-are-there}
use Rattle.napi_types.proofs.hub.Waits.{loop-goes-on, drained-goes-on}
use Rattle.napi_types.proofs.runs.HubsOfRuns.{hub-kept}
use Rattle.napi_types.proofs.all_runs.Orderly.{orderly-run}
use Rattle.std.specs.Prelude.{◌==◌}

-- WHERE THE HUB HAS NO EVENT
unmoved : (o : Option HubMove) (p : Option Event) → option_or (option_map Moves o) p ≡ None → o ≡ None
unmoved None p none = refl
unmoved (Some move) p none = cc

not-quiet : (o : Option HubMove) (idle quiet : Bool)
    → option_or (option_map Moves o) (option_map EndsLoop (cond idle (Some loop_end.Idle) (cond quiet (Some loop_end.Quiet) None))) ≡ None → quiet ≡ false
not-quiet (Some move) idle quiet none = cc
not-quiet None true quiet none = cc
not-quiet None false true none = cc
not-quiet None false false none = refl

not-still : (o : Option HubMove) (quiet : Bool) → option_or (option_map Moves o) (cond quiet (Some Abandons) None) ≡ None → quiet ≡ false
not-still (Some move) quiet none = cc
not-still None true none = cc
not-still None false none = refl

not-spent : (o : Option HubMove) (spent : Bool) → option_or (option_map Moves o) (cond spent (Some FinalsCome) None) ≡ None → spent ≡ false
not-spent (Some move) spent none = cc
not-spent None true none = cc
not-spent None false none = refl

module _ (h : Hub) (waiting : ℕ) (shut : IsShut h) (staffed : IsStaffed h) (serving : (w : ℕ) → IsServing w h) where
  -- by how far the hub is
  stage-goes : (s : Stage) → h.stage ≡ s → s ≢ Final → hub_choice_at h waiting s ≡ None → SomebodyGoesOn h
  stage-goes Before far never none = cc
  stage-goes Live far never none =
      loop-goes-on h (unmoved (hub_move h) _ none) (rw far refl) (shut ∙ ap is_past_drain far) staffed serving
      (not-quiet (hub_move h) (is_idle h) (is_quiet h) none)
  stage-goes LoopEnded far never none = hooks-go (waiting == 0) none
    where
      hooks-go : (unwaited : Bool) → cond unwaited (Some Drains) (option_or (option_map Moves (hub_move h)) (cond (is_quiet h) (Some Abandons) None)) ≡ None
          → SomebodyGoesOn h
      hooks-go true none = cc
      hooks-go false none =
          loop-goes-on h (unmoved (hub_move h) _ none) (rw far refl) (shut ∙ ap is_past_drain far) staffed serving
          (not-still (hub_move h) (is_quiet h) none)
  stage-goes HooksAbandoned far never none = cc
  stage-goes Drained far never none =
      drained-goes-on h (unmoved (hub_move h) _ none) (rw far refl) (shut ∙ ap is_past_drain far) serving (not-spent (hub_move h) (is_spent h) none)
  stage-goes Final far never none = absurd (never refl)

  somebody-goes : h.stage ≢ Final → hub_choice h waiting ≡ None → SomebodyGoesOn h
  somebody-goes never none = stage-goes h.stage refl never none

pub somebody-always-goes-on : SomebodyAlwaysGoesOn
somebody-always-goes-on limit threads workers history h waiting led never none =
    let shut : IsShut h = pools-close-at-the-drain limit threads workers history h led in
    somebody-goes h waiting shut (λ opened. workers-end-after-the-drain limit threads workers history h led (sym shut ∙ opened))
    (λ w. executing-workers-are-there limit threads workers w history h led) never none

-- AN ENTRY THAT MAY COME
-- a thread that goes on may end
thread-enters : (m : Machine) (t : ℕ) → ThreadGoesOn m.hub t → AnotherGoesOn m
thread-enters m t on = record {
  entry = actor_told (actor.Thread t) host.ActorEnd out.Nothing;
  other = refl;
  next = (refl, ap (λ b. b && true) on.there);
}

-- a worker that goes on finishes its work, starts one, or ends
worker-enters : (m : Machine) (w : ℕ) → WorkerGoesOn m.hub w → AnotherGoesOn m
worker-enters m w on = by (executed_by m.hub.pool w) refl m.hub.pool.queued refl m.hub.pool.closing refl on.busy
  where
    by : (o : Option ℕ) → executed_by m.hub.pool w ≡ o → (ns : List ℕ) → m.hub.pool.queued ≡ ns → (b : Bool) → m.hub.pool.closing ≡ b
        → (is_none o && is_empty ns && not b) ≡ false → AnotherGoesOn m
    by (Some n) executes ns queued b closing busy = record {
      entry = y;
      other = refl;
      next = (sym (ap (λ o. (work_end_step m.hub w y o).entry) executes), subst (λ o. IsTrue (work_end_step m.hub w y o).may) (sym executes) on.there);
    }
      where
        y : Entry
        y = actor_told (actor.Worker w) host.Finish (out.Unsigned (value_of_work m.hub.pool n))
    by None executes ns queued true closing busy = record {
      entry = actor_told (actor.Worker w) host.ActorEnd out.Nothing;
      other = refl;
      next = (refl, there);
    }
      where
        there : IsTrue ((is_worker_there m.hub w && m.hub.pool.closing) && is_none (executed_by m.hub.pool w))
        there = rw (on.there, closing, executes) refl
    by None executes (n ∷ later) queued false closing busy = record {
      entry = y;
      other = refl;
      next = (sym (ap (λ l. (start_step m.hub w y l).entry) queued), subst (λ l. IsTrue (start_step m.hub w y l).may) (sym queued) there);
    }
      where
        y : Entry
        y = actor_told (actor.Worker w) host.Start (out.Duty (duty.Work n))

        there : IsTrue ((is_worker_there m.hub w && not m.hub.pool.closing) && is_none (executed_by m.hub.pool w))
        there = rw (on.there, closing, executes) refl
    by None executes [] queued false closing busy = cc

enters : (m : Machine) → SomebodyGoesOn m.hub → AnotherGoesOn m
enters m (inl on) = thread-enters m on.0 on.1
enters m (inr on) = worker-enters m on.0 on.1

-- ALONG A RUN
-- where the environment has no event before it is gone, `finals` has not come
some-first : (o p : Option Event) (v : Event) → option_or (option_or o (Some v)) p ≡ None → ⊥
some-first None p v none = cc
some-first (Some w) p v none = cc

not-final : (e : Environment) (p : Phase) (s : Stage) (later : Option Event) → p ≢ phase.Gone → option_or (local_choice_in e p) later ≡ None → IsStageOf p s
    → s ≢ Final
not-final e phase.Init s later never none far = λ is. cc
not-final e phase.Live s later never none far = λ is. cc
not-final e phase.Hooks s later never none far = λ is. cc
not-final e phase.Drain s later never none far = λ is. cc
not-final e phase.Finals s later never none far = absurd (some-first (ticket_choice e phase.Finals) later IsGone none)
not-final e phase.Gone s later never none far = absurd (never refl)

pub runs-never-stand-still : RunsNeverStandStill
runs-never-stand-still s bs xs run never alone none =
    let on : SomebodyGoesOn m.hub = somebody-goes m.hub (waiting_hooks m.env) (hub-kept IsShut step-shut (opening_of s) bs xs run refl)
    (hub-kept IsStaffed step-staffed (opening_of s) bs xs run (λ opened. refl))
    (λ w. hub-kept (IsServing w) (step-serves w) (opening_of s) bs xs run (λ runs. cc))
    (not-final m.env m.env.phase m.hub.stage (hub_choice m.hub (waiting_hooks m.env)) never none (orderly-run s bs xs run).stage)
    (none-last (local_choice m.env) (hub_choice m.hub (waiting_hooks m.env)) none) in
    (on, enters m on)
  where
    m : Machine
    m = final_of s bs xs
