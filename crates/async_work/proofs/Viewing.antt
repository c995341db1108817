-- What calls change is what they change of the pool.
use Rattle.std.proofs.Common.{◌≡◌, ◌∙◌, ℕ, ◌+◌, ◌-◌, ◌==◌, Bool, not, cond, List, [], ◌∷◌, ◌++◌, length, map, filter, set, Some, None, refl, ap, sym, length-append}
use Rattle.std.proofs.lemmas.List.{length-set, map-append}
use Rattle.napi_types.specs.declared.call.JobSpec.{JobSpec}
use Rattle.generation_slab.specs.HeldPlaces.{HeldValue, with_held, without_held}
use Rattle.napi_types.specs.plain.Lists.{singleton, with_record, with_number}
use Rattle.napi_types.specs.parts.Pool.{WorkPool, executed_by, value_of_work, with_work, without_work, with_queued, cancelled_at, started_from, with_started, finished_at, with_finished, with_completed}
use Rattle.napi_types.specs.parts.Works.{Work, Execution, Outcome}
use Rattle.async_work.specs.WorkPlaces.{Placed, with_number_at, works_of}
use Rattle.async_work.specs.Queue.{Runs, Ended, Done, NumberedWork, EndedWorkSeen, outcome_of, unstarted_outcome, ran_outcome, waiting_job, runner, with_stage, queue_work_at, runner_at, waiting_works}
use Rattle.async_work.specs.KeptPool.{pool_of, IsKeptPool}
use Rattle.async_work.proofs.Ids.{works-made, works-deleted, works-queued}
use Rattle.async_work.proofs.Queueing.{waiting-more, waiting-less}
use Rattle.async_work.proofs.PoolExecutions.{executions-same, executions-finished}
use Rattle.async_work.proofs.KeepingPools.{only-waits, only-runs, passed-over, waiting-still, executions-still, executions-now, fewer-run, runner-queued}

same-pool : (ws vs : List Work) (is js : List ℕ) (n m : ℕ) (qs rs : List ℕ) (xs ys : List Execution) (os us : List Outcome) (c d : Bool) → ws ≡ vs
    → is ≡ js → n ≡ m → qs ≡ rs → xs ≡ ys → os ≡ us → c ≡ d
    → let p : WorkPool = record { works = ws; issued = is; numbered = n; queued = qs; executions = xs; finished = os; closing = c } in p ≡ record { works = vs; issued = js; numbered = m; queued = rs; executions = ys; finished = us; closing = d }
same-pool ws vs is js n m qs rs xs ys os us c d a b e f g h i = cc

outcomes-more : (finished : List EndedWorkSeen) (o : EndedWorkSeen) → map outcome_of (finished ++ o ∷ []) ≡ map outcome_of finished ++ singleton (outcome_of o)
outcomes-more finished o = map-append outcome_of finished (o ∷ [])

pub view-created : (places others : List (HeldValue Placed)) (issued news : List ℕ) (line : List NumberedWork) (finished : List EndedWorkSeen) (closing : Bool) (id : ℕ) (p : Placed)
    → others ≡ with_held id p places → news ≡ with_number id issued → p.number ≡ None
    → pool_of others news line finished closing ≡ with_work id p.spec p.addon p.entry p.payload (pool_of places issued line finished closing)
view-created places others issued news line finished closing id p is issued_is none =
    rw is (same-pool _ _ _ _ _ _ _ _ _ _ _ _ _ _ (works-made places id p ∙ ap (λ o. with_record (λ w. w.id)
    (record { id = id; spec = p.spec; addon = p.addon; entry = p.entry; payload = p.payload; number = o }) (works_of places)) none)
    issued_is refl refl refl refl refl)

pub view-deleted : (places others : List (HeldValue Placed)) (issued news : List ℕ) (line : List NumberedWork) (finished : List EndedWorkSeen) (closing : Bool) (id : ℕ)
    → others ≡ without_held id places → news ≡ issued
    → pool_of others news line finished closing ≡ without_work id (pool_of places issued line finished closing)
view-deleted places others issued news line finished closing id is issued_is =
    rw is (same-pool _ _ _ _ _ _ _ _ _ _ _ _ _ _ (works-deleted places id) issued_is refl refl refl refl refl)

pub view-queued : (places others : List (HeldValue Placed)) (issued news : List ℕ) (line lines : List NumberedWork) (finished : List EndedWorkSeen) (closing : Bool) (id n : ℕ)
    (spec : JobSpec) (e : NumberedWork) → others ≡ with_number_at id n places → news ≡ issued → lines ≡ line ++ e ∷ []
    → n ≡ length line + 1 → waiting_job e.stage ≡ Some spec
    → pool_of others news lines finished closing ≡ with_queued id (pool_of places issued line finished closing)
view-queued places others issued news line lines finished closing id n spec e places_are issued_is line_is number waits_for =
    rw (places_are, line_is) (same-pool _ _ _ _ _ _ _ _ _ _ _ _ _ _
    (works-queued places id n
    ∙ ap (λ k. map (λ (w : Work). cond (w.id == id) (record w { number = Some k }) w) (works_of places)) number)
    issued_is (length-append line (e ∷ [])) (waiting-more line e spec waits_for)
    (executions-same line (line ++ e ∷ []) (runner-queued line e spec waits_for)) refl refl)

module _ (places : List (HeldValue Placed)) (issued : List ℕ) (line : List NumberedWork) (finished : List EndedWorkSeen) (first created queued running : ℕ)
    (closing : Bool)
    (spare finished_places : ℕ)
    (kept : IsKeptPool places issued line finished first created queued running closing spare finished_places) (lines : List NumberedWork) (n : ℕ)
    (e : NumberedWork)
    (there : queue_work_at line n ≡ Some e) where
  pub view-started : (w : ℕ) (job : JobSpec) (ns : List ℕ) → lines ≡ set line (n - 1) (with_stage (Runs w) e) → waiting_job e.stage ≡ Some job
      → executed_by (pool_of places issued line finished closing) w ≡ None
      → waiting_works line ≡ n ∷ ns → filter (λ m. not (m == n)) (waiting_works line) ≡ ns → pool_of places issued lines finished closing ≡ with_started w
      (pool_of places issued line finished closing)
  view-started w job ns is waits_for free starts rest =
      rw is (same-pool _ _ _ _ _ _ _ _ _ _ _ _ _ _ refl refl (length-set line (n - 1) (with_stage (Runs w) e))
      (waiting-less line (set line (n - 1) (with_stage (Runs w) e)) n
      (passed-over places issued line finished first created queued running closing spare finished_places kept lines n e there (Runs w) refl) ∙ rest)
      (executions-now places issued line finished first created queued running closing spare finished_places kept lines n e there w job waits_for free) refl refl)
      ∙ ap (λ q. started_from q w (pool_of places issued line finished closing)) (sym starts)

  pub view-cancelled : (outcomes : List EndedWorkSeen) (o : EndedWorkSeen) (job : JobSpec) → lines ≡ set line (n - 1) (with_stage Ended e)
      → outcomes ≡ finished ++ o ∷ [] → waiting_job e.stage ≡ Some job → o ≡ unstarted_outcome n (Some job)
      → pool_of places issued lines outcomes closing ≡ cancelled_at (Some n) (pool_of places issued line finished closing)
  view-cancelled outcomes o job is out_is waits_for o_is =
      rw (is, out_is) (same-pool _ _ _ _ _ _ _ _ _ _ _ _ _ _ refl refl (length-set line (n - 1) (with_stage Ended e))
      (waiting-less line (set line (n - 1) (with_stage Ended e)) n
      (passed-over places issued line finished first created queued running closing spare finished_places kept lines n e there Ended refl))
      (executions-still places issued line finished first created queued running closing spare finished_places kept lines n e there Ended refl
      (only-waits e.stage job waits_for).idle)
      (outcomes-more finished o ∙ ap (λ x. map outcome_of finished ++ singleton (outcome_of x)) o_is) refl)

  pub view-finished : (outcomes : List EndedWorkSeen) (o : EndedWorkSeen) (w : ℕ) → lines ≡ set line (n - 1) (with_stage Ended e) → outcomes ≡ finished
      ++ o ∷ []
      → runner e.stage ≡ Some w → runner_at line n ≡ Some w
      → executed_by (pool_of places issued line finished closing) w ≡ Some n → o ≡ ran_outcome n (value_of_work (pool_of places issued line finished closing) n)
      → pool_of places issued lines outcomes closing ≡ with_finished w (pool_of places issued line finished closing)
  view-finished outcomes o w is out_is runs runs_here executes o_is =
      rw (is, out_is) (same-pool _ _ _ _ _ _ _ _ _ _ _ _ _ _ refl refl (length-set line (n - 1) (with_stage Ended e))
      (waiting-still places issued line finished first created queued running closing spare finished_places kept lines n e there Ended refl
      (only-runs e.stage w runs).started)
      (executions-finished line (set line (n - 1) (with_stage Ended e)) n w kept.numbered_work.apart runs_here
      (fewer-run places issued line finished first created queued running closing spare finished_places kept lines n e there Ended refl))
      (outcomes-more finished o ∙ ap (λ x. map outcome_of finished ++ singleton (outcome_of x)) o_is) refl)
      ∙ ap (λ x. finished_at w x (pool_of places issued line finished closing)) (sym executes)

  pub view-completed : (outcomes : List EndedWorkSeen) (o : EndedWorkSeen) → lines ≡ set line (n - 1) (with_stage Done e) → finished ≡ o ∷ outcomes
      → waiting_job e.stage ≡ None → runner e.stage ≡ None
      → pool_of places issued lines outcomes closing ≡ with_completed (pool_of places issued line finished closing)
  view-completed outcomes o is out_is started idle =
      rw (is, out_is) (same-pool _ _ _ _ _ _ _ _ _ _ _ _ _ _ refl refl (length-set line (n - 1) (with_stage Done e))
      (waiting-still places issued line finished first created queued running closing spare finished_places kept lines n e there Done refl started)
      (executions-still places issued line finished first created queued running closing spare finished_places kept lines n e there Done refl idle) refl refl)
