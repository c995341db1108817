-- How the runs of actors and of the environment begin, and that an actor that has ended holds no work.
use Rattle.std.proofs.Common.{◌≡◌, ◌∙◌, ℕ, true, [], None, Some, is_some, refl, ap, sym, subst, arith}
use Rattle.std.proofs.lemmas.List.Elements.{All-nil}
use Rattle.napi_types.specs.declared.entry.Phase.TheVariants as phase
use Rattle.napi_types.specs.parts.Pool.{executed_by}
use Rattle.napi_types.specs.hub.ActorLaws.{worker_at}
use Rattle.napi_types.specs.hub.Actors.{Working, Over}
use Rattle.napi_types.specs.hub.Hub.{Before, IsStageOf}
use Rattle.napi_types.specs.hub.WorkerSteps.{is_worker_there}
use Rattle.napi_types.proofs.hub.ServingWorkers.{executing-workers-are-there}
use Rattle.napi_types.proofs.all_runs.WorkersStand.{workers-stand-as-the-hub-says}
use Rattle.shared_hub.specs.HubStates.{HubSeen, hub_seen}
use Rattle.shared_hub.specs.declared.naming.Numbers.{Numbers}
use Rattle.env_loop.specs.ActorRuns.{IsThreadOf, WorkerSeen, IsWorkerOf, HeldWork, NoWork, Started, Executed, IsHeld, IsHandsFree, worker_state}
use Rattle.env_loop.specs.UnstartedAndEnded.{UnstartedActorsStand, EndedActorsHoldNoWork}
use Rattle.env_loop.specs.OpenedAndGone.{OpenedRunsFit}
use Rattle.env_loop.specs.RecordedRuns.{FitsHub, hub_begun}
use Rattle.env_loop.specs.RunsOverRows.{IsReplayed}
use Rattle.env_loop.specs.declared.actor.ActorRun.TheVariants as run

pub opened-runs-fit : OpenedRunsFit
opened-runs-fit n r opened = record {
  stage = subst (λ p. IsStageOf p Before) (sym first) refl;
  standing = ap hub_begun (sym begun);
  owned = record { works = All-nil _; functions = All-nil _ };
  noted = omega (arith, start);
}
  where
    begun : r.begun ≡ None
    begun = λ i. (opened.opened i).begun

    first : r.core.env.phase ≡ phase.Init
    first = λ i. (opened.core i).env.phase

    start : r.core.position ≡ 0
    start = λ i. (opened.core i).position

pub unstarted-actors-stand : (J : Type 0) → UnstartedActorsStand J
unstarted-actors-stand J n (run.OfThread t) at fresh =
    subst (IsThreadOf n (hub_seen n [])) (sym fresh) (record { there = at; stands = record { keeps = tt; made_is = refl; left_is = refl } })
unstarted-actors-stand J n (run.OfWorker w) at fresh =
    subst (IsWorkerOf n (hub_seen n [])) (sym fresh) (record { there = at; stands = refl; held = tt })

-- a worker that executes a work has not ended
hands-free : (n : Numbers) (s : HubSeen) (w : WorkerSeen) → IsReplayed n s → IsWorkerOf n s w → w.over ≡ true → IsHandsFree w.held
hands-free n s w led stands over = by w.held refl
  where
    L : ℕ
    L = n.limits.history

    there : is_some (executed_by s.hub.pool w.number) ≡ true → ⊥
    there runs =
        let is : is_worker_there s.hub w.number ≡ true = executing-workers-are-there L n.threads n.workers w.number s.history s.hub led runs in
        let at : Some (worker_state w) ≡ Some (worker_at s.hub w.number) =
        sym stands.stands ∙ workers-stand-as-the-hub-says L n.threads n.workers w.number s.history s.hub led stands.there in
        let no : Some Over ≡ Some Working = cc in
        cc

    by : (held : HeldWork) → w.held ≡ held → IsHandsFree held
    by NoWork e = tt
    by (Started t) e = absurd (there (ap is_some (subst (IsHeld s.hub.pool w.number) e stands.held).0))
    by (Executed r) e = absurd (there (ap is_some (subst (IsHeld s.hub.pool w.number) e stands.held).0))

pub ended-actors-hold-none : (J : Type 0) → EndedActorsHoldNoWork J
ended-actors-hold-none J n s (run.OfThread t) led stands over = tt
ended-actors-hold-none J n s (run.OfWorker w) led stands over = hands-free n s w led stands over
