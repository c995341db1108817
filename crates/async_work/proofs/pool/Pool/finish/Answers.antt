use Rattle.std.proofs.Common.{◌≡◌, ◌∙◌, ◌-◌, ◌++◌, [], ◌∷◌, Some, set, refl, sym, ap, arith}
use Rattle.std.proofs.lemmas.List.{length-map}
use Rattle.napi_types.specs.parts.Pool.{WorkPool, executed_by, value_of_work, with_finished}
use Rattle.async_work.specs.Queue.{NumberedWork, EndedWorkSeen, Ended, outcome_seen, outcomes_seen, queue_work_at, queue_stage_at, runner, runner_at, with_stage, ran_outcome}
use Rattle.async_work.proofs.KeepingPools.{only-runs, entry-live, kept-finished, room-to-finish}
use Rattle.async_work.proofs.Linking.{stage-of}
use Rattle.async_work.proofs.PoolExecutions.{executed}
use Rattle.async_work.proofs.Queueing.{outcomes-push, some-is, with_stage_at-there}
use Rattle.async_work.proofs.Viewing.{view-finished}
use Rattle.async_work.proofs.pool.Pool.finish.Goals as goal
use Rattle.async_work.proofs.pool.Pool.finish.Goals.{After-finish-outcome, After-push_back_reserved}

-- the worker executes the work
executes : (g : _) (c : After-finish-outcome g) → executed_by c.args.self.now c.args.worker ≡ Some c.into_parts-number.result.0
executes g c = c.requires.executed ∙ ap (λ n. Some n) (sym c.into_parts-number.ensures.0)

runs : (g : _) (c : After-finish-outcome g) → runner_at c.self.inside.line.works c.into_parts-number.result.0 ≡ Some c.args.worker
runs g c =
    executed c.self.inside.line.works c.args.worker c.into_parts-number.result.0
    (ap (λ (p : WorkPool). executed_by p c.args.worker) c.self.view_is ∙ executes g c)

-- so it stands in the queue
entry : (g : _) (c : After-finish-outcome g) → (e : NumberedWork) × (queue_work_at c.self.inside.line.works c.into_parts-number.result.0 ≡ Some e)
entry g c =
    entry-live c.self.inside.line.works c.into_parts-number.result.0
    (only-runs (queue_stage_at c.self.inside.line.works c.into_parts-number.result.0) c.args.worker (runs g c)).unfinished

entry-runs : (g : _) (c : After-finish-outcome g) → runner (entry g c).0.stage ≡ Some c.args.worker
entry-runs g c = sym (ap runner (stage-of c.self.inside.line.works c.into_parts-number.result.0 (entry g c).0 (entry g c).1)) ∙ runs g c

pub finish-outcome-requires-after_bounds : goal.finish-outcome-requires-after_bounds
finish-outcome-requires-after_bounds g c = λ κs lives.
    some-is _ c.args.worker (executed c.self.inside.line.works c.args.worker c.into_parts-number.result.0
    (ap (λ (p : WorkPool). executed_by p c.args.worker) c.self.view_is ∙ c.requires.executed ∙ ap (λ n. Some n) (sym c.into_parts-number.ensures.0)))

pub push_back_reserved-requires : goal.push_back_reserved-requires
push_back_reserved-requires g c =
    let room = room-to-finish _ _ _ _ _ _ _ _ _ _ _ c.self.invariant c.into_parts-number.result.0 c.args.worker (runs g
    (goal.at.push_back_reserved-requires g c).After-finish-outcome) in
    omega (arith, length-map c.self.inside.finished.items (outcome_seen g.J.Job.spec), room, c.self.inside.finished.ok.0)

lines : (g : _) (c : After-finish-outcome g) (b : After-finish-outcome g)
    → queue_work_at c.self.inside.line.works c.into_parts-number.result.0 ≡ Some (entry g b).0
    → c.finish-outcome.new.self.works ≡ set c.self.inside.line.works (c.into_parts-number.result.0 - 1) (with_stage Ended (entry g b).0)
lines g c b at = c.finish-outcome.ensures.finished ∙ with_stage_at-there c.self.inside.line.works c.into_parts-number.result.0 Ended (entry g b).0 at

outcomes : (g : _) (c : After-push_back_reserved g)
    → outcomes_seen g.J.Job.spec c.push_back_reserved.new.self.items ≡ outcomes_seen g.J.Job.spec c.self.inside.finished.items ++ outcome_seen g.J.Job.spec c.finish-outcome.result ∷ []
outcomes g c = outcomes-push g.J.Job.spec c.self.inside.finished.items _ c.finish-outcome.result c.push_back_reserved.ensures.items

pub invariant_of-self : goal.invariant_of-self
invariant_of-self g c =
    let b = (goal.at.invariant_of-self g c).After-finish-outcome in
    let e = entry g b in
    rw (c.push_back_reserved.ensures.capacity, c.finish-outcome.ensures.room)
    (kept-finished _ _ _ _ _ _ _ _ _ _ _ c.self.invariant _ c.into_parts-number.result.0 _ e.1 _
    (outcome_seen g.J.Job.spec c.finish-outcome.result) c.args.worker _ (lines g (goal.at.invariant_of-self g c).After-finish-outcome b e.1)
    (outcomes g (goal.at.invariant_of-self g c).After-push_back_reserved) (entry-runs g b)
    (ap (λ (o : EndedWorkSeen). o.number) c.finish-outcome.ensures.outcome) (ap (λ (o : EndedWorkSeen). o.unspent) c.finish-outcome.ensures.outcome) refl)

pub returns : goal.returns
returns g c =
    let b = (goal.at.returns g c).After-finish-outcome in
    let e = entry g b in
    let n = c.into_parts-number.result.0 in
    view-finished _ _ _ _ _ _ _ _ _ _ _ c.self.invariant _ n _ e.1 _ (outcome_seen g.J.Job.spec c.finish-outcome.result) c.args.worker
    (lines g (goal.at.returns g c).After-finish-outcome b e.1)
    (outcomes g (goal.at.returns g c).After-push_back_reserved) (entry-runs g b) (runs g b)
    (ap (λ (p : WorkPool). executed_by p c.args.worker) c.self.view_is ∙ executes g b)
    (c.finish-outcome.ensures.outcome ∙ ap (ran_outcome n) (c.into_parts-number.ensures.1 ∙ c.requires.value
    ∙ ap (value_of_work c.args.self.now) (sym c.into_parts-number.ensures.0) ∙ sym (ap (λ (p : WorkPool). value_of_work p n) c.self.view_is)))
    ∙ ap (with_finished c.args.worker) c.self.view_is
