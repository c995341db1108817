use Rattle.std.proofs.Common.{◌≡◌, ◌∙◌, false, not, [], Some, None, option_map, filter, ◌==◌, refl, sym, ap}
use Rattle.std.specs.Option.{option_and_then}
use Rattle.napi_types.specs.declared.call.JobSpec.{JobSpec}
use Rattle.napi_types.specs.plain.Lists.{head, tail}
use Rattle.napi_types.specs.parts.Pool.{WorkPool, executed_by, with_started}
use Rattle.napi_types.specs.parts.Works.{Work}
use Rattle.async_work.specs.Executing.{StartedWork}
use Rattle.async_work.specs.KeptPool.{pool_of, StandsInQueue}
use Rattle.async_work.specs.Queue.{NumberedWork, Runs, outcomes_seen, waiting_job, queue_work_at, waiting_works}
use Rattle.async_work.specs.Picking.{work_to_start, first_to_start}
use Rattle.async_work.specs.WorkPlaces.{places_seen}
use Rattle.async_work.proofs.Draining.{first-of, none-first}
use Rattle.async_work.proofs.Ids.{places-rise}
use Rattle.async_work.proofs.KeepingPools.{only-waits, kept-started, rest-waits}
use Rattle.async_work.proofs.Linking.{if-some, stage-of}
use Rattle.async_work.proofs.Queueing.{waits-within, head-first, rising-waiting, with_stage_at-there}
use Rattle.async_work.proofs.StandingWorks.{numbered-at}
use Rattle.async_work.proofs.Viewing.{view-started}
use Rattle.async_work.proofs.pool.Pool.start.Goals as goal
use Rattle.async_work.proofs.pool.Pool.start.Goals.{After-start-job}

pub returns-in_default-clause-nothing : goal.returns-in_default-clause-nothing
returns-in_default-clause-nothing g c =
    let open_still : c.args.self.now.closing ≡ false = sym (ap (λ (p : WorkPool). p.closing) c.self.view_is) ∙ c.if-self.false in
    let empty : c.args.self.now.queued ≡ [] = none-first _ (sym c.first_queued.ensures.first ∙ c.in_default.is) in
    rw (open_still, empty) refl

-- the first that waits
pub start-job-requires-after_bounds : goal.start-job-requires-after_bounds
start-job-requires-after_bounds g c = λ κs lives.
    let first = ap (λ (p : WorkPool). head p.queued) (c.self-2.view_is ∙ c.first_queued.ensures.same) ∙ sym c.first_queued.ensures.first ∙ c.in-Some.is in
    head-first c.self-2.inside.line.works c.in-Some.number _ (first-of _ c.in-Some.number first)

-- the pool is as it was
view : (g : _) (c : After-start-job g) → pool_of (places_seen g.J.Job.spec c.self-2.inside.places) c.self-2.inside.places.issued c.self-2.inside.line.works
    (outcomes_seen g.J.Job.spec c.self-2.inside.finished.items) c.self-2.inside.closing ≡ c.args.self.now
view g c = c.self-2.view_is ∙ c.first_queued.ensures.same

-- and the work waits first
first : (g : _) (c : After-start-job g) → head (waiting_works c.self-2.inside.line.works) ≡ Some c.in-Some.number
first g c = ap (λ (p : WorkPool). head p.queued) (view g c) ∙ sym c.first_queued.ensures.first ∙ c.in-Some.is

entry : (g : _) (c : After-start-job g)
    → (e : NumberedWork) × (s : JobSpec) × (queue_work_at c.self-2.inside.line.works c.in-Some.number ≡ Some e) × (waiting_job e.stage ≡ Some s)
entry g c =
    waits-within c.self-2.inside.line.works c.in-Some.number
    (head-first c.self-2.inside.line.works c.in-Some.number _ (first-of _ c.in-Some.number (first g c)))

-- the worker executes nothing
free : (g : _) (c : After-start-job g)
    → executed_by (pool_of (places_seen g.J.Job.spec c.self-2.inside.places) c.self-2.inside.places.issued c.self-2.inside.line.works
    (outcomes_seen g.J.Job.spec c.self-2.inside.finished.items) c.self-2.inside.closing) c.args.worker ≡ None
free g c = ap (λ (p : WorkPool). executed_by p c.args.worker) (view g c) ∙ c.requires

pub invariant_of-self : goal.invariant_of-self
invariant_of-self g c =
    let at = (goal.at.invariant_of-self g c).After-start-job in
    let x = entry g at in
    let n = c.in-Some.number in
    rw c.start-job.ensures.room
    (kept-started _ _ _ _ _ _ _ _ _ _ _ c.self-2.invariant _ n x.0 x.2 c.args.worker x.1 x.3 (free g at) _ _
    (c.start-job.ensures.started ∙ with_stage_at-there c.self-2.inside.line.works n (Runs c.args.worker) x.0 x.2)
    (ap (λ (p : WorkPool). p.closing) (view g at ∙ sym c.self.view_is) ∙ c.if-self.false) refl refl)

pub returns-clause-job : goal.returns-clause-job
returns-clause-job g c =
    let at = (goal.at.returns-clause-job g c).After-start-job in
    let n = c.in-Some.number in
    let x = entry g at in
    let unfinished = (only-waits _ x.1 x.3).unfinished in
    let stands : StandsInQueue (places_seen g.J.Job.spec c.self-2.inside.places) n x.0 = c.self-2.invariant.linked.placed n _ x.2 unfinished in
    let job : waiting_job x.0.stage ≡ Some (g.J.Job.spec c.start-job.result) =
    ap waiting_job (sym (stage-of c.self-2.inside.line.works n x.0 x.2)) ∙ c.start-job.ensures.job in
    let same : g.J.Job.spec c.start-job.result ≡ stands.place.spec = if-some (λ s. s ≡ stands.place.spec) _ _ job stands.job in
    ap (λ (w : StartedWork). Some w) c.new.ensures ∙ ap (λ s. Some (record { number = n; spec = s })) same
    ∙ ap (option_map (λ (w : Work). record { number = n; spec = w.spec }))
    (sym (numbered-at _ _ _ _ _ _ _ _ _ _ _ c.self-2.invariant n _ (places-rise g.J.Job.spec c.self-2.inside.places) x.2 unfinished stands))
    ∙ ap (option_and_then (work_to_start (pool_of (places_seen g.J.Job.spec c.self-2.inside.places) c.self-2.inside.places.issued
    c.self-2.inside.line.works (outcomes_seen g.J.Job.spec c.self-2.inside.finished.items) c.self-2.inside.closing))) (sym
    (first g at))
    ∙ ap first_to_start (view g at)

pub returns-clause-started : goal.returns-clause-started
returns-clause-started g c =
    let at = (goal.at.returns-clause-started g c).After-start-job in
    let x = entry g at in
    let n = c.in-Some.number in
    let L = c.self-2.inside.line.works in
    view-started _ _ _ _ _ _ _ _ _ _ _ c.self-2.invariant _ n x.0 x.2 c.args.worker x.1 _
    (c.start-job.ensures.started ∙ with_stage_at-there L n (Runs c.args.worker) x.0 x.2) x.3 (free g at)
    (first-of _ n (first g at)) (if-some (λ n. filter (λ m. not (m == n)) (waiting_works L) ≡ tail (waiting_works L)) _ n
    (first g at) (rest-waits (waiting_works L) (rising-waiting L)))
    ∙ ap (with_started c.args.worker) (view g at)
