use Rattle.std.proofs.Common.{◌∙◌, Some, ap, refl, arith}
use Rattle.std.proofs.lemmas.List.{length-map}
use Rattle.napi_types.specs.parts.Pool.{WorkPool, cancelled_at}
use Rattle.async_work.specs.Queue.{outcome_seen, waiting_job, EndedWorkSeen, Ended, unstarted_outcome}
use Rattle.async_work.proofs.KeepingPools.{kept-cancelled, room-to-cancel}
use Rattle.async_work.proofs.Linking.{stage-of}
use Rattle.async_work.proofs.Queueing.{waits-of, waits-within, outcomes-push, with_stage_at-there}
use Rattle.async_work.proofs.Viewing.{view-cancelled}
use Rattle.async_work.proofs.pool.Pool.cancel_queued.Goals as goal

pub cancel-outcome-requires-after_bounds : goal.cancel-outcome-requires-after_bounds
cancel-outcome-requires-after_bounds g c = λ κs lives.
    waits-of c.self.inside.line.works _ c.args.number (ap (λ (p : WorkPool). p.queued) c.self.view_is) c.requires

pub push_back_reserved-requires : goal.push_back_reserved-requires
push_back_reserved-requires g c =
    let long = length-map c.self.inside.finished.items (outcome_seen g.J.Job.spec) in
    let here = waits-of c.self.inside.line.works _ c.args.number (ap (λ (p : WorkPool). p.queued) c.self.view_is) c.requires in
    let room = room-to-cancel _ _ _ _ _ _ _ _ _ _ _ c.self.invariant c.args.number here in
    omega (arith, long, room, c.self.inside.finished.ok.0)

pub invariant_of-self : goal.invariant_of-self
invariant_of-self g c =
    let L = c.self.inside.line.works in
    let n = c.args.number in
    let x = waits-within L n (waits-of L _ n (ap (λ (p : WorkPool). p.queued) c.self.view_is) c.requires) in
    rw (c.push_back_reserved.ensures.capacity, c.cancel-outcome.ensures.room)
    (kept-cancelled _ _ _ _ _ _ _ _ _ _ _ c.self.invariant _ n x.0 x.2 _ (outcome_seen g.J.Job.spec c.cancel-outcome.result) _ x.1
    (c.cancel-outcome.ensures.finished ∙ with_stage_at-there L n Ended x.0 x.2)
    (outcomes-push g.J.Job.spec c.self.inside.finished.items _ c.cancel-outcome.result c.push_back_reserved.ensures.items) x.3
    (ap (λ (o : EndedWorkSeen). o.number) c.cancel-outcome.ensures.outcome)
    (ap (λ (o : EndedWorkSeen). o.unspent) c.cancel-outcome.ensures.outcome ∙ ap waiting_job (stage-of L n x.0 x.2) ∙ x.3) refl)

pub returns : goal.returns
returns g c =
    let L = c.self.inside.line.works in
    let n = c.args.number in
    let x = waits-within L n (waits-of L _ n (ap (λ (p : WorkPool). p.queued) c.self.view_is) c.requires) in
    view-cancelled _ _ _ _ _ _ _ _ _ _ _ c.self.invariant _ n x.0 x.2 _ (outcome_seen g.J.Job.spec c.cancel-outcome.result) x.1
    (c.cancel-outcome.ensures.finished ∙ with_stage_at-there L n Ended x.0 x.2)
    (outcomes-push g.J.Job.spec c.self.inside.finished.items _ c.cancel-outcome.result c.push_back_reserved.ensures.items) x.3
    (c.cancel-outcome.ensures.outcome ∙ ap (λ o. unstarted_outcome n o) (ap waiting_job (stage-of L n x.0 x.2) ∙ x.3))
    ∙ ap (cancelled_at (Some n)) c.self.view_is
