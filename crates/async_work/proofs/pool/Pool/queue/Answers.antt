use Rattle.std.proofs.Common.{◌≡◌, ◌∙◌, ◌+◌, ◌<◌, ◌^◌, Some, None, option_map, length, refl, sym, ap, arith}
use Rattle.napi_types.specs.declared.status.Status.TheVariants as status
use Rattle.napi_types.specs.plain.Lists.{unless}
use Rattle.napi_types.specs.parts.Pool.{WorkPool, work_at, work_state, with_queued}
use Rattle.napi_types.specs.parts.Works.{is_created}
use Rattle.async_work.specs.WorkPlaces.{Placed, places_seen, place_at, held_job}
use Rattle.async_work.specs.WorkStates.{state_seen}
use Rattle.async_work.proofs.Ids.{places-rise}
use Rattle.async_work.proofs.KeepingPools.{kept-queued, room-to-queue, created-some}
use Rattle.async_work.proofs.Queueing.{some-is}
use Rattle.async_work.proofs.StandingWorks.{refusal-of, states-of, state-place, created-none, not-created}
use Rattle.async_work.proofs.Viewing.{view-queued}
use Rattle.async_work.proofs.pool.Pool.queue.Goals as goal
use Rattle.async_work.proofs.pool.Pool.queue.Goals.{In_ok-ok_or, In-Created, After-len-number, After-push}

known : (g : _) (c : In_ok-ok_or g) → Some (state_seen c.in_ok-ok_or.field-0) ≡ option_map (work_state c.args.self.now) (work_at c.args.self.now c.args.id.0)
known g c = ap (option_map state_seen) (sym c.in_ok-ok_or.ensures.ok_part) ∙ c.state.ensures.state

pub returns-in_default : goal.returns-in_default
returns-in_default g c = record {
  refusal = ap (λ b. unless b status.GenericFailure) (sym (not-created c.in_ok-ok_or.field-0 c.in_default.not-Created))
      ∙ refusal-of c.args.self.now is_created c.args.id.0 _ (known g (goal.at.returns-in_default g c).In_ok-ok_or);
  number = tt;
  ok = tt;
  err = refl;
}

-- where the work stands
place : (g : _) (c : In-Created g) → (p : Placed) × (place_at (places_seen g.J.Job.spec c.self.inside.places) c.args.id.0 ≡ Some p) × (p.number ≡ None)
place g c =
    let p = state-place _ _ c.args.id.0 _ (known g c.before ∙ states-of _ _ _ _ _ _ _ _ _ _ _ c.self.invariant _ c.self.view_is c.args.id.0) in
    (p.0, p.1, created-none c.self.inside.line.works p.0 (p.2 ∙ ap state_seen c.in-Created.is))

pub give_number-job-requires-after_bounds : goal.give_number-job-requires-after_bounds
give_number-job-requires-after_bounds g c = λ κs lives.
    let p = place g (goal.at.give_number-job-requires-after_bounds g c).In-Created in
    some-is _ p.0.spec (ap held_job p.1 ∙ c.self.invariant.linked.held c.args.id.0 p.0 p.1 p.2)

-- it has a place in the queue, and a number
numbers : (g : _) (c : After-len-number g) → (p : Placed) → place_at (places_seen g.J.Job.spec c.self.inside.places) c.args.id.0 ≡ Some p → p.number ≡ None
    → length c.self.inside.line.works + 2 < 2 ^ 64
numbers g c p at none =
    let some = created-some _ _ _ _ _ _ _ _ _ _ _ c.self.invariant c.args.id.0 p (places-rise g.J.Job.spec c.self.inside.places) at none in
    let kept = c.self.invariant.room in
    omega (arith, some, kept.numbers, kept.few)

pub overflow_add-number : goal.overflow_add-number
overflow_add-number g c =
    let p = place g (goal.at.overflow_add-number g c).In-Created in
    let few = numbers g (goal.at.overflow_add-number g c).After-len-number p.0 p.1 p.2 in
    omega (arith, few, c.len-number.ensures)

pub push-requires-clause-room : goal.push-requires-clause-room
push-requires-clause-room g c = λ κs lives.
    let p = place g (goal.at.push-requires-clause-room g c).In-Created in
    room-to-queue _ _ _ _ _ _ _ _ _ _ _ c.self.invariant c.args.id.0 p.0 (places-rise g.J.Job.spec c.self.inside.places) p.1 p.2

pub push-requires-clause-few : goal.push-requires-clause-few
push-requires-clause-few g c = λ κs lives.
    let p = place g (goal.at.push-requires-clause-few g c).In-Created in
    numbers g (goal.at.push-requires-clause-few g c).After-len-number p.0 p.1 p.2

pub overflow_sub-self : goal.overflow_sub-self
overflow_sub-self g c =
    let p = place g (goal.at.overflow_sub-self g c).In-Created in
    created-some _ _ _ _ _ _ _ _ _ _ _ c.self.invariant c.args.id.0 p.0 (places-rise g.J.Job.spec c.self.inside.places) p.1 p.2

waits_for : (g : _) (c : After-push g) (p : Placed) → place_at (places_seen g.J.Job.spec c.self.inside.places) c.args.id.0 ≡ Some p
    → p.number ≡ None → Some (g.J.Job.spec c.give_number-job.result.0) ≡ Some p.spec
waits_for g c p at none = sym c.give_number-job.ensures.job ∙ ap held_job at ∙ c.self.invariant.linked.held c.args.id.0 p at none

pub invariant_of-self : goal.invariant_of-self
invariant_of-self g c =
    let p = place g (goal.at.invariant_of-self g c).In-Created in
    let after = (goal.at.invariant_of-self g c).After-push in
    rw c.give_number-job.ensures.issued
    (kept-queued _ _ _ _ _ _ _ _ _ _ _ c.self.invariant _ _ c.args.id.0 (c.len-number.result + 1) _ _ _ p.0 _ (places-rise g.J.Job.spec c.self.inside.places)
    c.give_number-job.ensures.numbered c.push.ensures.longer (ap (λ (q : WorkPool). q.closing) c.self.view_is ∙ c.requires) (ap (λ n. n + 1) c.len-number.ensures) p.1 p.2 refl
    (waits_for g after p.0 p.1 p.2) refl refl c.push.ensures.room)

pub returns-clause-refusal : goal.returns-clause-refusal
returns-clause-refusal g c =
    ap (λ s. unless (is_created (state_seen s)) status.GenericFailure) (sym c.in-Created.is)
    ∙ refusal-of c.args.self.now is_created c.args.id.0 _ (known g (goal.at.returns-clause-refusal g c).In_ok-ok_or)

pub returns-clause-ok : goal.returns-clause-ok
returns-clause-ok g c =
    let p = place g (goal.at.returns-clause-ok g c).In-Created in
    let after = (goal.at.returns-clause-ok g c).After-push in
    view-queued _ _ _ _ _ _ _ _ c.args.id.0 (c.len-number.result + 1) p.0.spec _ c.give_number-job.ensures.numbered c.give_number-job.ensures.issued c.push.ensures.longer
    (ap (λ n. n + 1) c.len-number.ensures) (waits_for g after p.0 p.1 p.2)
    ∙ ap (with_queued c.args.id.0) c.self.view_is
