use Rattle.std.proofs.Common.{◌≡◌, ◌∙◌, ◌-◌, ◌∷◌, true, false, Some, option_map, map, set, sym, ap, subst}
use Rattle.std.specs.Option.{option_and_then}
use Rattle.std.proofs.lemmas.Option.{same_Some}
use Rattle.napi_types.specs.declared.duties.DueInfo.{DueInfo}
use Rattle.napi_types.specs.plain.Lists.{head}
use Rattle.napi_types.specs.parts.Pool.{WorkPool, work_numbered, completion_info, first_completion, with_completed}
use Rattle.napi_types.specs.parts.Works.{Outcome}
use Rattle.async_work.specs.KeptPool.{pool_of, StandsInQueue, EndedOnce}
use Rattle.async_work.specs.Queue.{NumberedWork, Done, outcome_seen, outcomes_seen, outcome_of, outcome_status, queue_work_at, queue_stage_at, has_ended, is_done_in_queue, with_stage}
use Rattle.async_work.specs.Picking.{unspent_spec}
use Rattle.async_work.specs.WorkPlaces.{places_seen, place_at, work_of}
use Rattle.async_work.proofs.Ids.{places-rise}
use Rattle.async_work.proofs.KeepingPools.{OnlyEnded, only-ended, entry-live, kept-completed}
use Rattle.async_work.proofs.Linking.{ended-unfinished, first-ended, first-told, stage-of}
use Rattle.async_work.proofs.Queueing.{with_stage_at-there}
use Rattle.async_work.proofs.StandingWorks.{numbered-at, unspent-of}
use Rattle.async_work.proofs.Viewing.{view-completed}
use Rattle.async_work.proofs.pool.Pool.take_finished.Goals as goal
use Rattle.async_work.proofs.pool.Pool.take_finished.Goals.{In_ok-outcome, After-complete-id}

-- the outcome was the first
outcomes : (g : _) (c : In_ok-outcome g)
    → outcomes_seen g.J.Job.spec c.self.inside.finished.items ≡ outcome_seen g.J.Job.spec c.in_ok-outcome.outcome ∷ outcomes_seen g.J.Job.spec c.pop_front.new.self.items
outcomes g c = ap (outcomes_seen g.J.Job.spec) c.in_ok-outcome.ensures.items

ended_once : (g : _) (c : In_ok-outcome g) → EndedOnce (places_seen g.J.Job.spec c.self.inside.places) c.self.inside.line.works
    (outcome_seen g.J.Job.spec c.in_ok-outcome.outcome ∷ outcomes_seen g.J.Job.spec c.pop_front.new.self.items)
ended_once g c = subst (EndedOnce (places_seen g.J.Job.spec c.self.inside.places) c.self.inside.line.works) (outcomes g c) c.self.invariant.ended_once

-- and its work has ended
ended : (g : _) (c : In_ok-outcome g) → has_ended (queue_stage_at c.self.inside.line.works c.in_ok-outcome.outcome.number) ≡ true
ended g c = first-ended _ c.self.inside.line.works (outcome_seen g.J.Job.spec c.in_ok-outcome.outcome) _ (ended_once g c)

entry : (g : _) (c : In_ok-outcome g) → (e : NumberedWork) × (queue_work_at c.self.inside.line.works c.in_ok-outcome.outcome.number ≡ Some e)
entry g c = entry-live c.self.inside.line.works c.in_ok-outcome.outcome.number (ended-unfinished _ (ended g c))

unfinished : (g : _) (c : In_ok-outcome g) → is_done_in_queue (entry g c).0.stage ≡ false
unfinished g c =
    ap is_done_in_queue (sym (stage-of c.self.inside.line.works c.in_ok-outcome.outcome.number (entry g c).0 (entry g c).1)) ∙ ended-unfinished _ (ended g c)

stands : (g : _) (c : In_ok-outcome g) → StandsInQueue (places_seen g.J.Job.spec c.self.inside.places) c.in_ok-outcome.outcome.number (entry g c).0
stands g c = c.self.invariant.linked.placed c.in_ok-outcome.outcome.number _ (entry g c).1 (unfinished g c)

pub complete-id-requires-after_bounds : goal.complete-id-requires-after_bounds
complete-id-requires-after_bounds g c = λ κs lives. ended g (goal.at.complete-id-requires-after_bounds g c).In_ok-outcome

-- the place that is told of is that of the work
there : (g : _) (c : After-complete-id g) (b : In_ok-outcome g) → (e : NumberedWork)
    → queue_work_at c.self.inside.line.works c.in_ok-outcome.outcome.number ≡ Some e
    → (s : StandsInQueue (places_seen g.J.Job.spec c.self.inside.places) c.in_ok-outcome.outcome.number e)
    → place_at (places_seen g.J.Job.spec c.self.inside.places) c.complete-id.result ≡ Some s.place
there g c b e at s =
    let id : e.id ≡ c.complete-id.result = same_Some _ _ (sym (ap (option_map (λ (x : NumberedWork). x.id)) at) ∙ c.complete-id.ensures.id) in
    ap (place_at (places_seen g.J.Job.spec c.self.inside.places)) (sym id) ∙ s.there

pub unreachable-requires : goal.unreachable-requires
unreachable-requires g c =
    let b = (goal.at.unreachable-requires g c).In_ok-outcome in
    let no = c.in_default.ensures ∙ there g (goal.at.unreachable-requires g c).After-complete-id b _ (entry g b).1 (stands g b) in
    cc

only : (g : _) (c : In_ok-outcome g) → OnlyEnded (entry g c).0.stage
only g c = only-ended _ (ap has_ended (sym (stage-of c.self.inside.line.works c.in_ok-outcome.outcome.number _ (entry g c).1)) ∙ ended g c)

lines : (g : _) (c : After-complete-id g) (e : NumberedWork) → queue_work_at c.self.inside.line.works c.in_ok-outcome.outcome.number ≡ Some e
    → c.complete-id.new.self.works ≡ set c.self.inside.line.works (c.in_ok-outcome.outcome.number - 1) (with_stage Done e)
lines g c e at = c.complete-id.ensures.completed ∙ with_stage_at-there c.self.inside.line.works c.in_ok-outcome.outcome.number Done e at

pub invariant_of-self-2 : goal.invariant_of-self-2
invariant_of-self-2 g c =
    let b = (goal.at.invariant_of-self-2 g c).In_ok-outcome in
    rw c.pop_front.ensures.capacity
    (kept-completed _ _ _ _ _ _ (outcome_seen g.J.Job.spec c.in_ok-outcome.outcome) _ _ _ _ _ _ _ _ _ c.self.invariant (outcomes g b) (entry g b).1
    (lines g (goal.at.invariant_of-self-2 g c).After-complete-id _ (entry g b).1) c.complete-id.ensures.room)

pub returns-clause-told : goal.returns-clause-told
returns-clause-told g c =
    let b = (goal.at.returns-clause-told g c).In_ok-outcome in
    let o = outcome_seen g.J.Job.spec c.in_ok-outcome.outcome in
    let s = stands g b in
    let placed = same_Some _ _ (c.in-Some.ensures ∙ there g (goal.at.returns-clause-told g c).After-complete-id b _ (entry g b).1 s) in
    let pool = pool_of (places_seen g.J.Job.spec c.self.inside.places) c.self.inside.places.issued c.self.inside.line.works
    (outcomes_seen g.J.Job.spec c.self.inside.finished.items) c.self.inside.closing in
    ap (λ (d : DueInfo). Some d) (c.finished_of.ensures.told ∙ ap (λ p. completion_info (work_of 0 p) (outcome_of o)) placed)
    ∙ ap (option_map (λ w. completion_info w (outcome_of o))) (sym (numbered-at _ _ _ _ _ _ _ _ _ _ _ c.self.invariant o.number _
    (places-rise g.J.Job.spec c.self.inside.places) (entry g b).1 (unfinished g b) s))
    ∙ ap (λ os. option_and_then (λ (x : Outcome). option_map (λ w. completion_info w x) (work_numbered pool x.work)) (head (map outcome_of os))) (sym
    (outcomes g b))
    ∙ ap first_completion c.self.view_is

pub returns-clause-unspent : goal.returns-clause-unspent
returns-clause-unspent g c =
    let b = (goal.at.returns-clause-unspent g c).In_ok-outcome in
    let o = outcome_seen g.J.Job.spec c.in_ok-outcome.outcome in
    let s = stands g b in
    let pool = pool_of (places_seen g.J.Job.spec c.self.inside.places) c.self.inside.places.issued c.self.inside.line.works
    (outcomes_seen g.J.Job.spec c.self.inside.finished.items) c.self.inside.closing in
    let told = first-told _ _ o _ _ s (ended_once g b) in
    c.finished_of.ensures.unspent
    ∙ unspent-of pool o.number _ o.unspent (numbered-at _ _ _ _ _ _ _ _ _ _ _ c.self.invariant o.number _ (places-rise g.J.Job.spec c.self.inside.places)
    (entry g b).1 (unfinished g b) s) told
    ∙ ap (λ n. unspent_spec pool n (outcome_status o.unspent)) (sym c.finished_of.ensures.number)
    ∙ ap (unspent_spec pool c.finished_of.result.number) (sym c.finished_of.ensures.status)
    ∙ ap (λ (p : WorkPool). unspent_spec p c.finished_of.result.number c.finished_of.result.status) c.self.view_is

pub returns-clause-taken : goal.returns-clause-taken
returns-clause-taken g c =
    let b = (goal.at.returns-clause-taken g c).In_ok-outcome in
    let over = only g b in
    view-completed _ _ _ _ _ _ _ _ _ _ _ c.self.invariant _ c.in_ok-outcome.outcome.number _ (entry g b).1 _ (outcome_seen g.J.Job.spec c.in_ok-outcome.outcome)
    (lines g (goal.at.returns-clause-taken g c).After-complete-id _ (entry g b).1) (outcomes g b) over.started over.idle
    ∙ ap with_completed c.self.view_is
