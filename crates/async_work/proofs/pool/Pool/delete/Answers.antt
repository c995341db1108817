use Rattle.std.proofs.Common.{◌≡◌, ◌∙◌, Some, cond, option_map, sym, ap, arith}
use Rattle.std.specs.Option.{is_none}
use Rattle.napi_types.specs.declared.status.Status.TheVariants as status
use Rattle.napi_types.specs.plain.Lists.{unless}
use Rattle.napi_types.specs.parts.Pool.{work_at, work_state, without_work}
use Rattle.napi_types.specs.parts.Works.{is_deletable}
use Rattle.async_work.specs.WorkPlaces.{Placed, places_seen, place_at}
use Rattle.async_work.specs.WorkStates.{state_seen, place_state}
use Rattle.async_work.proofs.Ids.{places-rise, held-there, seen-freed}
use Rattle.async_work.proofs.KeepingPools.{kept-deleted, counted-within}
use Rattle.async_work.proofs.StandingWorks.{refusal-of, states-of, state-place, deletable-done, unqueued-created}
use Rattle.async_work.proofs.Viewing.{view-deleted}
use Rattle.async_work.proofs.pool.Pool.delete.Goals as goal
use Rattle.async_work.proofs.pool.Pool.delete.Goals.{In_ok-state, After-unqueued}

known : (g : _) (c : In_ok-state g) → Some (state_seen c.in_ok-state.state) ≡ option_map (work_state c.args.self.now) (work_at c.args.self.now c.args.id.0)
known g c = ap (option_map state_seen) (sym c.in_ok-state.ensures.ok_part) ∙ c.state.ensures.state

-- where the work stands
place : (g : _) (c : In_ok-state g) → (p : Placed) × (place_at (places_seen g.J.Job.spec c.self.inside.places) c.args.id.0 ≡ Some p) × (place_state
    c.self.inside.line.works p ≡ state_seen c.in_ok-state.state)
place g c = state-place _ _ c.args.id.0 _ (known g c ∙ states-of _ _ _ _ _ _ _ _ _ _ _ c.self.invariant _ c.self.view_is c.args.id.0)

pub returns-then-not-is_deletable-clause-refusal : goal.returns-then-not-is_deletable-clause-refusal
returns-then-not-is_deletable-clause-refusal g c =
    ap (λ b. unless b status.GenericFailure) (sym c.if-not-is_deletable.true ∙ c.is_deletable.ensures)
    ∙ refusal-of c.args.self.now is_deletable c.args.id.0 _ (known g (goal.at.returns-then-not-is_deletable-clause-refusal g c).In_ok-state)

-- it is counted where it was not queued
counted : (g : _) (c : After-unqueued g) (p : Placed) → place_state c.self.inside.line.works p ≡ state_seen c.in_ok-state.state
    → c.unqueued.result ≡ cond (is_none p.number) 1 0
counted g c p is = c.unqueued.ensures ∙ ap (λ b. cond b 1 0) (sym (unqueued-created _ p _ is))

pub overflow_sub-self : goal.overflow_sub-self
overflow_sub-self g c =
    let p = place g (goal.at.overflow_sub-self g c).In_ok-state in
    let within = counted-within _ _ _ _ _ _ _ _ _ _ _ c.self.invariant c.args.id.0 p.0 (places-rise g.J.Job.spec c.self.inside.places) p.1 in
    let count = counted g (goal.at.overflow_sub-self g c).After-unqueued p.0 p.2 in
    omega (arith, within, count)

pub free-requires : goal.free-requires
free-requires g c =
    let p = place g (goal.at.free-requires g c).In_ok-state in
    held-there g.J.Job.spec c.self.inside.places c.args.id.0 p.0 p.1

pub invariant_of-self : goal.invariant_of-self
invariant_of-self g c =
    let p = place g (goal.at.invariant_of-self g c).In_ok-state in
    let within = counted-within _ _ _ _ _ _ _ _ _ _ _ c.self.invariant c.args.id.0 p.0 (places-rise g.J.Job.spec c.self.inside.places) p.1 in
    let count = counted g (goal.at.invariant_of-self g c).After-unqueued p.0 p.2 in
    rw c.free.ensures.issued
    (kept-deleted _ _ _ _ _ _ _ _ _ _ _ c.self.invariant _ c.args.id.0 p.0 _ (places-rise g.J.Job.spec c.self.inside.places)
    (seen-freed g.J.Job.spec c.self.inside.places c.free.new.self c.args.id.0 c.free.ensures.freed) p.1
    (deletable-done _ p.0 _ p.2 (sym c.is_deletable.ensures ∙ c.if-not-is_deletable.false)) (omega (arith, within, count)))

pub returns-clause-refusal : goal.returns-clause-refusal
returns-clause-refusal g c =
    ap (λ b. unless b status.GenericFailure) (sym c.if-not-is_deletable.false ∙ c.is_deletable.ensures)
    ∙ refusal-of c.args.self.now is_deletable c.args.id.0 _ (known g (goal.at.returns-clause-refusal g c).In_ok-state)

pub returns-clause-ok : goal.returns-clause-ok
returns-clause-ok g c =
    view-deleted _ _ _ _ _ _ _ c.args.id.0 (seen-freed g.J.Job.spec c.self.inside.places c.free.new.self c.args.id.0 c.free.ensures.freed) c.free.ensures.issued
    ∙ ap (without_work c.args.id.0) c.self.view_is
