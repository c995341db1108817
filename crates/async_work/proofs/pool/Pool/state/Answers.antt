use Rattle.std.proofs.Common.{◌≡◌, ◌∙◌, Some, None, option_map, sym, ap}
use Rattle.std.specs.Option.{option_and_then, option_map_or}
use Rattle.napi_types.specs.parts.Pool.{WorkPool, work_at, work_state, number_of_work}
use Rattle.napi_types.specs.parts.Works.{WorkState, Created}
use Rattle.async_work.specs.Queue.{stage_state}
use Rattle.async_work.specs.WorkPlaces.{Placed, place_seen, places_seen, place_at, standing_number}
use Rattle.async_work.specs.WorkStates.{state_seen, numbered_state, place_state}
use Rattle.async_work.proofs.Ids.{unnumbered}
use Rattle.async_work.proofs.Linking.{if-more}
use Rattle.async_work.proofs.StandingWorks.{states-of, number-at}
use Rattle.async_work.proofs.pool.Pool.state.Goals as goal
use Rattle.async_work.proofs.pool.Pool.state.Goals.{In_ok-place, In-Numbered}

placed : (g : _) (c : In_ok-place g) → place_at (places_seen g.J.Job.spec c.self.inside.places) c.args.id.0 ≡ Some
    (place_seen g.J.Job.spec c.in_ok-place.place.now)
placed g c = sym c.in_ok-place.ensures

-- what is told of the place is told of the work
known : (g : _) (c : In_ok-place g) (s : WorkState) → place_state c.self.inside.line.works
    (place_seen g.J.Job.spec c.in_ok-place.place.now) ≡ s
    → Some s ≡ option_map (work_state c.args.self.now) (work_at c.args.self.now c.args.id.0)
known g c s is =
    sym (states-of _ _ _ _ _ _ _ _ _ _ _ c.self.invariant _ c.self.view_is c.args.id.0 ∙ ap (option_map (place_state
    c.self.inside.line.works)) (placed g c) ∙ ap (λ t. Some t) is)

pub returns-in_err-place-clause-state : goal.returns-in_err-place-clause-state
returns-in_err-place-clause-state g c =
    let none : place_at (places_seen g.J.Job.spec c.self.inside.places) c.args.id.0 ≡ None = sym c.in_err-place.ensures in
    ap (option_map state_seen) c.from_residual.ensures
    ∙ sym (states-of _ _ _ _ _ _ _ _ _ _ _ c.self.invariant _ c.self.view_is c.args.id.0 ∙ ap (option_map (place_state
    c.self.inside.line.works)) none)

pub returns-in_default-clause-state : goal.returns-in_default-clause-state
returns-in_default-clause-state g c =
    known g (goal.at.returns-in_default-clause-state g c).In_ok-place Created
    (ap (λ o. option_map_or (numbered_state c.self.inside.line.works) o Created)
    (unnumbered g.J.Job.spec c.in_ok-place.place.now.standing c.in_default.not-Numbered))

number : (g : _) (c : In-Numbered g) → (place_seen g.J.Job.spec c.in_ok-place.place.now).number ≡ Some c.in-Numbered.number
number g c = ap (standing_number g.J.Job.spec) c.in-Numbered.is

pub returns-clause-state : goal.returns-clause-state
returns-clause-state g c =
    known g (goal.at.returns-clause-state g c).In_ok-place _
    (ap (λ o. option_map_or (numbered_state c.self.inside.line.works) o Created) (number g (goal.at.returns-clause-state g c).In-Numbered)
    ∙ ap stage_state (sym c.stage.ensures) ∙ sym c.progress_of.ensures.state)

pub returns-clause-number : goal.returns-clause-number
returns-clause-number g c =
    if-more (λ n. n ≡ c.in-Numbered.number) (λ n. number_of_work c.args.self.now c.args.id.0 ≡ Some n) _
    (λ n same.
    sym (ap (λ (p : WorkPool). number_of_work p c.args.id.0) c.self.view_is) ∙ number-at _ _ _ _ _ _ _ _ _ _ _ c.self.invariant c.args.id.0
    ∙ ap (option_and_then (λ (p : Placed). p.number)) (placed g (goal.at.returns-clause-number g c).In_ok-place)
    ∙ number g (goal.at.returns-clause-number g c).In-Numbered ∙ ap (λ k. Some k) (sym same)) c.progress_of.ensures.number
