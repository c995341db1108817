use Rattle.std.proofs.Common.{◌∙◌, ◌<◌, ◌≤◌, ◌+◌, ◌^◌, set, sum_by, map, ap, sym, arith, subst, List}
use Rattle.napi_types.specs.parts.Functions.{FunctionState}
use Rattle.napi_types.specs.hub.HistoryRoom.{function_places}
use Rattle.tsfn.specs.BusyPlaces.{IsLowestBusy}
use Rattle.tsfn.specs.FunctionList.{functions_after_move}
use Rattle.tsfn.specs.FunctionMoves.{is_busy}
use Rattle.tsfn.proofs.FirstMoves.{MovesFirst, moves-first, first-none, moved-at}
use Rattle.tsfn.proofs.FunctionChanges.{IsMoved, moved-keeps}
use Rattle.tsfn.proofs.Totals.{Stands, may-recount, kept-changed, still-few}
use Rattle.tsfn.proofs.functions.Functions.take_move.Goals as goal
use Rattle.tsfn.proofs.functions.Functions.take_move.Goals.{After-take_move-moved}

first : (c : After-take_move-moved) → MovesFirst c.self.inside.list.items c.in_ok-place.place c.index_mut-function.result.now
first c =
    moves-first c.self.inside.list.items c.in_ok-place.place c.index_mut-function.result.now c.index_mut-function.ensures.value
    (subst (λ (fs : List FunctionState). IsLowestBusy (map is_busy fs) c.in_ok-place.place) (sym c.self.view_is) c.in_ok-place.ensures.lowest)

stands : (c : After-take_move-moved)
    → Stands c.self.inside.list.items c.self.inside.totals c.in_ok-place.place c.index_mut-function.result.now c.of-before.result
stands c = record {
  kept = c.self.invariant;
  within = (first c).within;
  here = c.index_mut-function.ensures.value;
  places = c.of-before.ensures.places;
  awaited = c.of-before.ensures.awaited;
}

changes : (c : After-take_move-moved) → IsMoved c.index_mut-function.result.now c.take_move-moved.new.self
changes c = rw c.take_move-moved.ensures.left (moved-keeps c.index_mut-function.result.now)

none : (c : After-take_move-moved) → function_places c.take_move-moved.new.self ≤ function_places c.index_mut-function.result.now + 0
none c = omega (arith, (changes c).places)

few : (c : After-take_move-moved) → sum_by function_places (set c.self.inside.list.items c.in_ok-place.place c.take_move-moved.new.self) < 2 ^ 63
few c = still-few (stands c) 0 _ (none c) (let few = c.self.invariant.few in omega (arith, few))

pub note_move-requires-clause-counted : goal.note_move-requires-clause-counted
note_move-requires-clause-counted c =
    let at = (goal.at.note_move-requires-clause-counted c).After-take_move-moved in
    may-recount (stands at) _ (few at) (omega (arith, c.self.inside.list.ok))

pub invariant_of-self : goal.invariant_of-self
invariant_of-self c =
    let at = (goal.at.invariant_of-self c).After-take_move-moved in
    kept-changed (stands at) _ _ (changes at).id (few at) c.note_move.ensures.counted c.note_move.ensures.busy

pub returns-clause-told : goal.returns-clause-told
returns-clause-told c =
    let at = (goal.at.returns-clause-told c).After-take_move-moved in
    rw (← c.self.view_is)
    (c.take_move-moved.ensures.told ∙ sym (first at).move)

pub returns-clause-left : goal.returns-clause-left
returns-clause-left c =
    let at = (goal.at.returns-clause-left c).After-take_move-moved in
    rw (← c.self.view_is, c.take_move-moved.ensures.left, (first at).move)
    (sym (moved-at c.self.inside.list.items c.in_ok-place.place c.index_mut-function.result.now c.self.invariant.numbered (first at).within c.index_mut-function.ensures.value))

pub returns-in_err-place-clause-told : goal.returns-in_err-place-clause-told
returns-in_err-place-clause-told c =
    rw (c.from_residual.ensures, ← c.self.view_is)
    (sym (first-none c.self.inside.list.items (rw c.self.view_is c.in_err-place.ensures.none)))

pub returns-in_err-place-clause-left : goal.returns-in_err-place-clause-left
returns-in_err-place-clause-left c =
    ap (λ m. functions_after_move m c.args.self.now)
    (sym (first-none c.args.self.now c.in_err-place.ensures.none))
