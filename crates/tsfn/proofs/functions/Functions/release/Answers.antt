use Rattle.std.proofs.Common.{◌<◌, ◌^◌, set, sum_by, arith}
use Rattle.napi_types.specs.parts.Functions.{release_status, released}
use Rattle.napi_types.specs.hub.HistoryRoom.{function_places}
use Rattle.tsfn.proofs.FunctionChanges.{IsChange, released-change}
use Rattle.tsfn.proofs.Totals.{Stands, may-recount, kept-changed, still-few}
use Rattle.tsfn.proofs.PlacedFunctions.{status-at, changed-in-place}
use Rattle.tsfn.proofs.functions.Functions.release.Goals as goal
use Rattle.tsfn.proofs.functions.Functions.release.Goals.{After-release-status}

stands : (c : After-release-status) → Stands c.self.inside.list.items c.self.inside.totals c.in-Some.place c.index_mut-function.result.now c.of-before.result
stands c = record {
  kept = c.self.invariant;
  within = rw (← c.self.view_is) at c.in-Some.ensures.there.0;
  here = c.index_mut-function.ensures.value;
  places = c.of-before.ensures.places;
  awaited = c.of-before.ensures.awaited;
}

changes : (c : After-release-status) → IsChange 0 c.index_mut-function.result.now c.release-status.new.self
changes c = rw c.release-status.ensures.released (released-change _ _ c.index_mut-function.result.now)

few : (c : After-release-status) → sum_by function_places (set c.self.inside.list.items c.in-Some.place c.release-status.new.self) < 2 ^ 63
few c = still-few (stands c) 0 _ (changes c).places (omega (arith, c.self.invariant.few))

pub note_call-requires-clause-counted : goal.note_call-requires-clause-counted
note_call-requires-clause-counted c =
    let at = (goal.at.note_call-requires-clause-counted c).After-release-status in
    may-recount (stands at) _ (few at) (omega (arith, c.self.inside.list.ok))

pub invariant_of-self : goal.invariant_of-self
invariant_of-self c =
    let at = (goal.at.invariant_of-self c).After-release-status in
    kept-changed (stands at) _ _ (changes at).id (few at) c.note_call.ensures.counted c.note_call.ensures.busy

pub returns-clause-status : goal.returns-clause-status
returns-clause-status c =
    let at = (goal.at.returns-clause-status c).After-release-status in
    rw (← c.self.view_is, c.release-status.ensures.status)
    (status-at c.self.inside.list.items c.self.invariant.numbered c.in-Some.place c.args.id.0 c.index_mut-function.result.now (stands at).within c.in-Some.ensures.there.1
    c.index_mut-function.ensures.value release_status)

pub returns-clause-released : goal.returns-clause-released
returns-clause-released c =
    let at = (goal.at.returns-clause-released c).After-release-status in
    rw (← c.self.view_is, c.release-status.ensures.released)
    (changed-in-place c.self.inside.list.items c.self.invariant.numbered c.in-Some.place c.args.id.0 c.index_mut-function.result.now (stands at).within c.in-Some.ensures.there.1
    c.index_mut-function.ensures.value (λ f. released (release_status f) c.args.mode))
