use Rattle.std.proofs.Common.{◌<◌, ◌^◌, set, sum_by, arith}
use Rattle.napi_types.specs.parts.Functions.{acquire_status, acquired}
use Rattle.napi_types.specs.hub.HistoryRoom.{function_places}
use Rattle.tsfn.proofs.FunctionChanges.{IsChange, acquired-change}
use Rattle.tsfn.proofs.Totals.{Stands, may-recount, kept-changed, still-few}
use Rattle.tsfn.proofs.PlacedFunctions.{status-at, changed-in-place}
use Rattle.tsfn.proofs.functions.Functions.acquire.Goals as goal
use Rattle.tsfn.proofs.functions.Functions.acquire.Goals.{After-acquire-status}

stands : (c : After-acquire-status) → Stands c.self.inside.list.items c.self.inside.totals c.in-Some.place c.index_mut-function.result.now c.of-before.result
stands c = record {
  kept = c.self.invariant;
  within = rw (← c.self.view_is) at c.in-Some.ensures.there.0;
  here = c.index_mut-function.ensures.value;
  places = c.of-before.ensures.places;
  awaited = c.of-before.ensures.awaited;
}

changes : (c : After-acquire-status) → IsChange 0 c.index_mut-function.result.now c.acquire-status.new.self
changes c = rw c.acquire-status.ensures.acquired (acquired-change c.index_mut-function.result.now)

few : (c : After-acquire-status) → sum_by function_places (set c.self.inside.list.items c.in-Some.place c.acquire-status.new.self) < 2 ^ 63
few c = still-few (stands c) 0 _ (changes c).places (omega (arith, c.self.invariant.few))

pub note_call-requires-clause-counted : goal.note_call-requires-clause-counted
note_call-requires-clause-counted c =
    let at = (goal.at.note_call-requires-clause-counted c).After-acquire-status in
    may-recount (stands at) _ (few at) (omega (arith, c.self.inside.list.ok))

pub invariant_of-self : goal.invariant_of-self
invariant_of-self c =
    let at = (goal.at.invariant_of-self c).After-acquire-status in
    kept-changed (stands at) _ _ (changes at).id (few at) c.note_call.ensures.counted c.note_call.ensures.busy

pub returns-clause-status : goal.returns-clause-status
returns-clause-status c =
    let at = (goal.at.returns-clause-status c).After-acquire-status in
    rw (← c.self.view_is, c.acquire-status.ensures.status)
    (status-at c.self.inside.list.items c.self.invariant.numbered c.in-Some.place c.args.id.0 c.index_mut-function.result.now (stands at).within c.in-Some.ensures.there.1
    c.index_mut-function.ensures.value acquire_status)

pub returns-clause-acquired : goal.returns-clause-acquired
returns-clause-acquired c =
    let at = (goal.at.returns-clause-acquired c).After-acquire-status in
    rw (← c.self.view_is, c.acquire-status.ensures.acquired)
    (changed-in-place c.self.inside.list.items c.self.invariant.numbered c.in-Some.place c.args.id.0 c.index_mut-function.result.now (stands at).within c.in-Some.ensures.there.1
    c.index_mut-function.ensures.value (λ f. acquired (acquire_status f)))
