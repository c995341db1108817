use Rattle.std.proofs.Common.{◌<◌, ◌^◌, false, set, sum_by, arith}
use Rattle.napi_types.specs.declared.status.Status.TheVariants as status
use Rattle.napi_types.specs.parts.Functions.{with_referenced}
use Rattle.napi_types.specs.hub.HistoryRoom.{function_places}
use Rattle.tsfn.proofs.FunctionChanges.{IsChange, referenced-change}
use Rattle.tsfn.proofs.Totals.{Stands, may-recount, kept-changed, still-few}
use Rattle.tsfn.proofs.PlacedFunctions.{status-at, changed-in-place}
use Rattle.tsfn.proofs.functions.Functions.unrefer.Goals as goal
use Rattle.tsfn.proofs.functions.Functions.unrefer.Goals.{After-unrefer}

stands : (c : After-unrefer) → Stands c.self.inside.list.items c.self.inside.totals c.in-Some.place c.index_mut-function.result.now c.of-before.result
stands c = record {
  kept = c.self.invariant;
  within = rw (← c.self.view_is) at c.in-Some.ensures.there.0;
  here = c.index_mut-function.ensures.value;
  places = c.of-before.ensures.places;
  awaited = c.of-before.ensures.awaited;
}

changes : (c : After-unrefer) → IsChange 0 c.index_mut-function.result.now c.unrefer.new.self
changes c = rw c.unrefer.ensures (referenced-change false c.index_mut-function.result.now)

few : (c : After-unrefer) → sum_by function_places (set c.self.inside.list.items c.in-Some.place c.unrefer.new.self) < 2 ^ 63
few c = still-few (stands c) 0 _ (changes c).places (omega (arith, c.self.invariant.few))

pub note_call-requires-clause-counted : goal.note_call-requires-clause-counted
note_call-requires-clause-counted c =
    let at = (goal.at.note_call-requires-clause-counted c).After-unrefer in
    may-recount (stands at) _ (few at) (omega (arith, c.self.inside.list.ok))

pub invariant_of-self : goal.invariant_of-self
invariant_of-self c =
    let at = (goal.at.invariant_of-self c).After-unrefer in
    kept-changed (stands at) _ _ (changes at).id (few at) c.note_call.ensures.counted c.note_call.ensures.busy

pub returns-clause-status : goal.returns-clause-status
returns-clause-status c =
    let at = (goal.at.returns-clause-status c).After-unrefer in
    rw (← c.self.view_is)
    (status-at c.self.inside.list.items c.self.invariant.numbered c.in-Some.place c.args.id.0 c.index_mut-function.result.now (stands at).within c.in-Some.ensures.there.1
    c.index_mut-function.ensures.value (λ f. status.Ok))

pub returns-clause-unreferred : goal.returns-clause-unreferred
returns-clause-unreferred c =
    let at = (goal.at.returns-clause-unreferred c).After-unrefer in
    rw (← c.self.view_is, c.unrefer.ensures)
    (changed-in-place c.self.inside.list.items c.self.invariant.numbered c.in-Some.place c.args.id.0 c.index_mut-function.result.now (stands at).within c.in-Some.ensures.there.1
    c.index_mut-function.ensures.value (λ f. with_referenced false))
