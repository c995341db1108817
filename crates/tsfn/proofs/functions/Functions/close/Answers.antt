use Rattle.std.proofs.Common.{◌<◌, ◌^◌, set, sum_by, arith}
use Rattle.napi_types.specs.hub.HistoryRoom.{function_places}
use Rattle.tsfn.proofs.FunctionChanges.{IsChange, closed-change}
use Rattle.tsfn.proofs.Totals.{Stands, may-recount, kept-changed, still-few}
use Rattle.tsfn.proofs.functions.Functions.close.Goals as goal
use Rattle.tsfn.proofs.functions.Functions.close.Goals.{After-begin_close}

stands : (c : After-begin_close) → Stands c.self.inside.list.items c.self.inside.totals c.args.place c.index_mut-function.result.now c.of-before.result
stands c = record {
  kept = c.self.invariant;
  within = rw c.self.view_is c.requires;
  here = c.index_mut-function.ensures.value;
  places = c.of-before.ensures.places;
  awaited = c.of-before.ensures.awaited;
}

changes : (c : After-begin_close) → IsChange 0 c.index_mut-function.result.now c.begin_close.new.self
changes c = rw c.begin_close.ensures (closed-change c.index_mut-function.result.now)

few : (c : After-begin_close) → sum_by function_places (set c.self.inside.list.items c.args.place c.begin_close.new.self) < 2 ^ 63
few c = still-few (stands c) 0 _ (changes c).places (omega (arith, c.self.invariant.few))

pub note_call-requires-clause-counted : goal.note_call-requires-clause-counted
note_call-requires-clause-counted c =
    let at = (goal.at.note_call-requires-clause-counted c).After-begin_close in
    may-recount (stands at) _ (few at) (omega (arith, c.self.inside.list.ok))

pub invariant_of-self : goal.invariant_of-self
invariant_of-self c =
    let at = (goal.at.invariant_of-self c).After-begin_close in
    kept-changed (stands at) _ _ (changes at).id (few at) c.note_call.ensures.counted c.note_call.ensures.busy
