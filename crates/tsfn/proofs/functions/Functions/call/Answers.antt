use Rattle.std.proofs.Common.{◌∙◌, ◌<◌, ◌^◌, set, sum_by, ap, sym, arith}
use Rattle.std.specs.Option.{option_and_then}
use Rattle.napi_types.specs.parts.Functions.{call_status, called}
use Rattle.napi_types.specs.hub.HistoryRoom.{function_places}
use Rattle.napi_types.proofs.plain.Options.{at-err}
use Rattle.tsfn.specs.FunctionList.{tried_there}
use Rattle.tsfn.proofs.FunctionChanges.{IsChange, called-change}
use Rattle.tsfn.proofs.Totals.{Stands, may-recount, kept-changed, still-few, stays-busy}
use Rattle.tsfn.proofs.PlacedFunctions.{there, changed-in-place}
use Rattle.tsfn.proofs.functions.Functions.call.Goals as goal
use Rattle.tsfn.proofs.functions.Functions.call.Goals.{In_ok-tried}

stands : (c : In_ok-tried) → Stands c.self.inside.list.items c.self.inside.totals c.in-Some.place c.index_mut-function.result.now c.of-before.result
stands c = record {
  kept = c.self.invariant;
  within = rw (← c.self.view_is) at c.in-Some.ensures.there.0;
  here = c.index_mut-function.ensures.value;
  places = c.of-before.ensures.places;
  awaited = c.of-before.ensures.awaited;
}

changes : (c : In_ok-tried) → IsChange 2 c.index_mut-function.result.now c.call.new.self
changes c = rw c.in_ok-tried.ensures.called (called-change _ c.args.payload c.index_mut-function.result.now)

few : (c : In_ok-tried) → sum_by function_places (set c.self.inside.list.items c.in-Some.place c.call.new.self) < 2 ^ 63
few c = still-few (stands c) 2 _ (changes c).places (let places : sum_by function_places c.self.inside.list.items < 2 ^ 62 = rw (← c.self.view_is) at c.requires.places in omega (arith, places))

pub note_call-requires-clause-counted : goal.note_call-requires-clause-counted
note_call-requires-clause-counted c =
    let at = (goal.at.note_call-requires-clause-counted c).In_ok-tried in
    may-recount (stands at) _ (few at) (omega (arith, c.self.inside.list.ok))

pub note_call-requires-clause-busy : goal.note_call-requires-clause-busy
note_call-requires-clause-busy c =
    let at = (goal.at.note_call-requires-clause-busy c).In_ok-tried in
    stays-busy (stands at) c.call.new.self (changes at).busy

pub invariant_of-self-2 : goal.invariant_of-self-2
invariant_of-self-2 c =
    let at = (goal.at.invariant_of-self-2 c).In_ok-tried in
    kept-changed (stands at) _ _ (changes at).id (few at) c.note_call.ensures.counted c.note_call.ensures.busy

pub returns-clause-answer : goal.returns-clause-answer
returns-clause-answer c =
    let at = (goal.at.returns-clause-answer c).In_ok-tried in
    rw (← c.self.view_is, c.in_ok-tried.ensures.answer)
    (sym (ap (tried_there c.args.who c.args.mode) (there c.self.inside.list.items c.self.invariant.numbered c.in-Some.place c.args.id.0 c.index_mut-function.result.now (stands at).within c.in-Some.ensures.there.1
    c.index_mut-function.ensures.value)))

pub returns-clause-called : goal.returns-clause-called
returns-clause-called c =
    let at = (goal.at.returns-clause-called c).In_ok-tried in
    rw (← c.self.view_is, c.in_ok-tried.ensures.called)
    (changed-in-place c.self.inside.list.items c.self.invariant.numbered c.in-Some.place c.args.id.0 c.index_mut-function.result.now (stands at).within c.in-Some.ensures.there.1
    c.index_mut-function.ensures.value (λ f. called (call_status c.args.who c.args.mode f) c.args.payload))

pub returns-in_err-tried-clause-memory : goal.returns-in_err-tried-clause-memory
returns-in_err-tried-clause-memory c =
    at-err c.from_residual.result
    (rw (← c.self.view_is)
    (ap (option_and_then (call_status c.args.who c.args.mode)) (there c.self.inside.list.items c.self.invariant.numbered c.in-Some.place c.args.id.0 c.index_mut-function.result.now
    (rw (← c.self.view_is) at c.in-Some.ensures.there.0) c.in-Some.ensures.there.1 c.index_mut-function.ensures.value)
    ∙ c.in_err-tried.ensures.memory))
