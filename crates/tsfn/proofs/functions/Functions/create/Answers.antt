use Rattle.std.proofs.Common.{◌≡◌, ◌∙◌, ◌<◌, ◌≤◌, ◌+◌, ◌*◌, ◌^◌, ℕ, length, sum_by, ap, arith, Option, Some, None}
use Rattle.napi_types.specs.declared.entry.TsfnState.TheVariants.{Open}
use Rattle.napi_types.specs.hub.HistoryRoom.{state_places, function_places}
use Rattle.napi_types.specs.parts.Functions.{FunctionState}
use Rattle.tsfn.proofs.Totals.{kept-created}
use Rattle.tsfn.proofs.functions.Functions.create.Goals as goal

-- what a new function owes
new-places : (finalizer : Option ℕ) → state_places finalizer Open + 2 * 0 ≤ 4
new-places None = omega arith
new-places (Some entry) = omega arith

pub invariant_of-self-2 : goal.invariant_of-self-2
invariant_of-self-2 c =
    let fs = c.self.inside.list.items in
    let g = c.in_ok-function.function in
    let few : sum_by function_places fs < 2 ^ 62 = rw (← c.self.view_is) at c.requires.few in
    let own : function_places g ≤ 4 = rw c.in_ok-function.ensures.made (new-places c.args.about.finalize) in
    let id : g.id ≡ length fs + 1 = ap (λ (f : FunctionState). f.id) c.in_ok-function.ensures.made ∙ omega (arith, c.len.ensures, c.self.inside.list.ok.0) in
    rw (c.push_reserved.ensures.items, c.reserve.ensures.items)
    (kept-created fs _ _ g c.self.invariant id (omega (arith, few, own)) c.in_ok-add.ensures.places c.in_ok-add.ensures.awaited c.in_ok-add.ensures.busy)
