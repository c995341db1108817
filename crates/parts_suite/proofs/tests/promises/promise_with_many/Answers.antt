use Rattle.std.proofs.Common.{◌∙◌, List, option_map, ap, arith}
use Rattle.napi_types.specs.plain.Lists.{found}
use Rattle.napi_types.specs.parts.Promises.{Deferred}
use Rattle.parts_suite.proofs.tests.promises.promise_with_many.Goals as goal

pub loop-number-preserved : goal.loop-number-preserved
loop-number-preserved g c =
    let still = ap (λ (ds : List Deferred). option_map (λ (d : Deferred). d.promise) (found (λ (d : Deferred). d.number) c.ample-id.result.0 ds)) c.react.ensures.deferreds in
    (omega (arith, c.react.ensures.count, c.loop-number.invariant.0), c.react.ensures.promise, c.react.ensures.registered, still ∙ c.loop-number.invariant.3)
