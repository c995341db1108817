use Rattle.std.proofs.Common.{◌+◌, ◌∙◌, ap}
use Rattle.napi_types.specs.parts.Values.{with_element}
use Rattle.value_store.proofs.ElementMaps.{array-next}
use Rattle.value_store.proofs.contents.Contents.array.Goals as goal

pub loop-at-preserved : goal.loop-at-preserved
loop-at-preserved c = λ n.
    (rw c.from.ensures at c.in_ok-set_element.ensures.set) n
    ∙ ap (with_element c.loop-at.at (c.args.first + c.loop-at.at)) (c.loop-at.invariant n)
    ∙ array-next n c.args.first c.loop-at.at
