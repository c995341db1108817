use Rattle.std.specs.List.{range_with_len}
use Rattle.napi_types.specs.parts.NewValues.{array_of}
use Rattle.value_store.specs.Contents.{HasValue}
use Rattle.value_store.proofs.contents.Contents.array.Given as goal

abbrev pub invariant-loop-at : goal.invariant-loop-at
invariant-loop-at l = HasValue l.place (λ n. array_of n (range_with_len l.first l.at))
