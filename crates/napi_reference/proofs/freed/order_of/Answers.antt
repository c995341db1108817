use Rattle.std.proofs.Common.{rules}
use Rattle.std.proofs.lemmas.List.Sorted.{answers_always}
use Rattle.napi_types.specs.declared.ids.ValueId.{ValueId}
use Rattle.napi_reference.proofs.Searches.{rise-adjacent}
use Rattle.napi_reference.proofs.freed.order_of.Goals as goal

pub returns-then-is_sorted_by_key : goal.returns-then-is_sorted_by_key
returns-then-is_sorted_by_key c =
    rise-adjacent c.args.values.now (c.if-is_sorted_by_key.ensures.cases (λ (v : ValueId). v.0) (answers_always _ _ _ (λ f a r g called. search rules)))
