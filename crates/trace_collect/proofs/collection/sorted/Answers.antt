use Rattle.std.proofs.Common.{sym, rules}
use Rattle.std.proofs.lemmas.List.Sorted.{answers_always, IsNonDecreasingBy-from_all_adjacent, IsNonDecreasingBy-from_sort_by_key}
use Rattle.std.proofs.lemmas.Map.Keys.{le_from_is_le}
use Rattle.napi_types.specs.declared.ids.ValueId.{ValueId}
use Rattle.trace_collect.proofs.collection.sorted.Goals as goal

pub returns-then-not-is_sorted_by_key-clause-sorted : goal.returns-then-not-is_sorted_by_key-clause-sorted
returns-then-not-is_sorted_by_key-clause-sorted c = IsNonDecreasingBy-from_sort_by_key (λ (v : ValueId). v.0) _ c.sort_unstable_by_key.ensures.sorted (λ a r q k. search rules)

pub returns-else-not-is_sorted_by_key-clause-sorted : goal.returns-else-not-is_sorted_by_key-clause-sorted
returns-else-not-is_sorted_by_key-clause-sorted c =
    let found = c.if-not-is_sorted_by_key.ensures.cases (λ (v : ValueId). v.0) (answers_always _ _ _ (λ f a r g called. search rules)) in
    let adjacent = rw c.deref.ensures.value at found in
    IsNonDecreasingBy-from_all_adjacent (λ (v : ValueId). v.0) c.args.list.items (λ k d inside. le_from_is_le _ _ (sym (adjacent k d inside)))
