use Rattle.std.proofs.Common.{◌≡◌, ◌∙◌, ◌==◌, rules, tests}
use Rattle.std.specs.List.{list_any}
use Rattle.std.proofs.lemmas.Iterator.{YieldsList-from_slice}
use Rattle.std.proofs.lemmas.Iterator.Search.{any_from_yields_List}
use Rattle.std.proofs.lemmas.List.Sorted.{answers_always}
use Rattle.napi_types.specs.declared.ids.ValueId.{ValueId}
use Rattle.napi_reference.proofs.Searches.{among-any, among-search}
use Rattle.napi_reference.proofs.freed.is_among.Goals as goal

pub returns-in-Rising : goal.returns-in-Rising
returns-in-Rising c =
    let facts = c.binary_search_by_key.ensures in
    let by_number = facts.position (λ (v : ValueId). v.0) (answers_always _ _ _ (λ f a r g called. search rules)) in
    c.is_ok.ensures.value ∙ among-search c.args.values.now c.args.value.0 c.binary_search_by_key.result (rw c.in-Rising.is at c.requires) facts.bound by_number

pub returns-in-Any : goal.returns-in-Any
returns-in-Any c =
    let any : c.any.result ≡ list_any (λ (v : ValueId). v.0 == c.args.value.0) c.args.values.now =
    any_from_yields_List (λ (v : ValueId). v.0 == c.args.value.0) _ _ c.any.result c.any.ensures.ran (YieldsList-from_slice c.args.values.now cc) (λ x b q k. search (rules, tests)) in
    any ∙ among-any c.args.values.now c.args.value.0
