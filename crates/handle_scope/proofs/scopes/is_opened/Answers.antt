use Rattle.std.proofs.Common.{◌∙◌, rules}
use Rattle.std.proofs.lemmas.List.Sorted.{answers_always}
use Rattle.handle_scope.specs.declared.scopes.ScopeMark.{ScopeMark}
use Rattle.handle_scope.proofs.HandleNumbers.{any-search}
use Rattle.handle_scope.proofs.scopes.is_opened.Goals as goal

pub returns : goal.returns
returns c =
    let facts = c.binary_search_by_key.ensures in
    let by_number = facts.position (λ (s : ScopeMark). s.number) (answers_always _ _ _ (λ f a r g called. search rules)) in
    c.is_ok.ensures.value ∙ any-search (λ (s : ScopeMark). s.number) c.args.opened.now c.args.number c.binary_search_by_key.result c.requires facts.bound by_number
