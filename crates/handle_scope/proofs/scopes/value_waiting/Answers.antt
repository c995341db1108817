use Rattle.std.proofs.Common.{◌∙◌, rules}
use Rattle.std.proofs.lemmas.List.Sorted.{answers_always}
use Rattle.handle_scope.specs.declared.scopes.Escape.{Escape}
use Rattle.handle_scope.proofs.HandleNumbers.{search-found, search-lacks}
use Rattle.handle_scope.proofs.Escapes.{escape-found, escape-lacks}
use Rattle.handle_scope.proofs.scopes.value_waiting.Goals as goal

pub returns-in-Ok : goal.returns-in-Ok
returns-in-Ok c =
    let facts = c.in-Ok.ensures in
    let by_handle = facts.position (λ (e : Escape). e.handle) (answers_always _ _ _ (λ f a r g called. search rules)) in
    c.value_of.ensures
    ∙ escape-found c.args.scopes.now c.args.escapes.now c.args.handle c.in-Ok.at _ c.requires
    (search-found (λ (e : Escape). e.handle) c.args.escapes.now c.args.handle c.in-Ok.at facts.bound by_handle)

pub returns-in-Err : goal.returns-in-Err
returns-in-Err c =
    let facts = c.in-Err.ensures in
    let by_handle = facts.position (λ (e : Escape). e.handle) (answers_always _ _ _ (λ f a r g called. search rules)) in
    escape-lacks c.args.scopes.now c.args.escapes.now c.args.handle c.requires
    (search-lacks (λ (e : Escape). e.handle) c.args.escapes.now c.args.handle _ c.requires.rise facts.bound by_handle)
