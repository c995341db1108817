use Rattle.std.proofs.Common.{sym, rules}
use Rattle.std.proofs.lemmas.List.Sorted.{answers_always}
use Rattle.handle_scope.specs.declared.scopes.HeldHandle.{HeldHandle}
use Rattle.handle_scope.proofs.HandleNumbers.{search-found, search-lacks}
use Rattle.handle_scope.proofs.Lookups.{value_in-found, value_in-lacks, Lacks-held}
use Rattle.handle_scope.proofs.scopes.value_searched.Goals as goal

pub returns-in-Ok : goal.returns-in-Ok
returns-in-Ok c =
    let facts = c.in-Ok.ensures in
    let by_handle = facts.position (λ (h : HeldHandle). h.handle) (answers_always _ _ _ (λ f a r g called. search rules)) in
    value_in-found c.args.held.now c.args.handle c.in-Ok.at _ c.requires
    (search-found (λ (h : HeldHandle). h.handle) c.args.held.now c.args.handle c.in-Ok.at facts.bound by_handle)

pub returns-in-Err : goal.returns-in-Err
returns-in-Err c =
    let facts = c.in-Err.ensures in
    let by_handle = facts.position (λ (h : HeldHandle). h.handle) (answers_always _ _ _ (λ f a r g called. search rules)) in
    sym (value_in-lacks _ c.args.handle (Lacks-held c.args.held.now c.args.handle
    (search-lacks (λ (h : HeldHandle). h.handle) c.args.held.now c.args.handle _ c.requires facts.bound by_handle)))
