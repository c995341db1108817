use Rattle.std.proofs.Common.{◌∙◌, ap, sym, rules, arith, option_map}
use Rattle.std.proofs.lemmas.List.{length-map}
use Rattle.std.proofs.lemmas.List.Sorted.{answers_always}
use Rattle.napi_types.specs.declared.ids.ScopeKind.TheVariants as scope_kind
use Rattle.napi_types.specs.declared.ids.ValueId.{ValueId}
use Rattle.handle_scope.specs.declared.scopes.HeldHandle.{HeldHandle}
use Rattle.handle_scope.specs.declared.scopes.ScopeMark.{ScopeMark}
use Rattle.handle_scope.specs.Marks.{held_of}
use Rattle.handle_scope.proofs.HandleNumbers.{search-found}
use Rattle.handle_scope.proofs.Marks.{opened_mark}
use Rattle.handle_scope.proofs.HandlePlaces.{mark-at, held-found, held-value}
use Rattle.handle_scope.proofs.scopes.value_at.Goals as goal

pub returns-in_err-scopes-in-Ok : goal.returns-in_err-scopes-in-Ok
returns-in_err-scopes-in-Ok c =
    let facts = c.in-Ok.ensures in
    let by_place = facts.position (λ (s : ScopeMark). s.place) (answers_always _ _ _ (λ f a r g called. search rules)) in
    let has = search-found (λ (s : ScopeMark). s.place) c.args.scopes.now c.args.at c.in-Ok.mark facts.bound by_place in
    ap (option_map (λ (v : ValueId). v.0)) c.from_residual.ensures
    ∙ sym (mark-at c.args.scopes.now c.args.held.now c.in-Ok.mark c.args.at (opened_mark 0 scope_kind.Plain 0 0) c.requires.starts c.requires.placed has
    ∙ ap (option_map (λ (h : HeldHandle). h.value.0)) c.in_err-scopes-in-Ok.was)

pub overflow_sub-result : goal.overflow_sub-result
overflow_sub-result c =
    let facts = c.in-Err.ensures in
    let by_place = facts.position (λ (s : ScopeMark). s.place) (answers_always _ _ _ (λ f a r g called. search rules)) in
    (held-found c.args.scopes.now c.args.held.now c.args.at c.in-Err.before (record { handle = 0; value = record { 0 = 0 } }) c.requires.starts c.requires.placed c.requires.inside facts.bound by_place).back

pub bounds-held-at : goal.bounds-held-at
bounds-held-at c =
    let facts = c.in-Err.ensures in
    let by_place = facts.position (λ (s : ScopeMark). s.place) (answers_always _ _ _ (λ f a r g called. search rules)) in
    let here = held-found c.args.scopes.now c.args.held.now c.args.at c.in-Err.before (record { handle = 0; value = record { 0 = 0 } }) c.requires.starts c.requires.placed c.requires.inside facts.bound by_place in
    omega (arith, here.inside, length-map c.args.held.now held_of)

pub returns-in_ok-scopes-in-Ok : goal.returns-in_ok-scopes-in-Ok
returns-in_ok-scopes-in-Ok c =
    let facts = c.in-Ok.ensures in
    let by_place = facts.position (λ (s : ScopeMark). s.place) (answers_always _ _ _ (λ f a r g called. search rules)) in
    let has = search-found (λ (s : ScopeMark). s.place) c.args.scopes.now c.args.at c.in-Ok.mark facts.bound by_place in
    sym (mark-at c.args.scopes.now c.args.held.now c.in-Ok.mark c.args.at (opened_mark 0 scope_kind.Plain 0 0) c.requires.starts c.requires.placed has
    ∙ ap (option_map (λ (h : HeldHandle). h.value.0)) c.in_ok-scopes-in-Ok.was)

pub returns-in-Err : goal.returns-in-Err
returns-in-Err c =
    let facts = c.in-Err.ensures in
    let by_place = facts.position (λ (s : ScopeMark). s.place) (answers_always _ _ _ (λ f a r g called. search rules)) in
    held-value c.args.scopes.now c.args.held.now c.args.at c.in-Err.before (record { handle = 0; value = record { 0 = 0 } })
    (held-found c.args.scopes.now c.args.held.now c.args.at c.in-Err.before (record { handle = 0; value = record { 0 = 0 } }) c.requires.starts c.requires.placed c.requires.inside facts.bound by_place)
