use Rattle.std.proofs.Common.{◌∙◌, ap, sym, false, true, rules}
use Rattle.std.proofs.lemmas.List.Sorted.{answers_always}
use Rattle.napi_types.specs.declared.ids.ScopeKind.TheVariants as scope_kind
use Rattle.napi_types.specs.declared.status.Status.TheVariants as status
use Rattle.napi_types.specs.plain.Lists.{when}
use Rattle.handle_scope.specs.declared.scopes.ScopeMark.{ScopeMark}
use Rattle.handle_scope.proofs.HandleNumbers.{search-found, search-lacks}
use Rattle.handle_scope.proofs.Marks.{opened_mark}
use Rattle.handle_scope.proofs.EscapeRefusals.{escaping-at, escaping-absent, escapable-at}
use Rattle.handle_scope.proofs.scopes.escapable_among.Goals as goal

pub returns-then-not-is_same_kind-clause-refusal : goal.returns-then-not-is_same_kind-clause-refusal
returns-then-not-is_same_kind-clause-refusal c =
    let facts = c.in-Ok.ensures in
    let by_number = facts.position (λ (s : ScopeMark). s.number) (answers_always _ _ _ (λ f a r g called. search rules)) in
    let has = search-found (λ (s : ScopeMark). s.number) c.args.opened.now c.args.number c.in-Ok.at facts.bound by_number in
    sym (escaping-at c.args.number c.args.opened.now c.in-Ok.at (opened_mark 0 scope_kind.Plain 0 0) false c.requires has (sym c.if-not-is_same_kind.ensures))

pub returns-then-is_some-clause-refusal : goal.returns-then-is_some-clause-refusal
returns-then-is_some-clause-refusal c =
    let facts = c.in-Ok.ensures in
    let by_number = facts.position (λ (s : ScopeMark). s.number) (answers_always _ _ _ (λ f a r g called. search rules)) in
    let has = search-found (λ (s : ScopeMark). s.number) c.args.opened.now c.args.number c.in-Ok.at facts.bound by_number in
    sym (escaping-at c.args.number c.args.opened.now c.in-Ok.at (opened_mark 0 scope_kind.Plain 0 0) true c.requires has (sym c.if-not-is_same_kind.ensures)
    ∙ ap (λ b. when b status.EscapeCalledTwice) (sym c.if-is_some.ensures))

pub returns-else-is_some-clause-found : goal.returns-else-is_some-clause-found
returns-else-is_some-clause-found c =
    let facts = c.in-Ok.ensures in
    let by_number = facts.position (λ (s : ScopeMark). s.number) (answers_always _ _ _ (λ f a r g called. search rules)) in
    let has = search-found (λ (s : ScopeMark). s.number) c.args.opened.now c.args.number c.in-Ok.at facts.bound by_number in
    escapable-at c.args.number c.args.opened.now c.in-Ok.at (opened_mark 0 scope_kind.Plain 0 0) has (sym c.if-is_some.ensures)

pub returns-else-is_some-clause-refusal : goal.returns-else-is_some-clause-refusal
returns-else-is_some-clause-refusal c =
    let facts = c.in-Ok.ensures in
    let by_number = facts.position (λ (s : ScopeMark). s.number) (answers_always _ _ _ (λ f a r g called. search rules)) in
    let has = search-found (λ (s : ScopeMark). s.number) c.args.opened.now c.args.number c.in-Ok.at facts.bound by_number in
    sym (escaping-at c.args.number c.args.opened.now c.in-Ok.at (opened_mark 0 scope_kind.Plain 0 0) true c.requires has (sym c.if-not-is_same_kind.ensures)
    ∙ ap (λ b. when b status.EscapeCalledTwice) (sym c.if-is_some.ensures))

pub returns-in-Err-clause-refusal : goal.returns-in-Err-clause-refusal
returns-in-Err-clause-refusal c =
    let facts = c.in-Err.ensures in
    let by_number = facts.position (λ (s : ScopeMark). s.number) (answers_always _ _ _ (λ f a r g called. search rules)) in
    sym (escaping-absent c.args.number c.args.opened.now
    (search-lacks (λ (s : ScopeMark). s.number) c.args.opened.now c.args.number _ c.requires facts.bound by_number))
