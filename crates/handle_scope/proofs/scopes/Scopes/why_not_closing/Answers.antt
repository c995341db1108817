use Rattle.std.proofs.Common.{◌≡◌, ◌∙◌, sym, ap, reverse, drop, [], Some}
use Rattle.napi_types.specs.plain.Lists.{head}
use Rattle.napi_types.specs.parts.ScopeRefusals.{closing}
use Rattle.napi_types.specs.parts.Scopes.{opened_scopes}
use Rattle.handle_scope.specs.HandleScopes.{HandleScopes}
use Rattle.handle_scope.specs.Marks.{scopes_above}
use Rattle.handle_scope.proofs.Stacks.{closing-frames, rest-slice}
use Rattle.handle_scope.proofs.scopes.Scopes.why_not_closing.Goals as goal

pub returns-in-Some : goal.returns-in-Some
returns-in-Some c =
    let n = c.args.scope.0 in
    let kind = c.args.kind in
    let f = c.in-Some.frame in
    let last : head (reverse c.self.inside.frames.items) ≡ Some f = ap (λ l. head (reverse l)) (sym c.deref.ensures.value) ∙ sym c.in-Some.ensures in
    c.why_not_among.ensures
    ∙ ap (λ l. closing n kind (scopes_above 0 (reverse l) []).opened) (rest-slice f.scopes c.deref-in-Some.result.now)
    ∙ ap (λ l. closing n kind (scopes_above 0 (reverse (drop f.scopes l)) []).opened) c.deref-in-Some.ensures.value
    ∙ closing-frames n kind f c.self.inside.frames.items c.self.inside.scopes.items c.self.inside.held.items c.self.inside.handles c.self.inside.numbers c.self.invariant.stack last
    ∙ ap (λ (s : HandleScopes). closing n kind (opened_scopes s.frames)) c.self.view_is
