use Rattle.std.proofs.Common.{◌≡◌, ◌∙◌, ◌+◌, ◌++◌, ◌∷◌, [], sym, ap, subst, refl, reverse, drop, arith, List, Some}
use Rattle.std.proofs.Math.ListN.{set}
use Rattle.std.specs.Prelude.{vec_capacity}
use Rattle.napi_types.specs.plain.Lists.{head, first_changed}
use Rattle.napi_types.specs.parts.ScopeChanges.{escape_in}
use Rattle.napi_types.specs.parts.ScopeRefusals.{escaping}
use Rattle.napi_types.specs.parts.Scopes.{opened_scopes}
use Rattle.handle_scope.specs.HandleScopes.{HandleScopes}
use Rattle.handle_scope.specs.declared.scopes.HeldHandle.{HeldHandle}
use Rattle.handle_scope.specs.declared.scopes.ScopeMark.{ScopeMark}
use Rattle.handle_scope.specs.Marks.{held_of, scopes_above, frames_of, FitsStack, IsEscapable}
use Rattle.handle_scope.proofs.Marks.{escaped_mark}
use Rattle.handle_scope.proofs.Stacks.{escaping-frames, rest-slice, frames-escaped, kept-escaped, free-fewer}
use Rattle.handle_scope.proofs.scopes.Scopes.escape.Goals as goal

pub push_reserved-requires : goal.push_reserved-requires
push_reserved-requires c =
    let f = c.in-Some.frame in
    let n = c.args.scope.0 in
    let r = c.index_mut.result.now in
    let x : HeldHandle = record { handle = c.self.inside.handles + 1; value = c.args.value } in
    let E : List ScopeMark → Type 0 = λ l. IsEscapable l n c.in-Ok.at in
    let last : head (reverse c.self.inside.frames.items) ≡ Some f = ap (λ l. head (reverse l)) (sym c.deref.ensures.value) ∙ sym c.in-Some.ensures in
    let found : IsEscapable (drop f.scopes c.self.inside.scopes.items) n c.in-Ok.at = subst E (rest-slice f.scopes c.deref-in-Some.result.now ∙ ap (drop f.scopes) c.deref-in-Some.ensures.value) c.in-Ok.ensures.found in
    let escaped = frames-escaped n f c.self.inside.frames.items c.self.inside.scopes.items c.in-Ok.at x r c.self.inside.held.items c.self.inside.handles c.self.inside.numbers c.self.invariant.stack last found refl in
    omega (arith, c.self.invariant.escapes_fit, free-fewer c.self.inside.scopes.items (f.scopes + c.in-Ok.at) x r escaped.inside escaped.none)

pub invariant_of-self : goal.invariant_of-self
invariant_of-self c =
    let f = c.in-Some.frame in
    let n = c.args.scope.0 in
    let at = f.scopes + c.in-Ok.at in
    let r = c.index_mut.result.now in
    let x : HeldHandle = record { handle = c.self.inside.handles + 1; value = c.args.value } in
    let E : List ScopeMark → Type 0 = λ l. IsEscapable l n c.in-Ok.at in
    let last : head (reverse c.self.inside.frames.items) ≡ Some f = ap (λ l. head (reverse l)) (sym c.deref.ensures.value) ∙ sym c.in-Some.ensures in
    let found : IsEscapable (drop f.scopes c.self.inside.scopes.items) n c.in-Ok.at = subst E (rest-slice f.scopes c.deref-in-Some.result.now ∙ ap (drop f.scopes) c.deref-in-Some.ensures.value) c.in-Ok.ensures.found in
    let escaped = frames-escaped n f c.self.inside.frames.items c.self.inside.scopes.items c.in-Ok.at x r c.self.inside.held.items c.self.inside.handles c.self.inside.numbers c.self.invariant.stack last found refl in
    let P : ScopeMark → Type 0 = λ m. FitsStack c.self.inside.frames.items (set c.self.inside.scopes.items at (escaped_mark m x)) c.self.inside.held.items (c.self.inside.escapes.items ++ record { handle = x.handle; scope = at } ∷ []) (c.self.inside.handles + 1) c.self.inside.numbers c.self.inside.spare c.self.inside.calls (vec_capacity c.self.inside.frames) (vec_capacity c.self.inside.held) (vec_capacity c.self.inside.escapes) in
    rw (c.push_reserved.ensures.items, c.push_reserved.ensures.capacity)
    (subst P (sym c.index_mut.ensures.value)
    (kept-escaped n c.self.inside.frames.items c.self.inside.scopes.items at x r c.self.inside.held.items c.self.inside.escapes.items _ _ _ _ _ _ _ c.self.invariant refl escaped))

pub returns-in-Ok-clause-refusal : goal.returns-in-Ok-clause-refusal
returns-in-Ok-clause-refusal c =
    let f = c.in-Some.frame in
    let n = c.args.scope.0 in
    let last : head (reverse c.self.inside.frames.items) ≡ Some f = ap (λ l. head (reverse l)) (sym c.deref.ensures.value) ∙ sym c.in-Some.ensures in
    c.in-Ok.ensures.refusal
    ∙ ap (λ l. escaping n (scopes_above 0 (reverse l) []).opened) (rest-slice f.scopes c.deref-in-Some.result.now)
    ∙ ap (λ l. escaping n (scopes_above 0 (reverse (drop f.scopes l)) []).opened) c.deref-in-Some.ensures.value
    ∙ escaping-frames n f c.self.inside.frames.items c.self.inside.scopes.items c.self.inside.held.items c.self.inside.handles c.self.inside.numbers c.self.invariant.stack last
    ∙ ap (λ (s : HandleScopes). escaping n (opened_scopes s.frames)) c.self.view_is

pub returns-in-Ok-clause-ok : goal.returns-in-Ok-clause-ok
returns-in-Ok-clause-ok c =
    let f = c.in-Some.frame in
    let n = c.args.scope.0 in
    let at = f.scopes + c.in-Ok.at in
    let r = c.index_mut.result.now in
    let x : HeldHandle = record { handle = c.self.inside.handles + 1; value = c.args.value } in
    let E : List ScopeMark → Type 0 = λ l. IsEscapable l n c.in-Ok.at in
    let last : head (reverse c.self.inside.frames.items) ≡ Some f = ap (λ l. head (reverse l)) (sym c.deref.ensures.value) ∙ sym c.in-Some.ensures in
    let found : IsEscapable (drop f.scopes c.self.inside.scopes.items) n c.in-Ok.at = subst E (rest-slice f.scopes c.deref-in-Some.result.now ∙ ap (drop f.scopes) c.deref-in-Some.ensures.value) c.in-Ok.ensures.found in
    let escaped = frames-escaped n f c.self.inside.frames.items c.self.inside.scopes.items c.in-Ok.at x r c.self.inside.held.items c.self.inside.handles c.self.inside.numbers c.self.invariant.stack last found refl in
    let frames : frames_of c.self.inside.frames.items (set c.self.inside.scopes.items at (escaped_mark r x)) c.self.inside.held.items ≡ first_changed (escape_in n (held_of x)) (frames_of c.self.inside.frames.items c.self.inside.scopes.items c.self.inside.held.items) =
    ap (λ m. frames_of c.self.inside.frames.items (set c.self.inside.scopes.items at (escaped_mark m x)) c.self.inside.held.items) c.index_mut.ensures.value ∙ escaped.frames in
    rw (← c.self.view_is) (rw frames refl)

pub returns-in-Err-clause-refusal : goal.returns-in-Err-clause-refusal
returns-in-Err-clause-refusal c =
    let f = c.in-Some.frame in
    let n = c.args.scope.0 in
    let last : head (reverse c.self.inside.frames.items) ≡ Some f = ap (λ l. head (reverse l)) (sym c.deref.ensures.value) ∙ sym c.in-Some.ensures in
    c.in-Err.ensures.refusal
    ∙ ap (λ l. escaping n (scopes_above 0 (reverse l) []).opened) (rest-slice f.scopes c.deref-in-Some.result.now)
    ∙ ap (λ l. escaping n (scopes_above 0 (reverse (drop f.scopes l)) []).opened) c.deref-in-Some.ensures.value
    ∙ escaping-frames n f c.self.inside.frames.items c.self.inside.scopes.items c.self.inside.held.items c.self.inside.handles c.self.inside.numbers c.self.invariant.stack last
    ∙ ap (λ (s : HandleScopes). escaping n (opened_scopes s.frames)) c.self.view_is
