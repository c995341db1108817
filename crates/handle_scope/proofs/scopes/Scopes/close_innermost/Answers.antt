use Rattle.std.proofs.Common.{◌≡◌, ◌≢◌, ◌≤◌, ◌+◌, ◌*◌, arith, length, subst, sym, refl, List, []}
use Rattle.std.specs.Prelude.{vec_capacity}
use Rattle.std.proofs.lemmas.List.{nil_from_length}
use Rattle.napi_types.specs.parts.Scopes.{opened_scopes}
use Rattle.handle_scope.specs.declared.scopes.ScopeMark.{ScopeMark}
use Rattle.handle_scope.specs.declared.scopes.Escape.{Escape}
use Rattle.handle_scope.specs.HandleScopes.{HandleScopes}
use Rattle.handle_scope.specs.Marks.{FitsStack, IsTracked, Rises, frames_of}
use Rattle.handle_scope.proofs.Stacks.{frames-closed, kept-cut, kept-closed, none-closed, Forgets}
use Rattle.handle_scope.proofs.scopes.Scopes.close_innermost.Goals as goal

pub cut_back-requires : goal.cut_back-requires
cut_back-requires c =
    let P : List ScopeMark → Type 0 = λ l. FitsStack c.self.inside.frames.items l c.self.inside.held.items c.self.inside.escapes.items c.self.inside.handles c.self.inside.numbers c.self.inside.spare c.self.inside.calls (vec_capacity c.self.inside.frames) (vec_capacity c.self.inside.held) (vec_capacity c.self.inside.escapes) in
    let O : List ScopeMark → Type 0 = λ l. opened_scopes (frames_of c.self.inside.frames.items l c.self.inside.held.items) ≢ [] in
    let V : HandleScopes → Type 0 = λ s. opened_scopes s.frames ≢ [] in
    kept-cut _ c.pop.new.self.items c.in-Some.scope _ _ _ _ _ _ _ _ _
    (subst P c.in-Some.ensures.items c.self.invariant) (subst O c.in-Some.ensures.items (subst V (sym c.self.view_is) c.requires))

pub invariant_of-self : goal.invariant_of-self
invariant_of-self c =
    let P : List ScopeMark → Type 0 = λ l. FitsStack c.self.inside.frames.items l c.self.inside.held.items c.self.inside.escapes.items c.self.inside.handles c.self.inside.numbers c.self.inside.spare c.self.inside.calls (vec_capacity c.self.inside.frames) (vec_capacity c.self.inside.held) (vec_capacity c.self.inside.escapes) in
    let O : List ScopeMark → Type 0 = λ l. opened_scopes (frames_of c.self.inside.frames.items l c.self.inside.held.items) ≢ [] in
    let V : HandleScopes → Type 0 = λ s. opened_scopes s.frames ≢ [] in
    let T : List ScopeMark → Type 0 = λ l. IsTracked l c.self.inside.escapes.items → IsTracked l c.forget_closed.new.escapes.items in
    let F : List ScopeMark → Type 0 = λ l. Rises (λ (e : Escape). e.handle) c.self.inside.escapes.items
    → length c.forget_closed.new.escapes.items ≤ 2 * length l + 1 in
    let forgets : Forgets c.pop.new.self.items c.self.inside.escapes.items c.forget_closed.new.escapes.items = record {
      tracked = subst T c.deref.ensures.value c.forget_closed.ensures.tracked;
      issued = c.forget_closed.ensures.issued;
      shorter = c.forget_closed.ensures.shorter;
      few = subst F c.deref.ensures.value c.forget_closed.ensures.few;
    } in
    rw (c.cut_back.ensures.items, c.cut_back.ensures.capacity, c.forget_closed.ensures.capacity)
    (kept-closed c.self.inside.frames.items c.pop.new.self.items c.in-Some.scope c.self.inside.held.items c.self.inside.escapes.items c.forget_closed.new.escapes.items _ _ _ _ _ _ _
    (subst P c.in-Some.ensures.items c.self.invariant) (subst O c.in-Some.ensures.items (subst V (sym c.self.view_is) c.requires)) forgets)

pub returns-in-Some : goal.returns-in-Some
returns-in-Some c =
    let P : List ScopeMark → Type 0 = λ l. FitsStack c.self.inside.frames.items l c.self.inside.held.items c.self.inside.escapes.items c.self.inside.handles c.self.inside.numbers c.self.inside.spare c.self.inside.calls (vec_capacity c.self.inside.frames) (vec_capacity c.self.inside.held) (vec_capacity c.self.inside.escapes) in
    let O : List ScopeMark → Type 0 = λ l. opened_scopes (frames_of c.self.inside.frames.items l c.self.inside.held.items) ≢ [] in
    let V : HandleScopes → Type 0 = λ s. opened_scopes s.frames ≢ [] in
    let closed = frames-closed c.self.inside.frames.items c.pop.new.self.items c.in-Some.scope c.self.inside.held.items _ _
    (subst P c.in-Some.ensures.items c.self.invariant).stack (subst O c.in-Some.ensures.items (subst V (sym c.self.view_is) c.requires)) in
    rw (← c.self.view_is) (rw (c.cut_back.ensures.items, c.in-Some.ensures.items, closed) refl)

pub returns-in_default : goal.returns-in_default
returns-in_default c =
    let V : HandleScopes → Type 0 = λ s. opened_scopes s.frames ≢ [] in
    let none : c.self.inside.scopes.items ≡ [] = nil_from_length c.self.inside.scopes.items (omega (arith, c.in_default.ensures)) in
    absurd (subst V (sym c.self.view_is) c.requires (none-closed c.self.inside.frames.items c.self.inside.scopes.items c.self.inside.held.items none))
