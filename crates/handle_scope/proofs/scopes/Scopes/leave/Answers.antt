use Rattle.std.proofs.Common.{◌≡◌, ◌∙◌, ◌≤◌, ◌+◌, ◌*◌, arith, length, subst, sym, ap, refl, Bool, true, false, List, map, reverse, take}
use Rattle.std.specs.Int.{from_bool}
use Rattle.std.specs.Prelude.{vec_capacity}
use Rattle.handle_scope.specs.declared.scopes.FrameMark.{FrameMark}
use Rattle.handle_scope.specs.declared.scopes.ScopeMark.{ScopeMark}
use Rattle.handle_scope.specs.declared.scopes.Escape.{Escape}
use Rattle.handle_scope.specs.HandleScopes.{HandleScopes}
use Rattle.handle_scope.specs.Marks.{FitsStack, IsTracked, Rises, AreCallsInside, call_places, place_left}
use Rattle.handle_scope.proofs.Marks.{reverse-push}
use Rattle.handle_scope.proofs.Stacks.{frames-left, kept-left, place-left, caller-stands, Forgets}
use Rattle.handle_scope.proofs.scopes.Scopes.leave.Goals as goal

-- the number that the code takes for a test
byte-places : (b : Bool) → from_bool b ≡ call_places b
byte-places true = refl
byte-places false = refl

pub invariant_of-self : goal.invariant_of-self
invariant_of-self c =
    let f : FrameMark = c.in-Some.frame in
    let P : List FrameMark → Type 0 = λ l. FitsStack l c.self.inside.scopes.items c.self.inside.held.items c.self.inside.escapes.items c.self.inside.handles c.self.inside.numbers c.self.inside.spare c.self.inside.calls (vec_capacity c.self.inside.frames) (vec_capacity c.self.inside.held) (vec_capacity c.self.inside.escapes) in
    let T : List ScopeMark → Type 0 = λ l. IsTracked l c.self.inside.escapes.items → IsTracked l c.forget_closed.new.escapes.items in
    let F : List ScopeMark → Type 0 = λ l. Rises (λ (e : Escape). e.handle) c.self.inside.escapes.items
    → length c.forget_closed.new.escapes.items ≤ 2 * length l + 1 in
    let forgets : Forgets (take f.scopes c.self.inside.scopes.items) c.self.inside.escapes.items c.forget_closed.new.escapes.items = record {
      tracked = subst T (c.deref.ensures.value ∙ c.truncate.ensures.items) c.forget_closed.ensures.tracked;
      issued = c.forget_closed.ensures.issued;
      shorter = c.forget_closed.ensures.shorter;
      few = subst F (c.deref.ensures.value ∙ c.truncate.ensures.items) c.forget_closed.ensures.few;
    } in
    let places : place_left c.args.self.now.by_call ≡ call_places f.by_call =
    ap (λ (s : HandleScopes). place_left s.by_call) (sym c.self.view_is)
    ∙ ap (λ l. place_left (map (λ (y : FrameMark). y.by_call) (reverse l))) c.in-Some.ensures.items ∙ place-left c.pop.new.self.items f in
    rw (c.truncate.ensures.items, c.truncate-in-Some.ensures.items, c.in-Some.ensures.capacity, c.truncate-in-Some.ensures.capacity, c.forget_closed.ensures.capacity)
    (kept-left c.pop.new.self.items f c.self.inside.scopes.items c.self.inside.held.items c.self.inside.escapes.items c.forget_closed.new.escapes.items _ _ _ _ c.from.result c.args.spared _ _ _
    (subst P c.in-Some.ensures.items c.self.invariant) forgets (c.from.ensures ∙ byte-places f.by_call) (omega (arith, places, c.requires)))

pub returns-in-Some-clause-left : goal.returns-in-Some-clause-left
returns-in-Some-clause-left c =
    rw (← c.self.view_is)
    (rw (c.truncate.ensures.items, c.truncate-in-Some.ensures.items, c.in-Some.ensures.items, frames-left c.pop.new.self.items c.in-Some.frame c.self.inside.scopes.items c.self.inside.held.items, reverse-push c.pop.new.self.items c.in-Some.frame) refl)

pub returns-in-Some-clause-caller : goal.returns-in-Some-clause-caller
returns-in-Some-clause-caller c =
    let f : FrameMark = c.in-Some.frame in
    let C : List FrameMark → Type 0 = λ l. AreCallsInside (reverse l) in
    let places : place_left c.args.self.now.by_call ≡ call_places f.by_call =
    ap (λ (s : HandleScopes). place_left s.by_call) (sym c.self.view_is)
    ∙ ap (λ l. place_left (map (λ (y : FrameMark). y.by_call) (reverse l))) c.in-Some.ensures.items ∙ place-left c.pop.new.self.items f in
    λ more. caller-stands c.pop.new.self.items f _ _ (subst C c.in-Some.ensures.items c.self.invariant.calls_inside) (omega (arith, places, c.requires))
