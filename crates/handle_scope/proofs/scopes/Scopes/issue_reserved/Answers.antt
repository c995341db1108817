use Rattle.std.proofs.Common.{◌≢◌, ◌<◌, subst, sym, refl, []}
use Rattle.handle_scope.specs.HandleScopes.{HandleScopes}
use Rattle.handle_scope.proofs.Stacks.{frames-issued, kept-issued}
use Rattle.handle_scope.proofs.scopes.Scopes.issue_reserved.Goals as goal

pub invariant_of-self : goal.invariant_of-self
invariant_of-self c =
    let P : HandleScopes → Type 0 = λ s. s.frames ≢ [] in
    let some : 0 < c.self.inside.spare = rw (← c.self.view_is) at c.requires.spare in
    rw (c.push_reserved.ensures.items, c.push_reserved.ensures.capacity)
    (kept-issued _ _ _ _ _ _ _ _ _ _ _ c.self.invariant _ (subst P (sym c.self.view_is) c.requires.standing) refl some)

pub returns-clause-issued : goal.returns-clause-issued
returns-clause-issued c =
    rw (← c.self.view_is) (rw (c.push_reserved.ensures.items, frames-issued c.self.inside.frames.items c.self.inside.scopes.items c.self.inside.held.items c.self.inside.handles c.self.inside.numbers c.self.invariant.stack _) refl)
