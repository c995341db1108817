use Rattle.std.proofs.Common.{◌≡◌, ◌∙◌, ◌+◌, sym, ap, length, map, reverse, get_or, List, None, arith}
use Rattle.handle_scope.specs.HandleScopes.{HandleScopes, handle_places}
use Rattle.handle_scope.specs.declared.scopes.HeldHandle.{HeldHandle}
use Rattle.handle_scope.specs.declared.scopes.ScopeMark.{ScopeMark}
use Rattle.handle_scope.specs.Marks.{held_of, places_marked}
use Rattle.handle_scope.proofs.Stacks.{places-stack, starts-stack, length-handle_places}
use Rattle.handle_scope.proofs.scopes.Scopes.held_at.Goals as goal

pub value_at-requires-clause-starts : goal.value_at-requires-clause-starts
value_at-requires-clause-starts c =
    rw (c.deref.ensures.value, c.deref-2.ensures.value)
    (starts-stack c.self.inside.frames.items c.self.inside.scopes.items c.self.inside.held.items c.self.inside.handles c.self.inside.numbers c.self.invariant.stack)

pub value_at-requires-clause-inside : goal.value_at-requires-clause-inside
value_at-requires-clause-inside c =
    let places : length (handle_places c.args.self.now.frames) ≡ length c.self.inside.held.items + length c.self.inside.scopes.items =
    rw (← c.self.view_is) (length-handle_places c.self.inside.frames.items c.self.inside.scopes.items c.self.inside.held.items c.self.inside.handles c.self.inside.numbers c.self.invariant.stack) in
    omega (arith, places, c.requires, c.deref.ensures.len, c.deref-2.ensures.len)

pub returns : goal.returns
returns c =
    let at = c.args.at in
    c.value_at.ensures
    ∙ ap (λ (l : List HeldHandle). get_or (places_marked (reverse c.deref-2.result.now) (map held_of l)) at None) c.deref.ensures.value
    ∙ ap (λ (l : List ScopeMark). get_or (places_marked (reverse l) (map held_of c.self.inside.held.items)) at None) c.deref-2.ensures.value
    ∙ ap (λ l. get_or l at None) (sym (places-stack c.self.inside.frames.items c.self.inside.scopes.items c.self.inside.held.items c.self.inside.handles c.self.inside.numbers c.self.invariant.stack))
    ∙ ap (λ (s : HandleScopes). get_or (handle_places s.frames) at None) c.self.view_is
