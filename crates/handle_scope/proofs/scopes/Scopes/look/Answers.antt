use Rattle.std.proofs.Common.{◌≡◌, ◌∙◌, sym, ap, map, reverse, List, Some, None}
use Rattle.std.specs.Option.{option_or}
use Rattle.napi_types.specs.parts.Scopes.{gives, value_in}
use Rattle.handle_scope.specs.HandleScopes.{HandleScopes}
use Rattle.handle_scope.specs.declared.scopes.ScopeMark.{ScopeMark}
use Rattle.handle_scope.specs.Marks.{held_of, all_waiting}
use Rattle.handle_scope.proofs.Stacks.{gives-stack, handles-rise}
use Rattle.handle_scope.proofs.Lookups.{Rises-of-held}
use Rattle.handle_scope.proofs.scopes.Scopes.look.Goals as goal

pub value_among-requires : goal.value_among-requires
value_among-requires c =
    rw c.deref.ensures.value
    (Rises-of-held c.self.inside.held.items (handles-rise c.self.inside.frames.items c.self.inside.scopes.items c.self.inside.held.items c.self.inside.handles c.self.inside.numbers c.self.invariant.stack))

pub returns-in-Some : goal.returns-in-Some
returns-in-Some c =
    let h = c.args.handle.0 in
    let found : Some c.in-Some.value.0 ≡ value_in (map held_of c.self.inside.held.items) h = c.in-Some.ensures ∙ ap (λ l. value_in (map held_of l) h) c.deref.ensures.value in
    ap (λ o. option_or o (value_in (all_waiting (reverse c.self.inside.scopes.items)) h)) found
    ∙ sym (gives-stack c.self.inside.frames.items c.self.inside.scopes.items c.self.inside.held.items c.self.inside.handles c.self.inside.numbers c.self.invariant.stack h)
    ∙ ap (λ (s : HandleScopes). gives s.frames h) c.self.view_is

pub returns : goal.returns
returns c =
    let h = c.args.handle.0 in
    let none : None ≡ value_in (map held_of c.self.inside.held.items) h = c.in_default.ensures ∙ ap (λ l. value_in (map held_of l) h) c.deref.ensures.value in
    c.value_waiting.ensures
    ∙ ap (λ (l : List ScopeMark). value_in (all_waiting (reverse l)) h) c.deref-3.ensures.value
    ∙ ap (λ o. option_or o (value_in (all_waiting (reverse c.self.inside.scopes.items)) h)) none
    ∙ sym (gives-stack c.self.inside.frames.items c.self.inside.scopes.items c.self.inside.held.items c.self.inside.handles c.self.inside.numbers c.self.invariant.stack h)
    ∙ ap (λ (s : HandleScopes). gives s.frames h) c.self.view_is
