use Rattle.std.proofs.Common.{◌≡◌, ◌≢◌, ◌+◌, length, subst, sym, ap, refl, [], arith}
use Rattle.handle_scope.specs.HandleScopes.{HandleScopes}
use Rattle.napi_types.proofs.plain.Issued.{length-up_to, fresh_number, up_to-more}
use Rattle.handle_scope.proofs.Stacks.{frames-opened, kept-opened}
use Rattle.handle_scope.proofs.scopes.Scopes.open_scope.Goals as goal

pub overflow_add-number : goal.overflow_add-number
overflow_add-number c = omega (arith, rw (← c.self.view_is) at c.requires.numbers, length-up_to c.self.inside.numbers)

pub invariant_of-self-2 : goal.invariant_of-self-2
invariant_of-self-2 c =
    let P : HandleScopes → Type 0 = λ s. s.frames ≢ [] in
    let room = c.in_ok-make_room.ensures in
    let held : length c.make_room.new.held.items ≡ length c.self.inside.held.items = ap length room.held in
    let scopes : length c.make_room.new.scopes.items ≡ length c.self.inside.scopes.items = ap length room.scopes in
    let escapes : length c.make_room.new.escapes.items ≡ length c.self.inside.escapes.items = ap length room.escapes in
    rw (c.push_reserved.ensures.items, room.scopes, room.held, room.escapes)
    (kept-opened _ _ _ _ _ _ _ _ _ _ _ c.self.invariant (c.self.inside.numbers + 1) c.args.kind c.len-2.result (c.len-3.result + c.len-4.result) _ _
    (subst P (sym c.self.view_is) c.requires.standing) (omega (arith, c.len-2.ensures, held)) (omega (arith, c.len-2.ensures, c.len-3.ensures, c.len-4.ensures, scopes)) refl
    (omega (arith, room.held_fits, held, c.len.ensures)) (omega (arith, room.escapes_fit, escapes, scopes)))

pub returns-clause-fresh : goal.returns-clause-fresh
returns-clause-fresh c = rw (← c.self.view_is) (fresh_number c.self.inside.numbers)

pub returns-clause-ok : goal.returns-clause-ok
returns-clause-ok c =
    let room = c.in_ok-make_room.ensures in
    let held : length c.make_room.new.held.items ≡ length c.self.inside.held.items = ap length room.held in
    let opened = frames-opened c.self.inside.frames.items c.self.inside.scopes.items c.self.inside.held.items c.self.inside.handles c.self.inside.numbers c.self.invariant.stack (c.self.inside.numbers + 1) c.args.kind c.len-2.result (c.len-3.result + c.len-4.result) (omega (arith, c.len-2.ensures, held)) in
    rw (← c.self.view_is)
    (rw (c.push_reserved.ensures.items, room.scopes, room.held, up_to-more c.self.inside.numbers, opened) refl)
