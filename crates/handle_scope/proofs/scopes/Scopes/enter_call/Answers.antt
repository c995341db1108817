use Rattle.std.proofs.Common.{◌≡◌, ◌≢◌, length, subst, sym, [], arith}
use Rattle.handle_scope.specs.HandleScopes.{HandleScopes}
use Rattle.handle_scope.proofs.Stacks.{length-frames, kept-called}
use Rattle.handle_scope.proofs.scopes.Scopes.enter_call.Goals as goal

pub push_reserved-requires : goal.push_reserved-requires
push_reserved-requires c =
    let stand : length c.args.self.now.frames ≡ length c.self.inside.frames.items = rw (← c.self.view_is) (length-frames c.self.inside.frames.items c.self.inside.scopes.items c.self.inside.held.items) in
    omega (arith, stand, c.requires.room, c.self.invariant.frames_fit)

pub invariant_of-self-2 : goal.invariant_of-self-2
invariant_of-self-2 c =
    let P : HandleScopes → Type 0 = λ s. s.frames ≢ [] in
    rw (c.push_reserved.ensures.items, c.push_reserved.ensures.capacity, c.in_ok-reserve.ensures.items)
    (kept-called _ _ _ _ _ _ _ _ _ _ _ c.self.invariant c.len-2.result c.len-3.result _
    (omega (arith, c.len-2.ensures, c.in_ok-reserve.ensures.len)) (omega (arith, c.len-3.ensures)) (subst P (sym c.self.view_is) c.requires.standing)
    (omega (arith, c.in_ok-reserve.ensures.ok, c.in_ok-reserve.ensures.len, c.len.ensures)))
