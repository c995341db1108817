use Rattle.std.proofs.Common.{◌≡◌, length, arith}
use Rattle.handle_scope.proofs.Stacks.{length-frames, kept-entered}
use Rattle.handle_scope.proofs.scopes.Scopes.enter_frame.Goals as goal

pub push_reserved-requires : goal.push_reserved-requires
push_reserved-requires c =
    let stand : length c.args.self.now.frames ≡ length c.self.inside.frames.items = rw (← c.self.view_is) (length-frames c.self.inside.frames.items c.self.inside.scopes.items c.self.inside.held.items) in
    omega (arith, stand, c.requires, c.self.invariant.frames_fit)

pub invariant_of-self : goal.invariant_of-self
invariant_of-self c =
    rw (c.push_reserved.ensures.items, c.push_reserved.ensures.capacity)
    (kept-entered _ _ _ _ _ _ _ _ _ _ _ c.self.invariant c.len.result c.len-2.result (omega (arith, c.len.ensures)) (omega (arith, c.len-2.ensures)))
