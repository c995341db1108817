use Rattle.std.proofs.Common.{◌≡◌, ◌+◌, length, arith}
use Rattle.handle_scope.specs.HandleScopes.{handle_places}
use Rattle.handle_scope.proofs.Stacks.{length-handle_places}
use Rattle.handle_scope.proofs.scopes.Scopes.held.Goals as goal

pub returns : goal.returns
returns c =
    let places : length (handle_places c.args.self.now.frames) ≡ length c.self.inside.held.items + length c.self.inside.scopes.items =
    rw (← c.self.view_is) (length-handle_places c.self.inside.frames.items c.self.inside.scopes.items c.self.inside.held.items c.self.inside.handles c.self.inside.numbers c.self.invariant.stack) in
    omega (arith, places, c.len.ensures, c.len-2.ensures)
