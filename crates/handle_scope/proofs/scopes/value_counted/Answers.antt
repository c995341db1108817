use Rattle.std.proofs.Common.{arith}
use Rattle.handle_scope.proofs.Lookups.{value_in-there}
use Rattle.handle_scope.proofs.scopes.value_counted.Goals as goal

pub returns-then-there-handle : goal.returns-then-there-handle
returns-then-there-handle c =
    let read = c.in_ok-there.ensures.lookup in
    value_in-there c.args.held.now c.args.handle _ c.in_ok-there.there.now c.requires read.3.0 (λ d. read.4 (omega arith) d) c.if-there-handle.true
