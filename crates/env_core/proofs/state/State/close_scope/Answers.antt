use Rattle.env_core.specs.contracts.state.State.{the_view}
use Rattle.env_core.proofs.CoreScopes.{refused-close, accepted-close, state-closed}
use Rattle.env_core.proofs.state.State.close_scope.Goals as goal

pub returns-in-Err : goal.returns-in-Err
returns-in-Err c =
    let s = c.self.inside in
    let k = c.in-Err.ensures in
    rw (← c.self.view_is) (rw c.plain.ensures (refused-close (the_view s) s.store s.scopes c.close_scope.new.self c.args.kind c.args.scope c.in-Err.status k.refusal k.err))

pub invariant_of-self-2 : goal.invariant_of-self-2
invariant_of-self-2 c = (state-closed c.self.inside.store c.self.inside.scopes c.close_scope.new.self c.self.inside.frames c.self.inside.exceptions.pending c.self.invariant.0 c.in_default.ensures.ok, c.self.invariant.1, c.self.invariant.2, c.self.invariant.3)

pub returns : goal.returns
returns c =
    let s = c.self.inside in
    let k = c.in_default.ensures in
    rw (← c.self.view_is) (rw c.plain-2.ensures (accepted-close (the_view s) s.store s.scopes c.close_scope.new.self c.args.kind c.args.scope k.refusal k.ok))
