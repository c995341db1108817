use Rattle.env_core.proofs.CoreExceptions.{state-taken}
use Rattle.env_core.proofs.state.State.take_pending.Goals as goal

pub invariant_of-self-2 : goal.invariant_of-self-2
invariant_of-self-2 c =
    let s = c.self.inside in
    rw c.clear.ensures.cleared
    (state-taken s.store s.scopes c.issue.new.self s.frames s.exceptions.pending c.or_undefined-value.result.0 c.self.invariant.0 c.or_undefined-value.ensures.live c.in_ok-handle.ensures.ok, c.self.invariant.1, c.self.invariant.2, c.self.invariant.3)
