use Rattle.env_core.proofs.Beginning.{begun-left}
use Rattle.env_core.proofs.Ending.{state-left}
use Rattle.env_core.proofs.state.State.give_nothing.Goals as goal

pub invariant_of-self : goal.invariant_of-self
invariant_of-self c =
    let s = c.self.inside in
    rw c.note.ensures
    (state-left s.store s.scopes c.leave_frame.new.self s.frames c.pop.new.self s.exceptions.pending s.exceptions.pending c.self.invariant.0 c.leave_frame.ensures c.pop.ensures c.self.invariant.0.pending, c.self.invariant.1, begun-left s.frames c.pop.new.self s.registry.parts.book c.pop.ensures c.self.invariant.2, c.self.invariant.3)
