use Rattle.std.proofs.Common.{true}
use Rattle.napi_types.proofs.parts.Moves.{Falls}
use Rattle.env_core.proofs.Beginning.{begun-still-moved}
use Rattle.env_core.proofs.state.State.enter.Goals as goal

pub invariant_of-self : goal.invariant_of-self
invariant_of-self c =
    let s = c.self.inside in
    rw c.all_due.ensures (c.self.invariant.0, c.self.invariant.1, begun-still-moved s.frames Falls (λ h. cc) s.registry.parts.book (λ n. true) c.self.invariant.2, c.self.invariant.3)
