use Rattle.std.proofs.Common.{Some}
use Rattle.napi_types.specs.environment.Registering.{registered_only}
use Rattle.env_core.proofs.Registered.{begun-dropped}
use Rattle.env_core.proofs.state.State.remove_env_cleanup_hook.Goals as goal

pub invariant_of-self : goal.invariant_of-self
invariant_of-self c =
    let s = c.self.inside in
    let t = registered_only s.registry.parts.book (Some c.in-Some.ticket.0) in
    rw c.remove_hook.ensures.removed (c.self.invariant.0, c.self.invariant.1, begun-dropped s.frames s.registry.parts.book t c.self.invariant.2, c.self.invariant.3)
