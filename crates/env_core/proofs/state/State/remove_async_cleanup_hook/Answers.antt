use Rattle.napi_types.specs.environment.Registering.{registered_only}
use Rattle.napi_types.specs.parts.AsyncHooks.{set_ticket}
use Rattle.env_core.proofs.Registered.{begun-dropped}
use Rattle.env_core.proofs.state.State.remove_async_cleanup_hook.Goals as goal

pub invariant_of-self-2 : goal.invariant_of-self-2
invariant_of-self-2 c =
    let s = c.self.inside in
    let t = registered_only s.registry.parts.book (set_ticket c.args.hook.0 s.registry.parts.async_hooks) in
    rw c.in-Ok.ensures.removed (c.self.invariant.0, c.self.invariant.1, begun-dropped s.frames s.registry.parts.book t c.self.invariant.2, c.self.invariant.3)
