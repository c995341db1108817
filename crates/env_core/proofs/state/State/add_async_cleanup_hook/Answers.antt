use Rattle.std.proofs.Common.{arith}
use Rattle.napi_types.proofs.environment.HookedSteps.{hooks-within, asyncs-within}
use Rattle.env_core.specs.contracts.state.State.{the_view}
use Rattle.env_core.proofs.AsyncHooking.{asyncs-few}
use Rattle.env_core.proofs.state.State.add_async_cleanup_hook.Goals as goal

pub add_async_hook-requires-clause-rising : goal.add_async_hook-requires-clause-rising
add_async_hook-requires-clause-rising c = λ k h inside. omega (arith, hooks-within (the_view c.self.inside) (rw (← c.self.view_is) at c.requires.hooked) k h inside)

pub add_async_hook-requires-clause-given : goal.add_async_hook-requires-clause-given
add_async_hook-requires-clause-given c = λ k h inside. omega (arith, asyncs-within (the_view c.self.inside) (rw (← c.self.view_is) at c.requires.hooked) k h inside)

pub add_async_hook-requires-clause-few_hooks : goal.add_async_hook-requires-clause-few_hooks
add_async_hook-requires-clause-few_hooks c =
    let few = asyncs-few (the_view c.self.inside) (rw (← c.self.view_is) at c.requires.hooked) in
    let tickets = rw (← c.self.view_is) at c.requires.tickets in
    omega (arith, few, tickets)
