use Rattle.std.proofs.Common.{arith}
use Rattle.napi_types.specs.environment.HookCalls.{hook_registration}
use Rattle.napi_types.proofs.environment.HookedSteps.{hooks-within, asyncs-within}
use Rattle.env_core.specs.contracts.state.State.{the_view}
use Rattle.env_core.proofs.Beginning.{begun-registered}
use Rattle.env_core.proofs.state.State.add_env_cleanup_hook.Goals as goal

pub add_hook-requires-clause-rising : goal.add_hook-requires-clause-rising
add_hook-requires-clause-rising c = λ k h inside. omega (arith, hooks-within (the_view c.self.inside) (rw (← c.self.view_is) at c.requires.hooked) k h inside)

pub add_hook-requires-clause-given : goal.add_hook-requires-clause-given
add_hook-requires-clause-given c = λ k h inside. omega (arith, asyncs-within (the_view c.self.inside) (rw (← c.self.view_is) at c.requires.hooked) k h inside)

pub invariant_of-self-2 : goal.invariant_of-self-2
invariant_of-self-2 c =
    let s = c.self.inside in
    let r = hook_registration c.caller-addon.result c.args.entry c.args.argument 0 in
    rw c.in_ok-duty.ensures.added (c.self.invariant.0, c.self.invariant.1, begun-registered s.frames s.registry.parts.book r c.self.invariant.2, c.self.invariant.3)
