use Rattle.std.proofs.Common.{option_map}
use Rattle.env_registry.specs.Registering.{finalizer_registration}
use Rattle.env_core.specs.contracts.state.State.{the_view}
use Rattle.env_core.proofs.Registered.{begun-asked, begun-dropped, instance-answers}
use Rattle.env_core.proofs.state.State.set_instance_data.Goals as goal

pub invariant_of-self-2 : goal.invariant_of-self-2
invariant_of-self-2 c =
    let s = c.self.inside in
    rw c.in_ok-replaced.ensures.set
    (c.self.invariant.0, c.self.invariant.1, begun-asked s.frames _ (option_map finalizer_registration c.finalizer_if-asked.result) (begun-dropped s.frames s.registry.parts.book _ c.self.invariant.2), c.self.invariant.3)

pub returns-clause-ok : goal.returns-clause-ok
returns-clause-ok c =
    let s = c.self.inside in
    let k = c.in_ok-replaced.ensures in
    rw (← c.self.view_is)
    (rw (k.set, k.dropped, k.made)
    (instance-answers (the_view s) c.caller-addon.result c.args.payload c.args.hint c.args.finalizer (option_map finalizer_registration c.finalizer_if-asked.result)
    (rw (← c.self.view_is) at c.caller-addon.ensures) (rw (← c.self.view_is) at c.finalizer_if-asked.ensures)))
