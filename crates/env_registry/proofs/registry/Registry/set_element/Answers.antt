use Rattle.env_registry.proofs.Agreeing.{agree-written}
use Rattle.env_registry.proofs.registry.Registry.set_element.Goals as goal

pub invariant_of-self : goal.invariant_of-self
invariant_of-self c =
    let s = c.self.inside in
    (c.self.invariant.0, rw c.set.ensures.written (agree-written s.wraps.attachments c.args.view.0 c.args.at c.args.number s.buffers.buffers c.self.invariant.1))
