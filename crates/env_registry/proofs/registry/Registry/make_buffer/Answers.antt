use Rattle.env_registry.proofs.Agreeing.{agree-plain}
use Rattle.env_registry.proofs.registry.Registry.make_buffer.Goals as goal

pub invariant_of-self : goal.invariant_of-self
invariant_of-self c =
    let s = c.self.inside in
    (c.self.invariant.0, rw c.make_reserved.ensures (agree-plain s.wraps.attachments c.args.value.0 c.args.bytes s.buffers.buffers c.self.invariant.1))
