use Rattle.std.proofs.Common.{None}
use Rattle.env_registry.proofs.Agreeing.{agree-changed}
use Rattle.env_registry.proofs.registry.Registry.detach_buffer.Goals as goal

pub invariant_of-self : goal.invariant_of-self
invariant_of-self c =
    let s = c.self.inside in
    (c.self.invariant.0, rw c.detach.ensures (agree-changed s.wraps.attachments (λ bytes. None) c.args.value.0 s.buffers.buffers c.self.invariant.1))
