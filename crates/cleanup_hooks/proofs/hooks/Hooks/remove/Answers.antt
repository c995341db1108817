use Rattle.cleanup_hooks.proofs.HookNumbers.{numbered-without}
use Rattle.cleanup_hooks.proofs.hooks.Hooks.remove.Goals as goal

pub invariant_of-self : goal.invariant_of-self
invariant_of-self c = rw c.remove.ensures (numbered-without c.args.ticket.0 c.self.inside.asynchronous c.self.inside.list c.self.invariant)
