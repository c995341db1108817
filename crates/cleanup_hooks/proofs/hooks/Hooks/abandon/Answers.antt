use Rattle.cleanup_hooks.proofs.HookNumbers.{numbered-abandoned}
use Rattle.cleanup_hooks.proofs.hooks.Hooks.abandon.Goals as goal

pub invariant_of-self : goal.invariant_of-self
invariant_of-self c = rw c.abandon.ensures (numbered-abandoned c.self.inside.asynchronous c.self.inside.list c.self.invariant)
