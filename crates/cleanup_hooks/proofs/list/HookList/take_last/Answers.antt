use Rattle.cleanup_hooks.proofs.KeptHooks.{kept-removed}
use Rattle.cleanup_hooks.proofs.list.HookList.take_last.Goals as goal

pub invariant_of-self-2 : goal.invariant_of-self-2
invariant_of-self-2 c =
    kept-removed _ _ _ _ _ _ c.self.invariant c.in_ok-ticket.ensures.value c.in_ok-ticket.ensures.updates.0 c.remove.ensures.updates.0 c.in_ok-ticket.ensures.ordered
