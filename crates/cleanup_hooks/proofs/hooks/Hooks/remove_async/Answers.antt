use Rattle.cleanup_hooks.proofs.HookNumbers.{numbered-without, numbered-removed}
use Rattle.cleanup_hooks.proofs.hooks.Hooks.remove_async.Goals as goal

pub invariant_of-self-in-Some : goal.invariant_of-self-in-Some
invariant_of-self-in-Some c =
    rw (c.remove-in-Some.ensures, c.in_ok-told.ensures.removed)
    (numbered-without c.in-Some.ticket.0 _ c.self.inside.list (numbered-removed c.args.id.0 c.self.inside.asynchronous c.self.inside.list c.self.invariant))

pub invariant_of-self-in_default : goal.invariant_of-self-in_default
invariant_of-self-in_default c = rw c.in_ok-told.ensures.removed (numbered-removed c.args.id.0 c.self.inside.asynchronous c.self.inside.list c.self.invariant)
