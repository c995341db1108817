use Rattle.std.proofs.Common.{◌∙◌, sym}
use Rattle.cleanup_hooks.proofs.KeptHooks.{kept-removed}
use Rattle.cleanup_hooks.proofs.list.HookList.remove.Goals as goal

pub invariant_of-self : goal.invariant_of-self
invariant_of-self c =
    kept-removed _ _ _ _ _ _ c.self.invariant (sym c.remove.ensures.value ∙ c.in-Some.is) c.remove.ensures.updates.0 c.remove-in-Some.ensures.updates.0 c.remove.ensures.ordered
