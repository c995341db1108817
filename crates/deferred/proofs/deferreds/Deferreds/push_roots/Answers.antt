use Rattle.deferred.proofs.Views.{seen, roots-pushed}
use Rattle.deferred.proofs.deferreds.Deferreds.push_roots.Goals as goal

pub returns : goal.returns
returns c = roots-pushed _ _ _ _ _ (seen c.self.view_is) c.self.invariant _ _ c.push_roots.result c.push_roots.ensures.pushed c.push_roots.ensures.once
