use Rattle.deferred.proofs.Views.{seen, maps-of}
use Rattle.deferred.proofs.deferreds.Deferreds.invariant.Goals as goal

pub returns : goal.returns
returns c = maps-of c.self.inside.promises.entries c.self.inside.deferreds.entries c.self.inside.made _ (seen c.self.view_is)
