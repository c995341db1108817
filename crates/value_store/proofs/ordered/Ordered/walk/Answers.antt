use Rattle.std.proofs.Common.{◌∙◌, ap}
use Rattle.std.specs.Map.{values_of}
use Rattle.value_store.proofs.OrderedMaps.{all-there}
use Rattle.value_store.proofs.ordered.Ordered.walk.Goals as goal

pub returns : goal.returns
returns c = ap values_of (all-there c.self.inside.by_number.entries) ∙ c.self.view_is
