use Rattle.std.proofs.Common.{sym}
use Rattle.std.proofs.lemmas.List.FromFn.{length-map-range_with_len}
use Rattle.value_store.specs.PropertyMaps.{element_of}
use Rattle.value_store.proofs.elements.Elements.count.Goals as goal

pub returns : goal.returns
returns c = rw (← c.self.view_is) (sym (length-map-range_with_len (element_of c.self.inside.values.entries) 0 c.self.inside.count))
