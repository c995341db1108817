use Rattle.std.proofs.Common.{◌∙◌, ap, sym, length}
use Rattle.napi_types.specs.parts.Graph.{StoreState, live}
use Rattle.value_store.proofs.RecordValues.{many-live}
use Rattle.value_store.proofs.store.Store.live_count.Goals as goal

pub returns : goal.returns
returns c = c.count.ensures ∙ sym (many-live c.self.inside.values c.self.inside.made) ∙ ap (λ (s : StoreState). length (live s)) c.self.view_is
