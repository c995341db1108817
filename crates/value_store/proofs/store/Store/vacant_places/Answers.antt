use Rattle.std.proofs.Common.{◌≡◌, ◌∙◌, Bool, List, IfOk, map, not, is_some, ap, sym, subst}
use Rattle.napi_types.specs.parts.Graph.{StoreState}
use Rattle.value_store.proofs.RecordValues.{vacant-held}
use Rattle.value_store.proofs.store.Store.vacant_places.Goals as goal

pub returns-clause-vacant : goal.returns-clause-vacant
returns-clause-vacant c =
    subst (λ (l : List Bool). IfOk c.vacant_places.result (λ marks. marks ≡ l))
    (sym (vacant-held c.self.inside.values c.self.inside.made) ∙ ap (λ (s : StoreState). map (λ place. not (is_some place)) s.places) c.self.view_is)
    c.vacant_places.ensures
