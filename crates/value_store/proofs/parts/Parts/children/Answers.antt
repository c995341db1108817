use Rattle.std.proofs.Common.{◌≡◌, ◌∙◌, map, length, option_map, option_to_list, ap}
use Rattle.std.specs.List.{filter_map}
use Rattle.std.proofs.lemmas.List.{length-map}
use Rattle.napi_types.specs.declared.ids.ValueId.{ValueId}
use Rattle.napi_types.specs.parts.Properties.{Property}
use Rattle.value_store.specs.PropertyMaps.{ListedParts, numbers_in}
use Rattle.value_store.proofs.Linked.{beside-same, beside-many}
use Rattle.value_store.proofs.parts.Parts.children.Goals as goal

pub returns-clause-same : goal.returns-clause-same
returns-clause-same c =
    let seen : c.self.inside.properties ≡ c.args.self.now.properties = ap (λ (s : ListedParts). s.properties) c.self.view_is in
    rw (c.of.ensures, c.walk.ensures, ← seen)
    (beside-same (option_to_list (option_map (λ (v : ValueId). v.0) c.args.link)) (map (λ (p : Property). p.value) c.self.inside.properties) (numbers_in c.elements_set.result) (filter_map (λ e. e) c.args.self.now.elements) c.elements_set.ensures.same)

pub returns-clause-many : goal.returns-clause-many
returns-clause-many c =
    let seen : c.self.inside.properties ≡ c.args.self.now.properties = ap (λ (s : ListedParts). s.properties) c.self.view_is in
    rw (c.of.ensures, c.walk.ensures, ← seen)
    (beside-many (option_to_list (option_map (λ (v : ValueId). v.0) c.args.link)) (map (λ (p : Property). p.value) c.self.inside.properties) (numbers_in c.elements_set.result) (filter_map (λ e. e) c.args.self.now.elements)
    (length-map c.elements_set.result (λ e. e.1.0) ∙ c.elements_set.ensures.many))
