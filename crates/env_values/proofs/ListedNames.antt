-- The names of properties, one after another.
use Rattle.std.proofs.Common.{◌≡◌, List, [], ◌∷◌, map, ap, refl}
use Rattle.std.specs.List.{All}
use Rattle.std.proofs.lemmas.List.Elements.{All-nil, All-cons}
use Rattle.napi_types.specs.declared.body.Body.TheVariants as body
use Rattle.napi_types.specs.parts.Bodies.{NamesNoChild}
use Rattle.napi_types.specs.parts.Graph.{StoreState}
use Rattle.napi_types.specs.parts.Properties.{Property}
use Rattle.napi_types.specs.parts.PropertyCalls.{names_of}
use Rattle.env_values.proofs.HandleValues.{seen_property}

-- names are seen as they are
pub names-seen : (s : StoreState) (ps : List Property) → names_of (map (seen_property s) ps) ≡ names_of ps
names-seen s [] = refl
names-seen s (p ∷ ps) = ap (λ bs. body.Str (record { 0 = p.name }) ∷ bs) (names-seen s ps)

-- a text names no child
pub names-alone : (ps : List Property) → All NamesNoChild (names_of ps)
names-alone [] = All-nil NamesNoChild
names-alone (p ∷ ps) = All-cons NamesNoChild (body.Str (record { 0 = p.name })) (names_of ps) refl (names-alone ps)
