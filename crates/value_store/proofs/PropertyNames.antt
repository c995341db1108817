-- No name stands twice among a value's properties, whatever is set and removed.
use Rattle.std.proofs.Common.{◌≡◌, ℕ, ◌==◌, nat_eq, Bool, true, false, cond, not, List, [], ◌∷◌, map, refl}
use Rattle.std.specs.List.{IsDistinct, AllByRecursion}
use Rattle.std.proofs.lemmas.Map.Keys.{IsDistinct-head, IsDistinct-tail, IsDistinct-cons}
use Rattle.napi_types.specs.parts.Properties.{Property, property_set, property_removed, HasDistinctNames}

abbrev name_numbers : List Property → List ℕ
name_numbers ps = map (λ p. p.name) ps

abbrev IsApart : ℕ → List ℕ → Type 0
IsApart x names = AllByRecursion (λ y. nat_eq x y ≡ false) names

set-apart : (x name to : ℕ) (ps : List Property) → nat_eq x name ≡ false → IsApart x (name_numbers ps) → IsApart x (name_numbers (property_set name to ps))
set-apart x name to [] new h = (new, h)
set-apart x name to (p ∷ ps) new h = by (set-apart x name to ps new h.1) (p.name == name)
  where
    by : IsApart x (name_numbers (property_set name to ps)) → (b : Bool) → IsApart x (name_numbers (cond b (record p { value = to } ∷ ps) (p ∷ property_set name to ps)))
    by rest true = h
    by rest false = (h.0, rest)

pub distinct-property_set : (name to : ℕ) (ps : List Property) → HasDistinctNames ps → HasDistinctNames (property_set name to ps)
distinct-property_set name to [] h = IsDistinct-cons nat_eq name [] tt h
distinct-property_set name to (p ∷ ps) h = by (distinct-property_set name to ps (IsDistinct-tail nat_eq p.name (name_numbers ps) h)) (p.name == name) refl
  where
    by : HasDistinctNames (property_set name to ps) → (b : Bool) → (p.name == name) ≡ b → HasDistinctNames (cond b (record p { value = to } ∷ ps) (p ∷ property_set name to ps))
    by rest true e = h
    by rest false e = IsDistinct-cons nat_eq p.name (name_numbers (property_set name to ps)) (set-apart p.name name to ps e (IsDistinct-head nat_eq p.name (name_numbers ps) h)) rest

removed-apart : (x name : ℕ) (ps : List Property) → IsApart x (name_numbers ps) → IsApart x (name_numbers (property_removed name ps))
removed-apart x name [] h = h
removed-apart x name (p ∷ ps) h = by (removed-apart x name ps h.1) (not (p.name == name))
  where
    by : IsApart x (name_numbers (property_removed name ps)) → (b : Bool) → IsApart x (name_numbers (cond b (p ∷ property_removed name ps) (property_removed name ps)))
    by rest true = (h.0, rest)
    by rest false = rest

pub distinct-property_removed : (name : ℕ) (ps : List Property) → HasDistinctNames ps → HasDistinctNames (property_removed name ps)
distinct-property_removed name [] h = h
distinct-property_removed name (p ∷ ps) h = by (distinct-property_removed name ps (IsDistinct-tail nat_eq p.name (name_numbers ps) h)) (not (p.name == name))
  where
    by : HasDistinctNames (property_removed name ps) → (b : Bool) → HasDistinctNames (cond b (p ∷ property_removed name ps) (property_removed name ps))
    by rest true = IsDistinct-cons nat_eq p.name (name_numbers (property_removed name ps)) (removed-apart p.name name ps (IsDistinct-head nat_eq p.name (name_numbers ps) h)) rest
    by rest false = rest

pub distinct-none : HasDistinctNames []
unfolding IsDistinct
distinct-none = tt
