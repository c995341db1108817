-- Laws on the map from names to values as a list of properties.
use Rattle.std.proofs.Common.{◌≡◌, ◌==◌, nat_eq, Bool, true, false, cond, not, List, [], ◌∷◌, map, Option, Some, None, option_map, is_some, refl, ap, sym, if◌then◌else◌, ℕ}
use Rattle.std.specs.List.{IsDistinct, AllByRecursion}
use Rattle.std.specs.Map.{keys_of, lookup, remove_entry}
use Rattle.std.proofs.lemmas.Map.Keys.{IsDistinct-head, IsDistinct-tail}
use borrow.Author.Tests.{eqb-true}
use Rattle.indexmap.specs.IndexMap.{insert_entry}
use Rattle.napi_types.specs.declared.ids.ValueId.{ValueId}
use Rattle.napi_types.specs.plain.Lists.{found}
use Rattle.napi_types.specs.parts.Properties.{Property, property_at, property_set, property_removed, HasDistinctNames}
use Rattle.napi_types.proofs.plain.Found.{turned}
use Rattle.value_store.specs.PropertyMaps.{property_of, listed_properties}

-- an insert into the map is a property that is set
pub listed_properties-insert_entry : (name : ℕ) (to : ValueId) (es : List (ℕ × ValueId)) → listed_properties (insert_entry nat_eq es name to) ≡ property_set name to.0 (listed_properties es)
listed_properties-insert_entry name to [] = refl
listed_properties-insert_entry name to (e ∷ es) = rw (turned name e.0) (by (listed_properties-insert_entry name to es) (e.0 == name))
  where
    by : listed_properties (insert_entry nat_eq es name to) ≡ property_set name to.0 (listed_properties es) → (b : Bool) → listed_properties (if b then (e.0, to) ∷ es else e ∷ insert_entry nat_eq es name to) ≡ cond b (record { name = e.0; value = to.0 } ∷ listed_properties es) (property_of e ∷ property_set name to.0 (listed_properties es))
    by rest true = refl
    by rest false = ap (λ l. property_of e ∷ l) rest

-- what the map has at a name is the property's value
pub property_at-listed_properties : (name : ℕ) (es : List (ℕ × ValueId)) → property_at name (listed_properties es) ≡ option_map (λ v. v.0) (lookup (nat_eq name) es)
property_at-listed_properties name [] = refl
property_at-listed_properties name (e ∷ es) = rw (turned name e.0) (by (property_at-listed_properties name es) (e.0 == name))
  where
    by : property_at name (listed_properties es) ≡ option_map (λ v. v.0) (lookup (nat_eq name) es) → (b : Bool) → option_map (λ (p : Property). p.value) (cond b (Some (property_of e)) (found (λ (p : Property). p.name) name (listed_properties es))) ≡ option_map (λ (v : ValueId). v.0) (cond b (Some e.1) (lookup (nat_eq name) es))
    by rest true = refl
    by rest false = rest

-- where no name is the one removed, all properties stay
property_removed-absent : (name : ℕ) (es : List (ℕ × ValueId)) → AllByRecursion (λ y. nat_eq name y ≡ false) (keys_of es) → property_removed name (listed_properties es) ≡ listed_properties es
property_removed-absent name [] h = refl
property_removed-absent name (e ∷ es) h = rw (turned e.0 name, h.0) (ap (λ l. property_of e ∷ l) (property_removed-absent name es h.1))

-- an entry taken out of the map is a property removed
pub listed_properties-remove_entry : (name : ℕ) (es : List (ℕ × ValueId)) → IsDistinct nat_eq (keys_of es) → listed_properties (remove_entry (nat_eq name) es) ≡ property_removed name (listed_properties es)
listed_properties-remove_entry name [] h = refl
listed_properties-remove_entry name (e ∷ es) h = rw (turned e.0 name) (by (listed_properties-remove_entry name es (IsDistinct-tail nat_eq e.0 (keys_of es) h)) (nat_eq name e.0) refl)
  where
    by : listed_properties (remove_entry (nat_eq name) es) ≡ property_removed name (listed_properties es) → (b : Bool) → nat_eq name e.0 ≡ b → listed_properties (cond b es (e ∷ remove_entry (nat_eq name) es)) ≡ cond (not b) (property_of e ∷ property_removed name (listed_properties es)) (property_removed name (listed_properties es))
    by rest true same = let is : name ≡ e.0 = eqb-true name e.0 same in sym (rw is (property_removed-absent e.0 es (IsDistinct-head nat_eq e.0 (keys_of es) h)))
    by rest false same = ap (λ l. property_of e ∷ l) rest

-- the names of the properties are the keys of the map
pub names-listed : (es : List (ℕ × ValueId)) → map (λ (p : Property). p.name) (listed_properties es) ≡ keys_of es
names-listed [] = refl
names-listed (e ∷ es) = ap (λ l. e.0 ∷ l) (names-listed es)

-- no property's name stands twice, as no key of the map does
pub distinct_names : (es : List (ℕ × ValueId)) → IsDistinct nat_eq (keys_of es) → HasDistinctNames (listed_properties es)
distinct_names es h = rw (names-listed es) h

pub is_some-option_map : {A B : Type 0} (f : A → B) (o : Option A) → is_some (option_map f o) ≡ is_some o
is_some-option_map f None = refl
is_some-option_map f (Some x) = refl
