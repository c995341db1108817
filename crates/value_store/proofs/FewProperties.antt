-- Laws on properties that are looked for along a list of entries.
use Rattle.std.proofs.Common.{◌≡◌, ℕ, zero, suc, ◌+◌, ◌<◌, nat_eq, nat_lt, Bool, true, false, cond, not, List, [], ◌∷◌, ◌++◌, length, get_or, slice_get, set, take, Option, Some, None, OnOk, OnErr, is_some, option_map, refl, ap, sym, subst, ◌∙◌, arith}
use Rattle.std.specs.declared.result.Result.{Result}
use Rattle.std.specs.declared.result.Result.TheVariants.{Ok, Err}
use Rattle.std.specs.List.{IsDistinct, AllByRecursion, prefix_len, position, remove}
use Rattle.std.specs.Map.{keys_of, values_of, lookup, remove_entry}
use Rattle.std.proofs.lemmas.Map.Keys.{IsDistinct-head, IsDistinct-tail}
use Rattle.indexmap.specs.IndexMap.{insert_entry, set_value_at}
use Rattle.indexmap.proofs.MapLemmas.{Found, Found-position, some_index, absent_from_lookup, insert_entry-first, insert_entry-absent, remove_entry-first}
use Rattle.napi_types.specs.declared.ids.ValueId.{ValueId}
use Rattle.napi_types.specs.parts.Properties.{Property, HasDistinctNames, property_at}
use Rattle.napi_types.proofs.plain.Found.{turned}
use Rattle.value_store.specs.PropertyMaps.{listed_properties}
use Rattle.value_store.proofs.PropertyMaps.{listed_properties-insert_entry, listed_properties-remove_entry, property_at-listed_properties, distinct_names, names-listed}
use Rattle.value_store.proofs.PropertyNames.{distinct-property_set, distinct-property_removed}

-- THE PLACE OF A NAME
-- a place among entries is one among their keys
place-keys : (t : ℕ → Bool) (es : List (ℕ × ValueId)) → position (λ e. t e.0) es ≡ position t (keys_of es)
place-keys t es =
    ap (λ n. cond (nat_lt n (length es)) (Some n) None) (front t es)
    ∙ ap (λ n. cond (nat_lt (prefix_len (λ k. not (t k)) (keys_of es)) n) (Some (prefix_len (λ k. not (t k)) (keys_of es))) None) (many es)
  where
    front : (t : ℕ → Bool) (es : List (ℕ × ValueId)) → prefix_len (λ e. not (t e.0)) es ≡ prefix_len (λ k. not (t k)) (keys_of es)
    front t [] = refl
    front t (e ∷ es) = ap (λ n. cond (not (t e.0)) (1 + n) 0) (front t es)

    many : (es : List (ℕ × ValueId)) → length es ≡ length (keys_of es)
    many [] = refl
    many (e ∷ es) = ap suc (many es)

value-at : (es : List (ℕ × ValueId)) (at : ℕ) (d : ℕ × ValueId) → at < length es → slice_get (values_of es) at ≡ Some (get_or es at d).1
value-at [] at d less = absurd (omega arith)
value-at (e ∷ es) zero d less = refl
value-at (e ∷ es) (suc at) d less = value-at es at d (omega arith)

set-value : (to : ValueId) (es : List (ℕ × ValueId)) (at : ℕ) (d : ℕ × ValueId) → set es at ((get_or es at d).0, to) ≡ set_value_at es at to
set-value to [] at d = refl
set-value to (e ∷ es) zero d = refl
set-value to (e ∷ es) (suc at) d = ap (λ l. e ∷ l) (set-value to es at d)

module _ (name : ℕ) (es : List (ℕ × ValueId)) (place : ℕ) (is : Some place ≡ position (λ e. nat_eq name e.0) es) where
  there : Found (nat_eq name) es place
  there = Found-position (nat_eq name) es place (sym (place-keys (nat_eq name) es) ∙ sym is)

  -- what stands at the place of a name is what the name has
  pub place-lookup : (d : ℕ × ValueId) → Some (get_or es place d).1 ≡ lookup (nat_eq name) es
  place-lookup d = sym (there.value ∙ value-at es place d there.within)

  pub place-set : (to : ValueId) (d : ℕ × ValueId) → set es place ((get_or es place d).0, to) ≡ insert_entry nat_eq es name to
  place-set to d = set-value to es place d ∙ sym (insert_entry-first nat_eq name to es place there.first)

  pub place-remove : remove es place ≡ remove_entry (nat_eq name) es
  place-remove = sym (remove_entry-first (nat_eq name) es place there.first)

  pub place-some : true ≡ is_some (lookup (nat_eq name) es)
  place-some = ap is_some (place-lookup (0, record { 0 = 0 }))

pub without-absent : (name : ℕ) (es : List (ℕ × ValueId)) → None ≡ lookup (nat_eq name) es → es ≡ remove_entry (nat_eq name) es
without-absent name [] h = refl
without-absent name (e ∷ es) h = by (without-absent name es) (nat_eq name e.0) h
  where
    by : (None ≡ lookup (nat_eq name) es → es ≡ remove_entry (nat_eq name) es) → (b : Bool) → None ≡ cond b (Some e.1) (lookup (nat_eq name) es) → e ∷ es ≡ cond b es (e ∷ remove_entry (nat_eq name) es)
    by rest true h = let no : ⊥ = cc in absurd no
    by rest false h = ap (λ l. e ∷ l) (rest h)

module _ (name : ℕ) (es : List (ℕ × ValueId)) (is : None ≡ position (λ e. nat_eq name e.0) es) where
  -- a name that has no place has nothing
  pub none-lookup : None ≡ lookup (nat_eq name) es
  none-lookup = by (lookup (nat_eq name) es) (ap is_some (is ∙ place-keys (nat_eq name) es) ∙ some_index (nat_eq name) es)
    where
      by : (o : Option ValueId) → false ≡ is_some o → None ≡ o
      by None h = refl
      by (Some v) h = let no : ⊥ = cc in absurd no

  pub none-insert : (to : ValueId) → es ++ (name, to) ∷ [] ≡ insert_entry nat_eq es name to
  none-insert to = sym (insert_entry-absent nat_eq name to es (absent_from_lookup (nat_eq name) es (sym none-lookup)))

  pub none-remove : es ≡ remove_entry (nat_eq name) es
  none-remove = without-absent name es none-lookup

  pub none-some : false ≡ is_some (lookup (nat_eq name) es)
  none-some = ap is_some none-lookup

-- NAMES STAND ONCE
pub distinct-insert_entry : (name : ℕ) (to : ValueId) (es : List (ℕ × ValueId)) → IsDistinct nat_eq (keys_of es) → IsDistinct nat_eq (keys_of (insert_entry nat_eq es name to))
distinct-insert_entry name to es h =
    subst (λ (ks : List ℕ). IsDistinct nat_eq ks) (names-listed (insert_entry nat_eq es name to))
    (subst (λ (ps : List Property). HasDistinctNames ps) (sym (listed_properties-insert_entry name to es)) (distinct-property_set name to.0 (listed_properties es) (distinct_names es h)))

pub distinct-remove_entry : (name : ℕ) (es : List (ℕ × ValueId)) → IsDistinct nat_eq (keys_of es) → IsDistinct nat_eq (keys_of (remove_entry (nat_eq name) es))
distinct-remove_entry name es h =
    subst (λ (ks : List ℕ). IsDistinct nat_eq ks) (names-listed (remove_entry (nat_eq name) es))
    (subst (λ (ps : List Property). HasDistinctNames ps) (sym (listed_properties-remove_entry name es h)) (distinct-property_removed name (listed_properties es) (distinct_names es h)))

-- names stand once after a set that may want memory
pub distinct-set : {A E : Type 0} (r : Result A E) (name : ℕ) (to : ValueId) (es fs : List (ℕ × ValueId)) → OnOk r (fs ≡ insert_entry nat_eq es name to) → OnErr r (fs ≡ es) → IsDistinct nat_eq (keys_of es) → IsDistinct nat_eq (keys_of fs)
distinct-set (Ok a) name to es fs ok err h = rw ok (distinct-insert_entry name to es h)
distinct-set (Err e) name to es fs ok err h = rw err h

-- ENTRIES THAT GO INTO A MAP
-- each name is new to those before it, so it goes last
pub take-insert_entry : (es : List (ℕ × ValueId)) (at : ℕ) (d : ℕ × ValueId) → IsDistinct nat_eq (keys_of es) → at < length es → insert_entry nat_eq (take at es) (get_or es at d).0 (get_or es at d).1 ≡ take (suc at) es
take-insert_entry [] at d h less = absurd (omega arith)
take-insert_entry (e ∷ es) zero d h less = refl
take-insert_entry (e ∷ es) (suc at) d h less =
    rw (turned (get_or es at d).0 e.0, later es at (IsDistinct-head nat_eq e.0 (keys_of es) h) (omega arith)) (ap (λ l. e ∷ l) (take-insert_entry es at d (IsDistinct-tail nat_eq e.0 (keys_of es) h) (omega arith)))
  where
    later : (fs : List (ℕ × ValueId)) (at : ℕ) → AllByRecursion (λ y. nat_eq e.0 y ≡ false) (keys_of fs) → at < length fs → nat_eq e.0 (get_or fs at d).0 ≡ false
    later [] at h less = absurd (omega arith)
    later (f ∷ fs) zero h less = h.0
    later (f ∷ fs) (suc at) h less = later fs at h.1 (omega arith)

entry-at : (es : List (ℕ × ValueId)) (at : ℕ) (e : ℕ × ValueId) → slice_get es at ≡ Some e → (get_or es at e ≡ e) × (at < length es)
entry-at [] at e is = let no : ⊥ = cc in absurd no
entry-at (f ∷ es) zero e is = (cc, omega arith)
entry-at (f ∷ es) (suc at) e is = let rest = entry-at es at e is in (rest.0, omega (arith, rest.1))

pub next-insert_entry : (es : List (ℕ × ValueId)) (at : ℕ) (e : ℕ × ValueId) → IsDistinct nat_eq (keys_of es) → slice_get es at ≡ Some e → insert_entry nat_eq (take at es) e.0 e.1 ≡ take (at + 1) es
next-insert_entry es at e h is =
    let there = entry-at es at e is in
    let next : suc at ≡ at + 1 = omega arith in
    ap (λ x. insert_entry nat_eq (take at es) x.0 x.1) (sym there.0) ∙ take-insert_entry es at e h there.1 ∙ ap (λ n. take n es) next

-- A NAME THAT IS ABSENT
pub absent-listed : (name : ℕ) (es : List (ℕ × ValueId)) → lookup (nat_eq name) es ≡ None → property_at name (listed_properties es) ≡ None
absent-listed name es h = property_at-listed_properties name es ∙ ap (option_map (λ (v : ValueId). v.0)) h

pub absent-unplaced : (name : ℕ) (es : List (ℕ × ValueId)) → is_some (position (λ e. nat_eq name e.0) es) ≡ false → property_at name (listed_properties es) ≡ None
absent-unplaced name es h =
    absent-listed name es (by (lookup (nat_eq name) es) (sym (some_index (nat_eq name) es) ∙ sym (ap is_some (place-keys (nat_eq name) es)) ∙ h))
  where
    by : (o : Option ValueId) → is_some o ≡ false → o ≡ None
    by None h = refl
    by (Some v) h = let no : ⊥ = cc in absurd no
