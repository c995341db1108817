-- The references of the map are the rows that are held.
use Rattle.std.proofs.Common.{◌≡◌, ◌∙◌, ℕ, ◌==◌, nat_lt, nat_eq, ◌∷◌, ◌++◌, Bool, true, false, cond, List, [], length, map, filter, Option, Some, None, IsSome, is_some, option_map, refl, ap, sym, subst}
use Rattle.std.specs.List.{IsDistinct}
use Rattle.std.proofs.lemmas.List.{length-map, map-append}
use Rattle.generation_slab.specs.HeldPlaces.{HeldValue, HeldPlaces, value_of, held}
use Rattle.generation_slab.specs.HeldPlaces as slab
use Rattle.napi_types.specs.declared.ids.ValueId.{ValueId}
use Rattle.napi_types.specs.plain.Lists.{found, as_map, with_record}
use Rattle.napi_types.specs.parts.References.{Reference, ReferenceMap, reference_at, has_reference, referred_value, reference_count}
use Rattle.napi_types.proofs.plain.Found.{found-as_map, found-number, has-found}
use Rattle.napi_types.proofs.plain.Maps.{map-filter}
use Rattle.napi_reference.specs.declared.rows.ReferenceRow.{ReferenceRow}
use Rattle.napi_reference.specs.ReferencePlaces.{ReferencePlaces, map_of, standing, EachReferenceStandsOnce}
use Rattle.napi_reference.specs.ReferenceRows.{reference_of, reference_held, references_in}

abbrev pub number : Reference → ℕ
number r = r.number

standing-held : (ps : List (Option (HeldValue ReferenceRow))) → standing (map (option_map reference_held) ps) ≡ map reference_held (slab.standing ps)
standing-held [] = refl
standing-held (None ∷ ps) = standing-held ps
standing-held (Some h ∷ ps) = ap (λ rs. reference_held h ∷ rs) (standing-held ps)

pub references-more : (h : HeldValue ReferenceRow) (hs : List (HeldValue ReferenceRow)) → map reference_held (with_record (λ g. g.number) h hs) ≡ with_record number (reference_held h) (map reference_held hs)
references-more h hs =
    map-append reference_held (filter (λ g. nat_lt g.number h.number) hs) (h ∷ filter (λ g. nat_lt h.number g.number) hs)
    ∙ ap (λ rs. rs ++ reference_held h ∷ map reference_held (filter (λ g. nat_lt h.number g.number) hs))
    (map-filter reference_held (λ (g : HeldValue ReferenceRow). nat_lt g.number h.number) (λ (r : Reference). nat_lt r.number h.number) (λ g. refl) hs)
    ∙ ap (λ rs. filter (λ (r : Reference). nat_lt r.number h.number) (map reference_held hs) ++ reference_held h ∷ rs)
    (map-filter reference_held (λ (g : HeldValue ReferenceRow). nat_lt h.number g.number) (λ (r : Reference). nat_lt h.number r.number) (λ g. refl) hs)

references-mapped : (hs : List (HeldValue ReferenceRow)) → as_map number (map reference_held hs) ≡ map reference_held (as_map (λ g. g.number) hs)
references-mapped [] = refl
references-mapped (h ∷ hs) = ap (with_record number (reference_held h)) (references-mapped hs) ∙ sym (references-more h (as_map (λ g. g.number) hs))

-- the map's references are those that the slab holds
pub rows-held : (s : HeldPlaces ReferenceRow) → as_map number (standing (map (option_map reference_held) s.places)) ≡ map reference_held (held s)
rows-held s = ap (as_map number) (standing-held s.places) ∙ references-mapped (slab.standing s.places)

numbers-held : (hs : List (HeldValue ReferenceRow)) → map number (map reference_held hs) ≡ map (λ h. h.number) hs
numbers-held [] = refl
numbers-held (h ∷ hs) = ap (λ ns. h.number ∷ ns) (numbers-held hs)

-- so each stands at exactly one place
pub stands-once : (s : HeldPlaces ReferenceRow) → IsDistinct nat_eq (map (λ h. h.number) (slab.standing s.places)) → EachReferenceStandsOnce (references_in s)
stands-once s once = record {
  there = λ n. found-as_map number n (standing (map (option_map reference_held) s.places));
  apart =
      subst (λ (rs : List Reference). IsDistinct nat_eq (map number rs)) (sym (standing-held s.places))
      (subst (λ (ns : List ℕ). IsDistinct nat_eq ns) (sym (numbers-held (slab.standing s.places))) once);
}

pub length-references : (s : HeldPlaces ReferenceRow) → length (map (option_map reference_held) s.places) ≡ length s.places
length-references s = length-map s.places (option_map reference_held)

pub found-references : (n : ℕ) (hs : List (HeldValue ReferenceRow)) → found number n (map reference_held hs) ≡ option_map reference_held (found (λ h. h.number) n hs)
found-references n [] = refl
found-references n (h ∷ hs) = by (h.number == n) (found-references n hs)
  where
    by : (b : Bool) → found number n (map reference_held hs) ≡ option_map reference_held (found (λ g. g.number) n hs)
        → cond b (Some (reference_held h)) (found number n (map reference_held hs)) ≡ option_map reference_held (cond b (Some h) (found (λ g. g.number) n hs))
    by true rest = refl
    by false rest = rest

-- the map from numbers to references is the slab's
pub reference-at : (s : HeldPlaces ReferenceRow) (n : ℕ) → reference_at (map_of (references_in s)) n ≡ option_map (reference_of n) (value_of s n)
reference-at s n = ap (found number n) (rows-held s) ∙ found-references n (held s) ∙ by (found (λ h. h.number) n (held s)) refl
  where
    by : (o : Option (HeldValue ReferenceRow)) → found (λ h. h.number) n (held s) ≡ o → option_map reference_held o ≡ option_map (reference_of n) (option_map (λ h. h.value) o)
    by None is = refl
    by (Some h) is = ap (λ m. Some (reference_of m h.value)) (found-number (λ (g : HeldValue ReferenceRow). g.number) n (held s) h is)

-- what is told of a reference by its row
pub record IsReferenceRow (m : ReferenceMap) (n : ℕ) (row : ReferenceRow) : Type 0 where
  pub there : has_reference m n ≡ true
  pub value : referred_value m n ≡ option_map (λ v. v.0) row.value
  pub count : reference_count m n ≡ row.count

pub row-read : (s : HeldPlaces ReferenceRow) (p : ReferencePlaces) → references_in s ≡ p → (n : ℕ) (row : ReferenceRow) → Some row ≡ value_of s n → IsReferenceRow (map_of p) n row
row-read s p view n row is =
    let at : reference_at (map_of (references_in s)) n ≡ Some (reference_of n row) = reference-at s n ∙ ap (option_map (reference_of n)) (sym is) in
    let here : reference_at (map_of p) n ≡ Some (reference_of n row) = ap (λ q. reference_at (map_of q) n) (sym view) ∙ at in
    record {
      there = has-found (λ (r : Reference). r.number) n (map_of p).rows ∙ ap is_some here;
      value = rw here refl;
      count = rw here refl;
    }

pub none-read : (s : HeldPlaces ReferenceRow) (p : ReferencePlaces) → references_in s ≡ p → (n : ℕ) → None ≡ value_of s n → has_reference (map_of p) n ≡ false
none-read s p view n is =
    let at : reference_at (map_of (references_in s)) n ≡ None = reference-at s n ∙ ap (option_map (reference_of n)) (sym is) in
    let here : reference_at (map_of p) n ≡ None = ap (λ q. reference_at (map_of q) n) (sym view) ∙ at in
    has-found (λ (r : Reference). r.number) n (map_of p).rows ∙ ap is_some here

some-numbered : (o : Option ValueId) → is_some (option_map (λ v. v.0) o) ≡ is_some o
some-numbered None = refl
some-numbered (Some v) = refl

-- the map says whether the row has a value
pub valued : (m : ReferenceMap) (n : ℕ) (row : ReferenceRow) → IsReferenceRow m n row → is_some (referred_value m n) ≡ is_some row.value
valued m n row is = ap is_some is.value ∙ some-numbered row.value

pub value-gone : (m : ReferenceMap) (n : ℕ) (row : ReferenceRow) → IsReferenceRow m n row → is_some row.value ≡ false → IsSome (referred_value m n) → ⊥
value-gone m n row is gone some = let has = valued m n row is in cc

pub value-there : (m : ReferenceMap) (n : ℕ) (row : ReferenceRow) → IsReferenceRow m n row → is_some row.value ≡ true → referred_value m n ≡ None → ⊥
value-there m n row is here none = let has = valued m n row is in let no = ap is_some none in cc
