-- What the map comes to, once a row is held, freed or replaced.
use Rattle.std.proofs.Common.{◌≡◌, ◌∙◌, ℕ, ◌<◌, ◌==◌, ◌∷◌, Bool, true, false, not, cond, List, [], map, filter, Option, Some, None, option_map, refl, ap, sym, subst}
use Rattle.std.proofs.lemmas.List.Elements.{All-map}
use Rattle.generation_slab.specs.HeldPlaces.{HeldValue, HeldPlaces, value_of, held, standing, with_held, without_held, with_value, with_held_value}
use Rattle.napi_types.specs.declared.ids.ValueId.{ValueId}
use Rattle.napi_types.specs.plain.Lists.{found, has_number, with_number}
use Rattle.napi_types.specs.parts.References.{Reference, ReferenceMap, with_reference, without_reference, with_count}
use Rattle.napi_types.proofs.plain.Found.{IsRising, found-same, found-changed, found-number, rising-as_map, rising-changed, same-tells}
use Rattle.napi_types.proofs.plain.Maps.{map-filter}
use Rattle.napi_reference.specs.declared.rows.ReferenceRow.{ReferenceRow}
use Rattle.napi_reference.specs.ReferencePlaces.{ReferencePlaces, map_of}
use Rattle.napi_reference.specs.ReferencePlaces as places
use Rattle.napi_reference.specs.ReferenceRows.{reference_of, reference_held, references_in}
use Rattle.napi_reference.proofs.ReferenceNumbers.{number, rows-held, references-more, found-references}

pub same-map : (rs qs : List Reference) (is js : List ℕ) → rs ≡ qs → is ≡ js → let m : ReferenceMap = record { rows = rs; issued = is } in m ≡ record { rows = qs; issued = js }
same-map rs qs is js e f = cc

-- A REFERENCE IS MADE
pub made : (old new : HeldPlaces ReferenceRow) (p : ReferencePlaces) → references_in old ≡ p → (n : ℕ) (value : ValueId) (count : ℕ)
    → held new ≡ with_held n (record { value = Some value; count = count }) (held old) → new.issued ≡ with_number n old.issued
    → map_of (references_in new) ≡ with_reference n value.0 count (map_of p)
made old new p view n value count holds issued =
    rw (← view)
    (same-map _ _ _ _
    (rows-held new ∙ ap (map reference_held) holds ∙ references-more (record { number = n; value = record { value = Some value; count = count } }) (held old)
    ∙ ap (λ rs. with_record_of n value count rs) (sym (rows-held old)))
    issued)
  where
    with_record_of : ℕ → ValueId → ℕ → List Reference → List Reference
    with_record_of n value count rs = (with_reference n value.0 count (record { rows = rs; issued = [] })).rows

pub fresh : (old : HeldPlaces ReferenceRow) (p : ReferencePlaces) → references_in old ≡ p → (n : ℕ) → has_number n (0 ∷ old.issued) ≡ false → has_number n (0 ∷ p.issued) ≡ false
fresh old p view n new = rw (← view) new

-- A REFERENCE IS DELETED
pub deleted : (old new : HeldPlaces ReferenceRow) (p : ReferencePlaces) → references_in old ≡ p → (n : ℕ) → held new ≡ without_held n (held old) → new.issued ≡ old.issued
    → map_of (references_in new) ≡ without_reference n (map_of p)
deleted old new p view n holds issued =
    rw (← view)
    (same-map _ _ _ _
    (rows-held new ∙ ap (map reference_held) holds
    ∙ map-filter reference_held (λ (h : HeldValue ReferenceRow). not (h.number == n)) (λ (r : Reference). not (r.number == n)) (λ h. refl) (held old)
    ∙ ap (filter (λ r. not (r.number == n))) (sym (rows-held old)))
    issued)

-- A REFERENCE IS COUNTED
abbrev pub recounted : ℕ → ReferenceRow → ReferenceRow
recounted count row = record row { count = count }

abbrev counting : ℕ → ℕ → Reference → Reference
counting n count r = cond (r.number == n) (record r { count = count }) r

counting-keeps : (n count : ℕ) (r : Reference) → (counting n count r).number ≡ r.number
counting-keeps n count r = by (r.number == n)
  where
    by : (b : Bool) → let q : Reference = cond b (record r { count = count }) r in q.number ≡ r.number
    by true = refl
    by false = refl

abbrev replacing : ℕ → ReferenceRow → HeldValue ReferenceRow → HeldValue ReferenceRow
replacing n row h = cond (h.number == n) (with_value row h) h

replacing-keeps : (n : ℕ) (row : ReferenceRow) (h : HeldValue ReferenceRow) → (replacing n row h).number ≡ h.number
replacing-keeps n row h = by (h.number == n)
  where
    by : (b : Bool) → let g : HeldValue ReferenceRow = cond b (with_value row h) h in g.number ≡ h.number
    by true = refl
    by false = refl

-- references that rise by number, found by it
references-rise : (s : HeldPlaces ReferenceRow) → IsRising number (map reference_held (held s))
references-rise s = subst (IsRising number) (rows-held s) (rising-as_map number (places.standing (map (option_map reference_held) s.places)))

held-rises : (s : HeldPlaces ReferenceRow) → IsRising (λ h. h.number) (held s)
held-rises s = rising-as_map (λ h. h.number) (standing s.places)

rows-rise : (hs : List (HeldValue ReferenceRow)) → IsRising (λ h. h.number) hs → IsRising number (map reference_held hs)
rows-rise [] rises = tt
rows-rise (h ∷ hs) rises = (All-map (λ r. h.number < r.number) reference_held hs rises.0, rows-rise hs rises.1)

rows-counted : (s : HeldPlaces ReferenceRow) (n count : ℕ) (row : ReferenceRow) → Some row ≡ value_of s n
    → map reference_held (with_held_value n (recounted count row) (held s)) ≡ map (counting n count) (map reference_held (held s))
rows-counted s n count row is =
    found-same number (map reference_held (with_held_value n (recounted count row) (held s))) (map (counting n count) (map reference_held (held s)))
    (rows-rise (with_held_value n (recounted count row) (held s)) (rising-changed (λ h. h.number) (replacing n (recounted count row)) (replacing-keeps n (recounted count row)) (held s) (held-rises s)))
    (rising-changed number (counting n count) (counting-keeps n count) (map reference_held (held s)) (references-rise s))
    (λ m. found-references m (with_held_value n (recounted count row) (held s))
    ∙ ap (option_map reference_held) (found-changed (λ h. h.number) (replacing n (recounted count row)) (replacing-keeps n (recounted count row)) m (held s))
    ∙ by m (found (λ h. h.number) m (held s)) refl
    ∙ ap (option_map (counting n count)) (sym (found-references m (held s)))
    ∙ sym (found-changed number (counting n count) (counting-keeps n count) m (map reference_held (held s))))
  where
    by : (m : ℕ) (o : Option (HeldValue ReferenceRow)) → found (λ h. h.number) m (held s) ≡ o
        → option_map reference_held (option_map (replacing n (recounted count row)) o) ≡ option_map (counting n count) (option_map reference_held o)
    by m None at = refl
    by m (Some h) at = case (h.number == n) refl
      where
        case : (b : Bool) → (h.number == n) ≡ b
            → Some (reference_held (cond b (with_value (recounted count row) h) h)) ≡ Some (cond b (record (reference_held h) { count = count }) (reference_held h))
        case false apart = refl
        case true same =
            let one : m ≡ n = sym (found-number (λ (g : HeldValue ReferenceRow). g.number) m (held s) h at) ∙ same-tells h.number n same in
            let here : Some row ≡ Some h.value = is ∙ ap (λ k. option_map (λ (g : HeldValue ReferenceRow). g.value) (found (λ (g : HeldValue ReferenceRow). g.number) k (held s))) (sym one) ∙ ap (option_map (λ (g : HeldValue ReferenceRow). g.value)) at in
            let it : row ≡ h.value = cc in
            ap (λ (w : ReferenceRow). Some (reference_of h.number (recounted count w))) it

pub counted : (old new : HeldPlaces ReferenceRow) (p : ReferencePlaces) → references_in old ≡ p → (n count : ℕ) (row : ReferenceRow) → Some row ≡ value_of old n
    → held new ≡ with_held_value n (recounted count row) (held old) → new.issued ≡ old.issued
    → map_of (references_in new) ≡ with_count n count (map_of p)
counted old new p view n count row is holds issued =
    rw (← view)
    (same-map _ _ _ _
    (rows-held new ∙ ap (map reference_held) holds ∙ rows-counted old n count row is ∙ ap (map (counting n count)) (sym (rows-held old)))
    issued)
