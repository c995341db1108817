-- The rows lose the values that are freed.
use Rattle.std.proofs.Common.{◌≡◌, ◌∙◌, ℕ, zero, suc, ◌+◌, ◌<◌, ◌==◌, ◌∷◌, ◌++◌, Bool, true, false, cond, List, [], length, map, get_or, set, take, drop, Option, Some, None, IfSome, option_map, refl, ap, sym, subst, arith, add-one}
use Rattle.std.specs.List.{All, filter_map, cons_option}
use Rattle.std.proofs.lemmas.List.Elements.{All-head, All-tail}
use Rattle.generation_slab.specs.HeldPlaces.{HeldValue, HeldPlaces, held}
use Rattle.generation_slab.specs.HeldPlaces as slab
use Rattle.napi_types.specs.declared.ids.ValueId.{ValueId}
use Rattle.napi_types.specs.plain.Lists.{as_map, with_record}
use Rattle.napi_types.specs.parts.References.{Reference, strong_value, strong_values, value_left, emptied}
use Rattle.napi_types.proofs.plain.Maps.{map-with_record}
use Rattle.napi_reference.specs.declared.rows.ReferenceRow.{ReferenceRow}
use Rattle.napi_reference.specs.ReferencePlaces.{ReferencePlaces, map_of}
use Rattle.napi_reference.specs.ReferenceRows.{reference_of, reference_held, references_in, id_left, weak_emptied, held_emptied, rows_emptied}
use Rattle.napi_reference.proofs.ReferenceNumbers.{rows-held}
use Rattle.napi_reference.proofs.ReferenceChanges.{same-map}

-- one element more of a list is changed in its place
changed-more : {X : Type 0} (change : X → X) (xs : List X) (i : ℕ) (d : X) → i < length xs
    → set (map change (take i xs) ++ drop i xs) i (change (get_or (map change (take i xs) ++ drop i xs) i d)) ≡ map change (take (suc i) xs) ++ drop (suc i) xs
changed-more change [] i d less = absurd (omega arith)
changed-more change (x ∷ xs) zero d less = refl
changed-more change (x ∷ xs) (suc i) d less = ap (λ ys. change x ∷ ys) (changed-more change xs i d (omega arith))

-- a loop changes the elements of a list in their places
pub changed-next : {X : Type 0} (change : X → X) (xs ys : List X) (i : ℕ) (d : X) → i < length xs → ys ≡ map change (take i xs) ++ drop i xs
    → set ys i (change (get_or ys i d)) ≡ map change (take (i + 1) xs) ++ drop (i + 1) xs
changed-next change xs ys i d less is = rw (is, add-one) (changed-more change xs i d less)

-- what holds of all that a list's elements give holds of what the first gives, and of what the others give
first_given : {Y : Type 0} (P : Y → Type 0) (o : Option Y) (ys : List Y) → All P (cons_option o ys) → IfSome o P
first_given P None ys all = tt
first_given P (Some y) ys all = All-head P y ys all

others_given : {Y : Type 0} (P : Y → Type 0) (o : Option Y) (ys : List Y) → All P (cons_option o ys) → All P ys
others_given P None ys all = all
others_given P (Some y) ys all = All-tail P y ys all

value_left-id : (collected : ℕ → Bool) (value : Option ValueId) → value_left collected (option_map (λ v. v.0) value) ≡ option_map (λ v. v.0) (id_left collected value)
value_left-id collected None = refl
value_left-id collected (Some v) = by (collected v.0)
  where
    by : (b : Bool) → cond b None (Some v.0) ≡ option_map (λ (w : ValueId). w.0) (cond b None (Some v))
    by true = refl
    by false = refl

value_left-kept : (collected : ℕ → Bool) (value : Option ℕ) → IfSome value (λ v. collected v ≡ false) → value_left collected value ≡ value
value_left-kept collected None kept = refl
value_left-kept collected (Some v) kept = rw kept refl

-- a row loses its value as its reference does, where a strong one keeps it
row-emptied : (collected : ℕ → Bool) (n : ℕ) (row : ReferenceRow) (weak : Bool) → IfSome (cond weak None (option_map (λ v. v.0) row.value)) (λ v. collected v ≡ false)
    → let r : Reference = record { number = n; value = value_left collected (option_map (λ v. v.0) row.value); count = row.count } in
    r ≡ reference_of n (cond weak (record row { value = id_left collected row.value }) row)
row-emptied collected n row true kept = ap (λ v. record { number = n; value = v; count = row.count }) (value_left-id collected row.value)
row-emptied collected n row false kept = ap (λ v. record { number = n; value = v; count = row.count }) (value_left-kept collected (option_map (λ v. v.0) row.value) kept)

held-emptied : (collected : ℕ → Bool) (hs : List (HeldValue ReferenceRow)) → All (λ v. collected v ≡ false) (filter_map strong_value (map reference_held hs))
    → map (λ (r : Reference). record r { value = value_left collected r.value }) (map reference_held hs) ≡ map reference_held (map (held_emptied collected) hs)
held-emptied collected [] kept = refl
held-emptied collected (h ∷ hs) kept =
    let first : IfSome (strong_value (reference_held h)) (λ v. collected v ≡ false) = first_given (λ v. collected v ≡ false) (strong_value (reference_held h)) (filter_map strong_value (map reference_held hs)) kept in
    let others : All (λ v. collected v ≡ false) (filter_map strong_value (map reference_held hs)) = others_given (λ v. collected v ≡ false) (strong_value (reference_held h)) (filter_map strong_value (map reference_held hs)) kept in
    ap (λ r. r ∷ map (λ (q : Reference). record q { value = value_left collected q.value }) (map reference_held hs)) (row-emptied collected h.number h.value (h.value.count == 0) first)
    ∙ ap (λ rs. reference_of h.number (weak_emptied collected h.value) ∷ rs) (held-emptied collected hs others)

standing-emptied : (collected : ℕ → Bool) (ps : List (Option (HeldValue ReferenceRow))) → slab.standing (map (option_map (held_emptied collected)) ps) ≡ map (held_emptied collected) (slab.standing ps)
standing-emptied collected [] = refl
standing-emptied collected (None ∷ ps) = standing-emptied collected ps
standing-emptied collected (Some h ∷ ps) = ap (λ hs. held_emptied collected h ∷ hs) (standing-emptied collected ps)

mapped-emptied : (collected : ℕ → Bool) (hs : List (HeldValue ReferenceRow)) → as_map (λ h. h.number) (map (held_emptied collected) hs) ≡ map (held_emptied collected) (as_map (λ h. h.number) hs)
mapped-emptied collected [] = refl
mapped-emptied collected (h ∷ hs) =
    ap (with_record (λ (g : HeldValue ReferenceRow). g.number) (held_emptied collected h)) (mapped-emptied collected hs)
    ∙ sym (map-with_record (λ (g : HeldValue ReferenceRow). g.number) (held_emptied collected) (λ g. refl) h (as_map (λ g. g.number) hs))

pub rows-emptied : (collected : ℕ → Bool) (s : HeldPlaces ReferenceRow) (p : ReferencePlaces) → references_in s ≡ p → All (λ v. collected v ≡ false) (strong_values (map_of p))
    → map_of (references_in (rows_emptied collected s)) ≡ emptied collected (map_of p)
rows-emptied collected s p view kept =
    let here : All (λ v. collected v ≡ false) (strong_values (map_of (references_in s))) =
    subst (λ (q : ReferencePlaces). All (λ v. collected v ≡ false) (strong_values (map_of q))) (sym view) kept in
    let those : All (λ v. collected v ≡ false) (filter_map strong_value (map reference_held (held s))) =
    subst (λ (rs : List Reference). All (λ v. collected v ≡ false) (filter_map strong_value rs)) (rows-held s) here in
    rw (← view)
    (same-map _ _ _ _
    (rows-held (rows_emptied collected s)
    ∙ ap (map reference_held) (ap (as_map (λ h. h.number)) (standing-emptied collected s.places) ∙ mapped-emptied collected (slab.standing s.places))
    ∙ sym (held-emptied collected (held s) those) ∙ ap (map (λ (r : Reference). record r { value = value_left collected r.value })) (sym (rows-held s)))
    refl)

-- a place whose row was emptied, or was none
pub place-next : (collected : ℕ → Bool) (xs ys zs : List (Option (HeldValue ReferenceRow))) (i : ℕ) → i < length xs → ys ≡ map (option_map (held_emptied collected)) (take i xs) ++ drop i xs
    → zs ≡ set ys i (option_map (held_emptied collected) (get_or ys i None)) → zs ≡ map (option_map (held_emptied collected)) (take (i + 1) xs) ++ drop (i + 1) xs
place-next collected xs ys zs i less so_far is = is ∙ changed-next (option_map (held_emptied collected)) xs ys i None less so_far
