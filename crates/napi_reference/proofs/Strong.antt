-- The values that strong references keep, place by place.
use Rattle.std.proofs.Common.{◌≡◌, ◌∙◌, ℕ, zero, suc, ◌==◌, ◌||◌, Bool, ◌∷◌, ◌++◌, List, [], map, Option, Some, None, option_map, slice_index_or, refl, ap, sym}
use Rattle.std.specs.List.{filter_map, cons_option, list_any}
use Rattle.std.specs.Option.{option_to_list}
use Rattle.std.proofs.lemmas.List.Folds.{list_any-append}
use Rattle.generation_slab.specs.HeldPlaces.{HeldValue, HeldPlaces}
use Rattle.napi_types.specs.plain.Lists.{has_number, HaveSameNumbers, as_map}
use Rattle.napi_types.specs.parts.References.{Reference, strong_value, strong_values}
use Rattle.napi_types.proofs.plain.Maps.{list_any-as_map}
use Rattle.napi_reference.specs.declared.rows.ReferenceRow.{ReferenceRow}
use Rattle.napi_reference.specs.ReferencePlaces.{ReferencePlaces, map_of, standing, EachReferenceStandsOnce, strong_in}
use Rattle.napi_reference.specs.ReferenceRows.{reference_of, reference_held, references_in}

strong-listed : (places : List (Option Reference)) → filter_map strong_value (standing places) ≡ filter_map strong_in places
strong-listed [] = refl
strong-listed (None ∷ places) = strong-listed places
strong-listed (Some r ∷ places) = ap (cons_option (strong_value r)) (strong-listed places)

-- a number is that of a value which a strong reference keeps
abbrev keeps : ℕ → Reference → Bool
keeps n r = has_number n (option_to_list (strong_value r))

led : {A : Type 0} (o : Option A) (xs : List A) → cons_option o xs ≡ option_to_list o ++ xs
led None xs = refl
led (Some x) xs = refl

any-keeps : (n : ℕ) (rs : List Reference) → has_number n (filter_map strong_value rs) ≡ list_any (keeps n) rs
any-keeps n [] = refl
any-keeps n (r ∷ rs) =
    ap (has_number n) (led (strong_value r) (filter_map strong_value rs)) ∙ list_any-append (λ m. m == n) (option_to_list (strong_value r)) (filter_map strong_value rs)
    ∙ ap (λ b. keeps n r || b) (any-keeps n rs)

-- going over the places gives the values that strong references keep, in any order
pub strong_values-places : (p : ReferencePlaces) → EachReferenceStandsOnce p → HaveSameNumbers (strong_values (map_of p)) (filter_map strong_in p.places)
strong_values-places p once = λ n.
    any-keeps n (as_map (λ r. r.number) (standing p.places)) ∙ list_any-as_map (λ (r : Reference). r.number) (keeps n) (standing p.places) once.apart
    ∙ sym (any-keeps n (standing p.places)) ∙ ap (has_number n) (strong-listed p.places)

pub reference-place : (s : HeldPlaces ReferenceRow) (at : ℕ) → slice_index_or (map (option_map reference_held) s.places) at None ≡ option_map reference_held (slice_index_or s.places at None)
reference-place s at = each s.places at
  where
    each : (ps : List (Option (HeldValue ReferenceRow))) (at : ℕ) → slice_index_or (map (option_map reference_held) ps) at None ≡ option_map reference_held (slice_index_or ps at None)
    each [] at = refl
    each (p ∷ ps) zero = refl
    each (p ∷ ps) (suc at) = each ps at

-- the value of a strong reference at a place, by the row that stands there
pub strong-place : (s : HeldPlaces ReferenceRow) (p : ReferencePlaces) → references_in s ≡ p → (at : ℕ) (row : Option ReferenceRow) → row ≡ option_map (λ h. h.value) (slice_index_or s.places at None)
    → (v : Option ℕ) → ((n : ℕ) → v ≡ strong_in (option_map (reference_of n) row)) → v ≡ strong_in (slice_index_or p.places at None)
strong-place s p view at row is v told =
    by (slice_index_or s.places at None) is ∙ ap strong_in (sym (reference-place s at)) ∙ ap (λ (q : ReferencePlaces). strong_in (slice_index_or q.places at None)) view
  where
    by : (o : Option (HeldValue ReferenceRow)) → row ≡ option_map (λ h. h.value) o → v ≡ strong_in (option_map reference_held o)
    by None same = told 0 ∙ ap (λ r. strong_in (option_map (reference_of 0) r)) same
    by (Some h) same = told h.number ∙ ap (λ r. strong_in (option_map (reference_of h.number) r)) same
