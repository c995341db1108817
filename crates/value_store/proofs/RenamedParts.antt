-- A change of a value, and the same change of it as it is named by creation numbers.
use Rattle.std.proofs.Common.{◌≡◌, ◌∙◌, ℕ, zero, suc, ◌+◌, ◌-◌, ◌<◌, ◌==◌, Bool, true, false, not, cond, List, [], ◌∷◌, ◌++◌, map, length, set, replicate, Option, Some, None, IsSome, option_map, slice_index_or, refl, ap, sym, subst, arith, append-nil}
use Rattle.std.specs.List.{range_with_len}
use Rattle.std.proofs.lemmas.List.{map-append, map-set, length-map}
use Rattle.napi_types.specs.parts.Graph.{StoreState, number_in, renamed}
use Rattle.napi_types.specs.parts.NewValues.{array_of}
use Rattle.napi_types.specs.parts.Properties.{Property, property_set, property_removed, element_at, element_set}
use Rattle.napi_types.specs.parts.Values.{Value, with_property, without_property, with_element}

module _ (s : StoreState) where
  set-named : (name to : ℕ) (ps : List Property) → map (λ (p : Property). record p { value = number_in s p.value }) (property_set name to ps) ≡ property_set name (number_in s to) (map (λ (p : Property). record p { value = number_in s p.value }) ps)
  set-named name to [] = refl
  set-named name to (p ∷ ps) = by (p.name == name) (set-named name to ps)
    where
      by : (b : Bool) → map (λ (q : Property). record q { value = number_in s q.value }) (property_set name to ps) ≡ property_set name (number_in s to) (map (λ (q : Property). record q { value = number_in s q.value }) ps)
          → map (λ (q : Property). record q { value = number_in s q.value }) (cond b (record p { value = to } ∷ ps) (p ∷ property_set name to ps))
          ≡ cond b (record p { value = number_in s to } ∷ map (λ (q : Property). record q { value = number_in s q.value }) ps)
          (record p { value = number_in s p.value } ∷ property_set name (number_in s to) (map (λ (q : Property). record q { value = number_in s q.value }) ps))
      by true rest = refl
      by false rest = ap (λ l. record p { value = number_in s p.value } ∷ l) rest

  removed-named : (name : ℕ) (ps : List Property) → map (λ (p : Property). record p { value = number_in s p.value }) (property_removed name ps) ≡ property_removed name (map (λ (p : Property). record p { value = number_in s p.value }) ps)
  removed-named name [] = refl
  removed-named name (p ∷ ps) = by (not (p.name == name)) (removed-named name ps)
    where
      by : (b : Bool) → map (λ (q : Property). record q { value = number_in s q.value }) (property_removed name ps) ≡ property_removed name (map (λ (q : Property). record q { value = number_in s q.value }) ps)
          → map (λ (q : Property). record q { value = number_in s q.value }) (cond b (p ∷ property_removed name ps) (property_removed name ps))
          ≡ cond b (record p { value = number_in s p.value } ∷ property_removed name (map (λ (q : Property). record q { value = number_in s q.value }) ps)) (property_removed name (map (λ (q : Property). record q { value = number_in s q.value }) ps))
      by true rest = ap (λ l. record p { value = number_in s p.value } ∷ l) rest
      by false rest = rest

  map-holes : (n : ℕ) → map (option_map (number_in s)) (replicate n None) ≡ replicate n None
  map-holes zero = refl
  map-holes (suc n) = ap (λ l. None ∷ l) (map-holes n)

  elements-named : (at to : ℕ) (es : List (Option ℕ)) → map (option_map (number_in s)) (element_set at to es) ≡ element_set at (number_in s to) (map (option_map (number_in s)) es)
  elements-named at to es =
      map-set (option_map (number_in s)) (es ++ replicate (at + 1 - length es) None) at (Some to)
      ∙ ap (λ l. set l at (Some (number_in s to)))
      (map-append (option_map (number_in s)) es (replicate (at + 1 - length es) None)
      ∙ ap (λ l. map (option_map (number_in s)) es ++ l) (map-holes (at + 1 - length es) ∙ ap (λ n. replicate (at + 1 - n) None) (sym (length-map es (option_map (number_in s))))))

  pub property-named-so : (name to : ℕ) (v : Value) → renamed s (with_property name to v) ≡ with_property name (number_in s to) (renamed s v)
  property-named-so name to v = ap (λ ps. record (renamed s v) { properties = ps }) (set-named name to v.properties)

  pub removal-named-so : (name : ℕ) (v : Value) → renamed s (without_property name v) ≡ without_property name (renamed s v)
  removal-named-so name v = ap (λ ps. record (renamed s v) { properties = ps }) (removed-named name v.properties)

  pub element-named-so : (at to : ℕ) (v : Value) → renamed s (with_element at to v) ≡ with_element at (number_in s to) (renamed s v)
  element-named-so at to v = ap (λ es. record (renamed s v) { elements = es }) (elements-named at to v.elements)

  -- an array's elements are named as they are
  all-named : (ids : List ℕ) → map (option_map (number_in s)) (map Some ids) ≡ map Some (map (number_in s) ids)
  all-named [] = refl
  all-named (n ∷ ids) = ap (λ l. Some (number_in s n) ∷ l) (all-named ids)

  pub array-named : (n : ℕ) (ids : List ℕ) → renamed s (array_of n ids) ≡ array_of n (map (number_in s) ids)
  array-named n ids = ap (λ es. record (array_of n ids) { elements = es }) (all-named ids)

-- ELEMENTS THAT ARE SET AGAIN
last-set : (ids : List ℕ) (x id : ℕ) (rest : List ℕ) → set (map Some (ids ++ x ∷ rest)) (length ids) (Some id) ≡ map Some ((ids ++ id ∷ []) ++ rest)
last-set [] x id rest = refl
last-set (n ∷ ids) x id rest = ap (λ l. Some n ∷ l) (last-set ids x id rest)

at-there : (ids : List ℕ) (x : ℕ) (rest : List ℕ) → IsSome (slice_index_or (map Some (ids ++ x ∷ rest)) (length ids) None)
at-there [] x rest = refl
at-there (n ∷ ids) x rest = at-there ids x rest

long-enough : (ids : List ℕ) (x : ℕ) (rest : List ℕ) → length ids + 1 - length (map Some (ids ++ x ∷ rest)) ≡ 0
long-enough ids x rest = short (length ids) (length (map Some (ids ++ x ∷ rest))) (within ids)
  where
    within : (ids : List ℕ) → length ids < length (map Some (ids ++ x ∷ rest))
    within [] = omega arith
    within (n ∷ ids) = omega (arith, within ids)

    short : (m n : ℕ) → m < n → m + 1 - n ≡ 0
    short m n less = omega (arith, less)

set-again : (at : ℕ) (ids : List ℕ) (x id : ℕ) (rest : List ℕ) → at ≡ length ids → element_set at id (map Some (ids ++ x ∷ rest)) ≡ map Some ((ids ++ id ∷ []) ++ rest)
set-again at ids x id rest is =
    ap (λ k. element_set k id (map Some (ids ++ x ∷ rest))) is
    ∙ ap (λ n. set (map Some (ids ++ x ∷ rest) ++ replicate n None) (length ids) (Some id)) (long-enough ids x rest)
    ∙ ap (λ l. set l (length ids) (Some id)) (append-nil (map Some (ids ++ x ∷ rest)))
    ∙ last-set ids x id rest

range-first : (at many : ℕ) → at < many → range_with_len at (many - at) ≡ at ∷ range_with_len (at + 1) (many - (at + 1))
range-first at many less = ap (range_with_len at) (first at many less)
  where
    first : (at many : ℕ) → at < many → many - at ≡ suc (many - (at + 1))
    first at many less = omega (arith, less)

pub array-more : (n at many : ℕ) (ids : List ℕ) (id : ℕ) → at ≡ length ids → at < many
    → with_element at id (array_of n (ids ++ range_with_len at (many - at))) ≡ array_of n ((ids ++ id ∷ []) ++ range_with_len (at + 1) (many - (at + 1)))
array-more n at many ids id is less =
    ap (λ es. record (array_of n ids) { elements = es })
    (ap (λ r. element_set at id (map Some (ids ++ r))) (range-first at many less) ∙ set-again at ids at id (range_with_len (at + 1) (many - (at + 1))) is)

pub array-there : (at many : ℕ) (ids : List ℕ) → at ≡ length ids → at < many → IsSome (element_at at (map Some (ids ++ range_with_len at (many - at))))
array-there at many ids is less =
    subst (λ r. IsSome (element_at at (map Some (ids ++ r)))) (sym (range-first at many less))
    (subst (λ k. IsSome (element_at k (map Some (ids ++ at ∷ range_with_len (at + 1) (many - (at + 1)))))) (sym is) (at-there ids at (range_with_len (at + 1) (many - (at + 1)))))
