-- What a changed value names.
use Rattle.std.proofs.Common.{◌≡◌, ℕ, zero, suc, ◌+◌, ◌-◌, ◌==◌, Bool, true, false, cond, not, List, [], ◌∷◌, ◌++◌, map, length, replicate, Option, Some, None, IfSome, option_map, inl, inr, refl, subst}
use Rattle.std.specs.List.{All, filter_map}
use Rattle.std.proofs.lemmas.Bool.{eqb-true, eq-eqb, or_cases, or_left, or_right}
use Rattle.std.proofs.lemmas.List.Elements.{All-nil, All-cons, All-head, All-tail, All-append, All-set, All-replicate}
use Rattle.napi_types.specs.plain.Lists.{found, has_number}
use Rattle.napi_types.specs.parts.Properties.{Property, property_set, property_removed, property_at, element_at, element_set}
use Rattle.napi_types.specs.parts.Values.{Value, children, with_property, without_property, with_element}
use Rattle.napi_types.proofs.parts.ChildParts.{children-of, properties-of, elements-of, link-of}

module _ (P : ℕ → Type 0) where
  set_names : (name to : ℕ) (ps : List Property) → P to → All P (map (λ p. p.value) ps) → All P (map (λ p. p.value) (property_set name to ps))
  set_names name to [] new h = All-cons P to [] new (All-nil P)
  set_names name to (p ∷ ps) new h = by (set_names name to ps new (All-tail P p.value (map (λ q. q.value) ps) h)) (p.name == name)
    where
      by : All P (map (λ p. p.value) (property_set name to ps)) → (b : Bool) → All P (map (λ (q : Property). q.value) (cond b (record p { value = to } ∷ ps) (p ∷ property_set name to ps)))
      by rest true = All-cons P to (map (λ q. q.value) ps) new (All-tail P p.value (map (λ q. q.value) ps) h)
      by rest false = All-cons P p.value (map (λ q. q.value) (property_set name to ps)) (All-head P p.value (map (λ q. q.value) ps) h) rest

  removed_names : (name : ℕ) (ps : List Property) → All P (map (λ p. p.value) ps) → All P (map (λ p. p.value) (property_removed name ps))
  removed_names name [] h = h
  removed_names name (p ∷ ps) h = by (removed_names name ps (All-tail P p.value (map (λ q. q.value) ps) h)) (not (p.name == name))
    where
      by : All P (map (λ p. p.value) (property_removed name ps)) → (b : Bool) → All P (map (λ (q : Property). q.value) (cond b (p ∷ property_removed name ps) (property_removed name ps)))
      by rest true = All-cons P p.value (map (λ q. q.value) (property_removed name ps)) (All-head P p.value (map (λ q. q.value) ps) h) rest
      by rest false = rest

  pub to_options : (es : List (Option ℕ)) → All P (filter_map (λ e. e) es) → All (λ e. IfSome e P) es
  to_options [] h = All-nil (λ e. IfSome e P)
  to_options (None ∷ es) h = All-cons (λ e. IfSome e P) None es tt (to_options es h)
  to_options (Some x ∷ es) h = All-cons (λ e. IfSome e P) (Some x) es (All-head P x (filter_map (λ e. e) es) h) (to_options es (All-tail P x (filter_map (λ e. e) es) h))

  from_options : (es : List (Option ℕ)) → All (λ e. IfSome e P) es → All P (filter_map (λ e. e) es)
  from_options [] h = All-nil P
  from_options (None ∷ es) h = from_options es (All-tail (λ e. IfSome e P) None es h)
  from_options (Some x ∷ es) h = All-cons P x (filter_map (λ e. e) es) (All-head (λ e. IfSome e P) (Some x) es h) (from_options es (All-tail (λ e. IfSome e P) (Some x) es h))

  -- a property that is set names its value, and what was named before
  pub children-with_property : (name to : ℕ) (v : Value) → P to → All P (children v) → All P (children (with_property name to v))
  children-with_property name to v new h =
      children-of P (with_property name to v) (set_names name to v.properties new (properties-of P v h)) (elements-of P v h) (link-of P v h)

  pub children-without_property : (name : ℕ) (v : Value) → All P (children v) → All P (children (without_property name v))
  children-without_property name v h =
      children-of P (without_property name v) (removed_names name v.properties (properties-of P v h)) (elements-of P v h) (link-of P v h)

  pub children-with_element : (at to : ℕ) (v : Value) → P to → All P (children v) → All P (children (with_element at to v))
  children-with_element at to v new h =
      let holes : List (Option ℕ) = replicate (at + 1 - length v.elements) None in
      children-of P (with_element at to v) (properties-of P v h)
      (from_options (element_set at to v.elements)
      (All-set (λ e. IfSome e P) (v.elements ++ holes) at (Some to) new
      (All-append (λ e. IfSome e P) v.elements holes (to_options v.elements (elements-of P v h)) (All-replicate (λ e. IfSome e P) (at + 1 - length v.elements) None tt))))
      (link-of P v h)

  -- the value of a property is named
  pub property-named : (name : ℕ) (v : Value) → All P (children v) → IfSome (property_at name v.properties) P
  property-named name v h = among v.properties (properties-of P v h)
    where
      among : (ps : List Property) → All P (map (λ p. p.value) ps) → IfSome (property_at name ps) P
      among [] h = tt
      among (p ∷ ps) h = by (among ps (All-tail P p.value (map (λ q. q.value) ps) h)) (p.name == name)
        where
          by : IfSome (property_at name ps) P → (b : Bool) → IfSome (option_map (λ (q : Property). q.value) (cond b (Some p) (found (λ q. q.name) name ps))) P
          by rest true = All-head P p.value (map (λ q. q.value) ps) h
          by rest false = rest

  pub element-named : (at : ℕ) (v : Value) → All P (children v) → IfSome (element_at at v.elements) P
  element-named at v h = among v.elements at (to_options v.elements (elements-of P v h))
    where
      among : (es : List (Option ℕ)) (at : ℕ) → All (λ e. IfSome e P) es → IfSome (element_at at es) P
      among [] at h = tt
      among (e ∷ es) zero h = All-head (λ e. IfSome e P) e es h
      among (e ∷ es) (suc at) h = among es at (All-tail (λ e. IfSome e P) e es h)

  -- what holds of all numbers of a list holds of each
  pub All-has : (ns : List ℕ) (n : ℕ) → All P ns → has_number n ns ≡ true → P n
  All-has [] n all h = let no : ⊥ = cc in absurd no
  All-has (m ∷ ns) n all h =
      elim (or_cases (m == n) (has_number n ns) h) [
        | inl same ↦ subst P (eqb-true m n same) (All-head P m ns all)
        | inr later ↦ All-has ns n (All-tail P m ns all) later
      ]

  pub All-from_has : (ns : List ℕ) → ((n : ℕ) → has_number n ns ≡ true → P n) → All P ns
  All-from_has [] h = All-nil P
  All-from_has (m ∷ ns) h = All-cons P m ns (h m (or_left (m == m) (has_number m ns) (eq-eqb m m refl))) (All-from_has ns (λ n k. h n (or_right (m == n) (has_number n ns) k)))
