-- What a value names, as it changes.
use Rattle.std.proofs.Common.{◌≡◌, ℕ, ◌+◌, ◌-◌, ◌==◌, Bool, true, false, cond, not, List, [], ◌∷◌, ◌++◌, length, map, filter, replicate, refl, sym, subst, inl, inr, Option, Some, None, option_to_list}
use Rattle.std.specs.List.{All, filter_map}
use Rattle.std.specs.Option.{IfSome, unwrap_or}
use Rattle.std.proofs.lemmas.Bool.{cases_lt}
use Rattle.std.proofs.lemmas.List.{get_or_past}
use Rattle.std.proofs.lemmas.List.Elements.{All-nil, All-cons, All-head, All-tail, All-append, All-set, All-replicate, All-get_or}
use Rattle.napi_types.specs.parts.Properties.{Property, property_at, property_set, property_removed, element_at, element_set}
use Rattle.napi_types.specs.parts.Values.{Value, children, with_property, without_property, with_element, with_link, properties_of, elements_of, link_of}
use Rattle.napi_types.proofs.parts.ChildParts.{children-of, properties-of, elements-of, link-of}

-- the numbers that properties, and elements, name
abbrev pub named_values : List Property → List ℕ
named_values ps = map (λ p. p.value) ps

abbrev pub present : List (Option ℕ) → List ℕ
present es = filter_map (λ e. e) es

-- what is said of each of them, ..
abbrev OfProperties : (ℕ → Type 0) → List Property → Type 0
OfProperties P ps = All P (named_values ps)

abbrev OfElements : (ℕ → Type 0) → List (Option ℕ) → Type 0
OfElements P es = All P (present es)

-- .. and of each child of a value
abbrev pub OfChildren : (ℕ → Type 0) → Value → Type 0
OfChildren P v = All P (children v)

-- ELEMENTS
-- an element is a hole, or names such a number
to-each : (P : ℕ → Type 0) (es : List (Option ℕ)) → OfElements P es → All (λ e. IfSome e P) es
to-each P [] all = All-nil (λ e. IfSome e P)
to-each P (None ∷ es) all = All-cons (λ e. IfSome e P) None es tt (to-each P es all)
to-each P (Some n ∷ es) all =
    All-cons (λ e. IfSome e P) (Some n) es (All-head P n (present es) all) (to-each P es (All-tail P n (present es) all))

from-each : (P : ℕ → Type 0) (es : List (Option ℕ)) → All (λ e. IfSome e P) es → OfElements P es
from-each P [] all = All-nil P
from-each P (None ∷ es) all = from-each P es (All-tail (λ e. IfSome e P) None es all)
from-each P (Some n ∷ es) all =
    All-cons P n (present es) (All-head (λ e. IfSome e P) (Some n) es all) (from-each P es (All-tail (λ e. IfSome e P) (Some n) es all))

of-element-set : (P : ℕ → Type 0) (at to : ℕ) (es : List (Option ℕ)) → P to → OfElements P es → OfElements P (element_set at to es)
of-element-set P at to es here all =
    let Q : Option ℕ → Type 0 = λ e. IfSome e P in
    let holes : List (Option ℕ) = replicate (at + 1 - length es) None in
    let longer : All Q (es ++ holes) = All-append Q es holes (to-each P es all) (All-replicate Q (at + 1 - length es) None tt) in
    from-each P (element_set at to es) (All-set Q (es ++ holes) at (Some to) here longer)

pub of-element : (P : ℕ → Type 0) (at d : ℕ) (es : List (Option ℕ)) → P d → OfElements P es → P (unwrap_or (element_at at es) d)
of-element P at d es here all =
    elim (cases_lt at (length es)) [
      | inl within ↦ or-else (element_at at es) (All-get_or (λ e. IfSome e P) es at None within (to-each P es all))
      | inr past ↦ subst (λ e. P (unwrap_or e d)) (sym (get_or_past es at None past)) here
    ]
  where
    or-else : (e : Option ℕ) → IfSome e P → P (unwrap_or e d)
    or-else None h = here
    or-else (Some n) h = h

-- PROPERTIES
of-property-set : (P : ℕ → Type 0) (name to : ℕ) (ps : List Property) → P to → OfProperties P ps → OfProperties P (property_set name to ps)
of-property-set P name to [] here all = All-cons P to [] here (All-nil P)
of-property-set P name to (p ∷ ps) here all =
    let rest : OfProperties P ps = All-tail P p.value (named_values ps) all in
    by (p.name == name) rest (of-property-set P name to ps here rest)
  where
    by : (b : Bool) → OfProperties P ps → OfProperties P (property_set name to ps)
        → OfProperties P (cond b (record p { value = to } ∷ ps) (p ∷ property_set name to ps))
    by true rest later = All-cons P to (named_values ps) here rest
    by false rest later = All-cons P p.value (named_values (property_set name to ps)) (All-head P p.value (named_values ps) all) later

of-property-removed : (P : ℕ → Type 0) (test : Property → Bool) (ps : List Property) → OfProperties P ps → OfProperties P (filter test ps)
of-property-removed P test [] all = All-nil P
of-property-removed P test (p ∷ ps) all = by (test p) (of-property-removed P test ps (All-tail P p.value (named_values ps) all))
  where
    by : (b : Bool) → OfProperties P (filter test ps) → OfProperties P (cond b (p ∷ filter test ps) (filter test ps))
    by true later = All-cons P p.value (named_values (filter test ps)) (All-head P p.value (named_values ps) all) later
    by false later = later

pub of-property : (P : ℕ → Type 0) (name d : ℕ) (ps : List Property) → P d → OfProperties P ps → P (unwrap_or (property_at name ps) d)
of-property P name d [] here all = here
of-property P name d (p ∷ ps) here all = by (p.name == name) refl (of-property P name d ps here (All-tail P p.value (named_values ps) all))
  where
    by : (b : Bool) → (p.name == name) ≡ b → P (unwrap_or (property_at name ps) d) → P (unwrap_or (property_at name (p ∷ ps)) d)
    by true same later = rw same (All-head P p.value (named_values ps) all)
    by false other later = rw other later

-- VALUES
-- what a change of a value may do: it keeps its number, and its children stay such numbers
pub record KeepsChildren (P : ℕ → Type 0) (change : Value → Value) : Type 0 where
  pub number : (v : Value) → (change v).number ≡ v.number
  pub children : (v : Value) → OfChildren P v → OfChildren P (change v)

pub keeps-property : (P : ℕ → Type 0) (name to : ℕ) → P to → KeepsChildren P (with_property name to)
keeps-property P name to here = record {
  number = λ v. refl;
  children = λ v all.
      children-of P (with_property name to v) (of-property-set P name to v.properties here (properties-of P v all)) (elements-of P v all) (link-of P v all);
}

pub keeps-removal : (P : ℕ → Type 0) (name : ℕ) → KeepsChildren P (without_property name)
keeps-removal P name = record {
  number = λ v. refl;
  children = λ v all.
      let rest : OfProperties P (property_removed name v.properties) = of-property-removed P (λ p. not (p.name == name)) v.properties (properties-of P v all) in
      children-of P (without_property name v) rest (elements-of P v all) (link-of P v all);
}

pub keeps-element : (P : ℕ → Type 0) (at to : ℕ) → P to → KeepsChildren P (with_element at to)
keeps-element P at to here = record {
  number = λ v. refl;
  children = λ v all.
      children-of P (with_element at to v) (properties-of P v all) (of-element-set P at to v.elements here (elements-of P v all)) (link-of P v all);
}

pub keeps-link : (P : ℕ → Type 0) (to : ℕ) → P to → KeepsChildren P (with_link to)
keeps-link P to here = record {
  number = λ v. refl;
  children = λ v all. children-of P (with_link to v) (properties-of P v all) (elements-of P v all) (All-cons P to [] here (All-nil P));
}

-- the properties and elements of any number, and its link
pub properties-at : (P : ℕ → Type 0) (n : ℕ) (vs : List Value) → All (OfChildren P) vs → OfProperties P (properties_of vs n)
properties-at P n [] all = All-nil P
properties-at P n (v ∷ vs) all = by (v.number == n) refl (properties-at P n vs (All-tail (OfChildren P) v vs all))
  where
    by : (b : Bool) → (v.number == n) ≡ b → OfProperties P (properties_of vs n) → OfProperties P (properties_of (v ∷ vs) n)
    by true same later = rw same (properties-of P v (All-head (OfChildren P) v vs all))
    by false other later = rw other later

pub elements-at : (P : ℕ → Type 0) (n : ℕ) (vs : List Value) → All (OfChildren P) vs → OfElements P (elements_of vs n)
elements-at P n [] all = All-nil P
elements-at P n (v ∷ vs) all = by (v.number == n) refl (elements-at P n vs (All-tail (OfChildren P) v vs all))
  where
    by : (b : Bool) → (v.number == n) ≡ b → OfElements P (elements_of vs n) → OfElements P (elements_of (v ∷ vs) n)
    by true same later = rw same (elements-of P v (All-head (OfChildren P) v vs all))
    by false other later = rw other later

pub link-at : (P : ℕ → Type 0) (n : ℕ) (vs : List Value) → All (OfChildren P) vs → IfSome (link_of vs n) P
link-at P n [] all = tt
link-at P n (v ∷ vs) all = by (v.number == n) refl (link-at P n vs (All-tail (OfChildren P) v vs all))
  where
    to-some : (o : Option ℕ) → All P (option_to_list o) → IfSome o P
    to-some None h = tt
    to-some (Some m) h = All-head P m [] h

    by : (b : Bool) → (v.number == n) ≡ b → IfSome (link_of vs n) P → IfSome (link_of (v ∷ vs) n) P
    by true same later = rw same (to-some v.link (link-of P v (All-head (OfChildren P) v vs all)))
    by false other later = rw other later
