-- Looking a handle up among handles that rise.
use Rattle.std.proofs.Common.{◌≡◌, ℕ, zero, suc, ◌+◌, ◌<◌, ◌==◌, Bool, true, false, List, [], ◌∷◌, ◌++◌, length, map, get_or, refl, ap, sym, arith, Option, Some, None, cond, ◌∙◌, subst}
use Rattle.std.proofs.lemmas.Bool.Decides.{nat_tests}
use Rattle.std.proofs.lemmas.List.{get_or-map, length-map, get_or-append-add, length-append}
use Rattle.std.specs.Option.{option_or}
use Rattle.napi_types.specs.parts.Scopes.{OpenHandle, value_in}
use Rattle.napi_types.proofs.plain.Lists.{option_or-none}
use Rattle.handle_scope.specs.declared.scopes.HeldHandle.{HeldHandle}
use Rattle.handle_scope.specs.Marks.{held_of, Rises}
use Rattle.handle_scope.proofs.HandleNumbers.{HasAt, Lacks, HasAt-tail, Lacks-tail, Rises-tail}

pub option_or-assoc : {A : Type 0} (a b c : Option A) → option_or (option_or a b) c ≡ option_or a (option_or b c)
option_or-assoc None b c = refl
option_or-assoc (Some x) b c = refl

-- the first handle, or what the rest says
value_in-first : (p : OpenHandle) (hs : List OpenHandle) (h : ℕ) (same : Bool) → (p.handle == h) ≡ same → value_in (p ∷ hs) h ≡ cond same (Some p.value) (value_in hs h)
value_in-first p hs h true e = rw e refl
value_in-first p hs h false e = rw e refl

pub value_in-found : (xs : List HeldHandle) (h at : ℕ) (d : HeldHandle) → Rises (λ x. x.handle) xs → HasAt (λ x. x.handle) xs h at
    → Some (get_or xs at d).value.0 ≡ value_in (map held_of xs) h
value_in-found [] h at d r i = absurd (omega (arith, i.inside))
value_in-found (x ∷ xs) h zero d r i = sym (value_in-first (held_of x) (map held_of xs) h true (grind (arith, nat_tests, i.same d)))
value_in-found (x ∷ xs) h (suc at) d r i =
    let apart : x.handle < (get_or xs at d).handle = r.rise 0 (suc at) d (omega arith) i.inside in
    let here : (get_or xs at d).handle ≡ h = i.same d in
    value_in-found xs h at d (Rises-tail (λ x. x.handle) x xs r) (HasAt-tail (λ x. x.handle) x xs h at i)
    ∙ sym (value_in-first (held_of x) (map held_of xs) h false (grind (arith, nat_tests)))

-- the same, where the one at a place has the number
pub value_in-there : (xs : List HeldHandle) (h at : ℕ) (x : HeldHandle) → Rises (λ y. y.handle) xs → at < length xs → ((d : HeldHandle) → x ≡ get_or xs at d) → x.handle ≡ h
    → value_in (map held_of xs) h ≡ Some x.value.0
value_in-there xs h at x r inside there same =
    sym (value_in-found xs h at x r (record { inside = inside; same = λ d. sym (ap (λ (y : HeldHandle). y.handle) (there d)) ∙ same }))
    ∙ sym (ap (λ (y : HeldHandle). Some y.value.0) (there x))

pub value_in-lacks : (hs : List OpenHandle) (h : ℕ) → Lacks (λ p. p.handle) hs h → value_in hs h ≡ None
value_in-lacks [] h l = refl
value_in-lacks (p ∷ hs) h l =
    value_in-first p hs h false (grind (arith, nat_tests, l.at 0 p (omega arith))) ∙ value_in-lacks hs h (Lacks-tail (λ p. p.handle) p hs h l)

pub Lacks-held : (xs : List HeldHandle) (h : ℕ) → Lacks (λ x. x.handle) xs h → Lacks (λ p. p.handle) (map held_of xs) h
Lacks-held xs h l = record {
  at = λ i d inside.
      let x : HeldHandle = record { handle = d.handle; value = record { 0 = d.value } } in
      let here : i < length xs = omega (arith, inside, length-map xs held_of) in
      rw (get_or-map held_of xs i x d here) (l.at i x here);
}

-- the handles rise as contracts see them, and so they do in the stack
pub Rises-of-held : (xs : List HeldHandle) → Rises (λ p. p.handle) (map held_of xs) → Rises (λ x. x.handle) xs
Rises-of-held xs r = record {
  rise = λ i j d lt inside.
      let first : i < length xs = omega arith in
      let at_i : (get_or (map held_of xs) i (held_of d)).handle ≡ (get_or xs i d).handle = ap (λ (q : OpenHandle). q.handle) (get_or-map held_of xs i d (held_of d) first) in
      let at_j : (get_or (map held_of xs) j (held_of d)).handle ≡ (get_or xs j d).handle = ap (λ (q : OpenHandle). q.handle) (get_or-map held_of xs j d (held_of d) inside) in
      let up : (get_or (map held_of xs) i (held_of d)).handle < (get_or (map held_of xs) j (held_of d)).handle = r.rise i j (held_of d) lt (omega (arith, inside, length-map xs held_of)) in
      omega arith;
}

-- a handle that is not above the first of them is none of those after it
after-lacks : (p : OpenHandle) (xs ys : List OpenHandle) → Rises (λ p. p.handle) (p ∷ xs ++ ys) → Lacks (λ p. p.handle) ys p.handle
after-lacks p xs ys r = record {
  at = λ i d inside same.
      let there : get_or (xs ++ ys) (length xs + i) d ≡ get_or ys i d = get_or-append-add xs ys i d in
      let in_range : suc (length xs + i) < length (p ∷ xs ++ ys) = omega (arith, length-append xs ys) in
      let above : p.handle < (get_or (xs ++ ys) (length xs + i) d).handle = r.rise 0 (suc (length xs + i)) d (omega arith) in_range in
      let equal : (get_or (xs ++ ys) (length xs + i) d).handle ≡ p.handle = ap (λ (q : OpenHandle). q.handle) there ∙ same in
      omega arith;
}

-- the part that comes later is asked first, where the first handle of the earlier part is the one that is looked for, or is not
either-first : (p : OpenHandle) (xs ys : List OpenHandle) (h : ℕ) (same : Bool) → (p.handle == h) ≡ same → Rises (λ p. p.handle) (p ∷ xs ++ ys)
    → option_or (value_in ys h) (value_in xs h) ≡ value_in (xs ++ ys) h → option_or (value_in ys h) (value_in (p ∷ xs) h) ≡ value_in (p ∷ xs ++ ys) h
either-first p xs ys h true e r rest =
    let equal : p.handle ≡ h = grind (arith, nat_tests) in
    let none : value_in ys h ≡ None = subst (λ n. value_in ys n ≡ None) equal (value_in-lacks ys p.handle (after-lacks p xs ys r)) in
    ap (λ x. option_or x (value_in (p ∷ xs) h)) none ∙ value_in-first p xs h true e ∙ sym (value_in-first p (xs ++ ys) h true e)
either-first p xs ys h false e r rest =
    ap (option_or (value_in ys h)) (value_in-first p xs h false e) ∙ rest ∙ sym (value_in-first p (xs ++ ys) h false e)

-- the first handle is the one that is looked for, or is not
append-first : (p : OpenHandle) (xs ys : List OpenHandle) (h : ℕ) (same : Bool) → (p.handle == h) ≡ same
    → value_in (xs ++ ys) h ≡ option_or (value_in xs h) (value_in ys h) → value_in (p ∷ xs ++ ys) h ≡ option_or (value_in (p ∷ xs) h) (value_in ys h)
append-first p xs ys h true e rest =
    value_in-first p (xs ++ ys) h true e ∙ sym (ap (λ o. option_or o (value_in ys h)) (value_in-first p xs h true e))
append-first p xs ys h false e rest =
    value_in-first p (xs ++ ys) h false e ∙ rest ∙ sym (ap (λ o. option_or o (value_in ys h)) (value_in-first p xs h false e))

-- where the handles rise, one lies in one of two parts at most, so either part may be asked first
pub value_in-either : (xs ys : List OpenHandle) (h : ℕ) → Rises (λ p. p.handle) (xs ++ ys) → option_or (value_in ys h) (value_in xs h) ≡ value_in (xs ++ ys) h
value_in-either [] ys h r = option_or-none (value_in ys h)
value_in-either (p ∷ xs) ys h r = either-first p xs ys h (p.handle == h) refl r (value_in-either xs ys h (Rises-tail (λ p. p.handle) p (xs ++ ys) r))

-- what the earlier part says, or else the later one
pub value_in-append : (xs ys : List OpenHandle) (h : ℕ) → value_in (xs ++ ys) h ≡ option_or (value_in xs h) (value_in ys h)
value_in-append [] ys h = refl
value_in-append (p ∷ xs) ys h = append-first p xs ys h (p.handle == h) refl (value_in-append xs ys h)
