-- What a caller cites of a store: what stays live, and that a new value may be freed again.
use Rattle.std.proofs.Common.{◌≡◌, ◌≢◌, ℕ, ◌+◌, ◌<◌, ◌≤◌, ◌==◌, ◌||◌, nat_eq, Bool, true, false, [], ◌∷◌, Option, Some, None, IsSome, IfSome, option_map, refl, sym, subst, ◌∙◌, arith}
use Rattle.std.specs.List.{IsDistinct}
use Rattle.std.proofs.lemmas.List.Elements.{All-nil, All-cons, All-weaker}
use Rattle.std.proofs.lemmas.Bool.{or_parts}
use borrow.Author.Tests.{eqb-true}
use Rattle.napi_types.specs.declared.body.Body.{Body}
use Rattle.napi_types.specs.plain.Lists.{has_number}
use Rattle.napi_types.specs.parts.Graph.{StoreState, IsSoundStore, IsLive, value_of, creation_number}
use Rattle.napi_types.specs.parts.Values.{Value, children}
use Rattle.value_store.specs.StoreChanges.{ChangesOnly, MakesFresh, MakesValue, CanFree}
use Rattle.value_store.proofs.Lookup.{other-number}

-- what is live stays so where one value changes
pub changes-live : (s t : StoreState) (id : ℕ) (change : Value → Value) → ChangesOnly s t id change → (n : ℕ) → IsLive s n → IsLive t n
changes-live s t id change step n h = by (n == id) refl
  where
    kept : (o : Option Value) → IsSome o → IsSome (option_map change o)
    kept None h = h
    kept (Some v) h = refl

    by : (b : Bool) → (n == id) ≡ b → IsLive t n
    by true e = let same : n ≡ id = eqb-true n id e in subst (λ (m : ℕ). IsLive t m) (sym same) (subst (λ (o : Option Value). IsSome o) (sym step.named) (kept (value_of s id) (subst (λ (m : ℕ). IsLive s m) same h)))
    by false e = subst (λ (o : Option Value). IsSome o) (sym (step.others n (other-number n id e))) h

-- a new value is live, and what was live stays so
pub makes-live : (s t : StoreState) (id : ℕ) (v : Value) → MakesValue s t id v → (n : ℕ) → IsLive s n → IsLive t n
makes-live s t id v step n h = by (n == id) refl
  where
    by : (e : Bool) → (n == id) ≡ e → IsLive t n
    by true e = let same : n ≡ id = eqb-true n id e in subst (λ (m : ℕ). IsLive t m) (sym same) (subst (λ (o : Option Value). IsSome o) (sym step.named) refl)
    by false e = subst (λ (o : Option Value). IsSome o) (sym (step.others n (other-number n id e))) h

-- a value that was just made may be freed again
pub made-can-free : (s t : StoreState) (id : ℕ) (b : Body) → IsSoundStore s → 5 ≤ s.made → MakesFresh s t id b → CanFree t (id ∷ [])
unfolding IsDistinct
made-can-free s t id b sound started step = record {
  live = All-cons (IsLive t) id [] (subst (λ (o : Option Value). IsSome o) (sym step.named) refl) (All-nil (IsLive t));
  distinct = alone id;
  not_starting = All-cons (λ n. IfSome (creation_number t n) (λ number. 5 < number)) id [] (subst (λ (o : Option Value). IfSome (option_map (λ v. v.number) o) (λ number. 5 < number)) (sym step.named) (later s.made started)) (All-nil (λ n. IfSome (creation_number t n) (λ number. 5 < number)));
  unnamed = λ n v is apart.
      let other : n ≢ id = λ same. differs n same apart in
      All-weaker (λ m. IsLive s m) (λ m. has_number m (id ∷ []) ≡ false) unnamed (children v) (sound.closed n v (sym (step.others n other) ∙ is));
}
  where
    alone : (id : ℕ) → IsDistinct nat_eq (id ∷ [])
    alone id = (tt, tt)

    later : (made : ℕ) → 5 ≤ made → 5 < made + 1
    later made h = omega arith

    differs : (n : ℕ) → n ≡ id → has_number n (id ∷ []) ≡ false → ⊥
    differs n same apart = grind arith

    unnamed : (m : ℕ) → IsLive s m → has_number m (id ∷ []) ≡ false
    unnamed m live = by (id == m) refl
      where
        by : (e : Bool) → (id == m) ≡ e → (e || false) ≡ false
        by false e = refl
        by true e =
            let same : id ≡ m = eqb-true id m e in
            let was : has_number m s.issued ≡ true = sound.given m live in
            let fresh : has_number id s.issued ≡ false = (or_parts (0 == id) (has_number id s.issued) step.fresh).1 in
            let both : has_number m s.issued ≡ false = subst (λ (k : ℕ). has_number k s.issued ≡ false) same fresh in
            let no : ⊥ = cc in absurd no
