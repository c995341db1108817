-- What the calls of a store leave of its map from numbers to values.
use Rattle.std.proofs.Common.{◌≡◌, ◌≢◌, ◌⊎◌, inl, inr, ◌∙◌, ℕ, ◌+◌, ◌<◌, ◌≤◌, ◌==◌, ◌||◌, Bool, true, false, Option, Some, None, IsSome, IfSome, option_map, slice_index_or, List, refl, ap, sym, subst, arith}
use Rattle.std.specs.List.{All}
use Rattle.std.proofs.lemmas.Bool.{eqb-true, eq-eqb, or_parts}
use Rattle.std.proofs.lemmas.List.Elements.{All-weaker}
use Rattle.std.proofs.lemmas.Option.{same_Some}
use Rattle.napi_types.specs.declared.ids.ValueId.{ValueId}
use Rattle.napi_types.specs.plain.Lists.{has_number}
use Rattle.napi_types.specs.parts.Graph.{StoreState, IsLive, value_of, creation_number}
use Rattle.napi_types.specs.parts.Properties.{HasDistinctNames}
use Rattle.napi_types.specs.parts.Values.{Value, children}
use Rattle.napi_types.proofs.plain.Maps.{among-holds}
use Rattle.value_store.specs.StoreChanges.{EachStandsOnce, MakesValue, ChangesOnly, Frees, CanFree, IsStarting}
use Rattle.value_store.specs.Contents.{IsGood, NameStarting}
use Rattle.value_store.proofs.Callers.{makes-live, changes-live}
use Rattle.value_store.proofs.Lookup.{other-number}
use Rattle.value_store.proofs.ReadingPlaces.{some-is}

-- A VALUE IS MADE
module _ (s t : StoreState) (id : ℕ) (v : Value) (good : IsGood s) (step : MakesValue s t id v) where
  -- a new number names nothing that was there
  pub fresh-apart : (n : ℕ) → has_number n s.issued ≡ true → n ≢ id
  fresh-apart n given same =
      let fresh : has_number id s.issued ≡ false = (or_parts (0 == id) (has_number id s.issued) step.fresh).1 in
      let no : true ≡ false = sym given ∙ ap (λ m. has_number m s.issued) same ∙ fresh in cc

  pub live-apart : (n : ℕ) → IsLive s n → n ≢ id
  live-apart n live = fresh-apart n (good.sound.given n live)

  pub live-kept : (n : ℕ) → IsLive s n → value_of t n ≡ value_of s n
  live-kept n live = step.others n (live-apart n live)

  -- what is there is the new value, or was there
  pub made-or : (n : ℕ) (w : Value) → value_of t n ≡ Some w → ((n ≡ id) × (w ≡ v)) ⊎ (value_of s n ≡ Some w)
  made-or n w is = by (n == id) refl
    where
      by : (b : Bool) → (n == id) ≡ b → ((n ≡ id) × (w ≡ v)) ⊎ (value_of s n ≡ Some w)
      by true e = let same : n ≡ id = eqb-true n id e in inl (same, same_Some w v (sym is ∙ ap (value_of t) same ∙ step.named))
      by false e = inr (sym (step.others n (other-number n id e)) ∙ is)

  pub made-good : EachStandsOnce t → v.number ≡ s.made + 1 → HasDistinctNames v.properties → All (IsLive s) (children v) → IsGood t
  made-good once number names closed = record {
    once = once;
    sound = record {
      given = λ n some. let w = some-is (value_of t n) some in elim (made-or n w.0 w.1) [
        | inl here ↦ step.issued n ∙ ap (λ b. b || has_number n s.issued) (eq-eqb n id here.0)
        | inr there ↦ step.issued n ∙ ap (λ b. (n == id) || b) (good.sound.given n (subst (λ (o : Option Value). IsSome o) (sym there) refl)) ∙ or-true (n == id)
      ];
      positive = step.issued 0 ∙ ap (λ b. b || has_number 0 s.issued) ((or_parts (0 == id) (has_number id s.issued) step.fresh).0) ∙ good.sound.positive;
      counted = λ n w is. elim (made-or n w is) [
        | inl here ↦ counted-new w here.1
        | inr there ↦ let was = good.sound.counted n w there in (was.0, omega (arith, was.1, step.made))
      ];
      apart = λ m n w u first second same. elim (made-or m w first) [
        | inl here ↦ elim (made-or n u second) [
          | inl here2 ↦ here.0 ∙ sym here2.0
          | inr there2 ↦ absurd (above w u here.1 n there2 same)
        ]
        | inr there ↦ elim (made-or n u second) [
          | inl here2 ↦ absurd (above u w here2.1 m there (sym same))
          | inr there2 ↦ good.sound.apart m n w u there there2 same
        ]
      ];
      names = λ n w is. elim (made-or n w is) [
        | inl here ↦ subst (λ (u : Value). HasDistinctNames u.properties) (sym here.1) names
        | inr there ↦ good.sound.names n w there
      ];
      closed = λ n w is. elim (made-or n w is) [
        | inl here ↦ subst (λ (u : Value). All (IsLive t) (children u)) (sym here.1) (All-weaker (IsLive s) (IsLive t) (makes-live s t id v step) (children v) closed)
        | inr there ↦ All-weaker (IsLive s) (IsLive t) (makes-live s t id v step) (children w) (good.sound.closed n w there)
      ];
    };
  }
    where
      or-true : (b : Bool) → (b || true) ≡ true
      or-true true = refl
      or-true false = refl

      counted-new : (w : Value) → w ≡ v → (0 < w.number) × (w.number ≤ t.made)
      counted-new w same = let is : w.number ≡ s.made + 1 = ap (λ (u : Value). u.number) same ∙ number in (omega (arith, is), omega (arith, is, step.made))

      above : (w u : Value) → w ≡ v → (n : ℕ) → value_of s n ≡ Some u → w.number ≡ u.number → ⊥
      above w u same n there equal =
          let is : w.number ≡ s.made + 1 = ap (λ (x : Value). x.number) same ∙ number in
          let was : (0 < u.number) × (u.number ≤ s.made) = good.sound.counted n u there in
          omega (arith, is, was.1, equal)

-- A VALUE IS CHANGED
module _ (s t : StoreState) (id : ℕ) (change : Value → Value) (good : IsGood s) (step : ChangesOnly s t id change) (keeps : (v : Value) → let w : Value = change v in w.number ≡ v.number) where
  -- what is there is the changed value, or was there
  pub changed-or : (n : ℕ) (w : Value) → value_of t n ≡ Some w → (v : Value) × (value_of s n ≡ Some v) × (w.number ≡ v.number) × (((n ≡ id) × (w ≡ change v)) ⊎ (w ≡ v))
  changed-or n w is = by (n == id) refl
    where
      mapped : (o : Option Value) → option_map change o ≡ Some w → value_of s id ≡ o → (v : Value) × (value_of s id ≡ Some v) × (w ≡ change v)
      mapped None here at = let no : ⊥ = cc in absurd no
      mapped (Some v) here at = (v, at, same_Some w (change v) (sym here))

      by : (b : Bool) → (n == id) ≡ b → (v : Value) × (value_of s n ≡ Some v) × (w.number ≡ v.number) × (((n ≡ id) × (w ≡ change v)) ⊎ (w ≡ v))
      by true e =
          let same : n ≡ id = eqb-true n id e in
          let r = mapped (value_of s id) (sym step.named ∙ ap (value_of t) (sym same) ∙ is) refl in
          (r.0, ap (value_of s) same ∙ r.1, ap (λ (u : Value). u.number) r.2 ∙ keeps r.0, inl (same, r.2))
      by false e = (w, sym (step.others n (other-number n id e)) ∙ is, refl, inr refl)

  pub changed-good : EachStandsOnce t → ((v : Value) → value_of s id ≡ Some v → let w : Value = change v in HasDistinctNames w.properties × All (IsLive s) (children w)) → IsGood t
  changed-good once fits = record {
    once = once;
    sound = record {
      given = λ n some.
          let w = some-is (value_of t n) some in
          let r = changed-or n w.0 w.1 in
          ap (has_number n) step.nothing_issued.issued ∙ good.sound.given n (subst (λ (o : Option Value). IsSome o) (sym r.1) refl);
      positive = ap (has_number 0) step.nothing_issued.issued ∙ good.sound.positive;
      counted = λ n w is.
          let r = changed-or n w is in
          let was = good.sound.counted n r.0 r.1 in (omega (arith, was.0, r.2), omega (arith, was.1, r.2, step.nothing_issued.made));
      apart = λ m n w u first second same.
          let p = changed-or m w first in
          let q = changed-or n u second in
          good.sound.apart m n p.0 q.0 p.1 q.1 (sym p.2 ∙ same ∙ q.2);
      names = λ n w is.
          let r = changed-or n w is in
          elim r.3 [
            | inl here ↦ subst (λ (u : Value). HasDistinctNames u.properties) (sym here.1) (fits r.0 (ap (value_of s) (sym here.0) ∙ r.1)).0
            | inr there ↦ subst (λ (u : Value). HasDistinctNames u.properties) (sym there) (good.sound.names n r.0 r.1)
          ];
      closed = λ n w is.
          let r = changed-or n w is in
          All-weaker (IsLive s) (IsLive t) (changes-live s t id change step) (children w)
          (elim r.3 [
            | inl here ↦ subst (λ (u : Value). All (IsLive s) (children u)) (sym here.1) (fits r.0 (ap (value_of s) (sym here.0) ∙ r.1)).1
            | inr there ↦ subst (λ (u : Value). All (IsLive s) (children u)) (sym there) (good.sound.closed n r.0 r.1)
          ]);
    };
  }

-- VALUES ARE FREED
module _ (s t : StoreState) (ids : List ℕ) (good : IsGood s) (step : Frees s t ids) (can : CanFree s ids) where
  -- what is there was there, and is none of those that were freed
  pub freed-was : (n : ℕ) (w : Value) → value_of t n ≡ Some w → (value_of s n ≡ Some w) × (has_number n ids ≡ false)
  freed-was n w is = by (has_number n ids) refl
    where
      by : (b : Bool) → has_number n ids ≡ b → (value_of s n ≡ Some w) × (has_number n ids ≡ false)
      by true e = let gone : value_of t n ≡ None = step.gone n e in let no : ⊥ = cc in absurd no
      by false e = (sym (step.others n e) ∙ is, e)

  freed-live : (n : ℕ) → IsLive s n → has_number n ids ≡ false → IsLive t n
  freed-live n live apart = subst (λ (o : Option Value). IsSome o) (sym (step.others n apart)) live

  pub freed-good : EachStandsOnce t → IsGood t
  freed-good once = record {
    once = once;
    sound = record {
      given = λ n some.
          let w = some-is (value_of t n) some in
          ap (has_number n) step.nothing_issued.issued ∙ good.sound.given n (subst (λ (o : Option Value). IsSome o) (sym (freed-was n w.0 w.1).0) refl);
      positive = ap (has_number 0) step.nothing_issued.issued ∙ good.sound.positive;
      counted = λ n w is. let was = good.sound.counted n w (freed-was n w is).0 in (was.0, omega (arith, was.1, step.nothing_issued.made));
      apart = λ m n w u first second same. good.sound.apart m n w u (freed-was m w first).0 (freed-was n u second).0 same;
      names = λ n w is. good.sound.names n w (freed-was n w is).0;
      closed = λ n w is.
          let was = freed-was n w is in
          λ k d less. freed-live _ (good.sound.closed n w was.0 k d less) (can.unnamed n w was.0 was.1 k d less);
    };
  }

-- THE STARTING VALUES
-- a starting value is where its number names the same value
pub starting-same : (s t : StoreState) (which id : ℕ) → value_of t id ≡ value_of s id → IsStarting s which id → IsStarting t which id
starting-same s t which id same is = record {
  number = ap (option_map (λ (v : Value). v.number)) same ∙ is.number;
  body = ap (option_map (λ (v : Value). v.body)) same ∙ is.body;
}

pub starting-live : (s : StoreState) (which id : ℕ) → IsStarting s which id → IsLive s id
starting-live s which id is = by (value_of s id) refl
  where
    by : (o : Option Value) → value_of s id ≡ o → IsLive s id
    by None at = let none : Some (which + 1) ≡ None = sym is.number ∙ ap (option_map (λ (v : Value). v.number)) at in let no : ⊥ = cc in absurd no
    by (Some v) at = subst (λ (o : Option Value). IsSome o) (sym at) refl

-- what was issued names the same value
pub starting-kept : (s t : StoreState) (ids : List ValueId) → IsGood s → ((n : ℕ) → has_number n s.issued ≡ true → value_of t n ≡ value_of s n) → NameStarting s ids → NameStarting t ids
starting-kept s t ids good kept are = λ which d less.
    let is = are which d less in
    starting-same s t which (slice_index_or ids which d).0 (kept (slice_index_or ids which d).0 (good.sound.given (slice_index_or ids which d).0 (starting-live s which (slice_index_or ids which d).0 is))) is

pub starting-changed : (s t : StoreState) (id : ℕ) (change : Value → Value) (ids : List ValueId) → ChangesOnly s t id change → ((v : Value) → let w : Value = change v in (w.number ≡ v.number) × (w.body ≡ v.body))
    → NameStarting s ids → NameStarting t ids
starting-changed s t id change ids step keeps are = λ which d less. one which (slice_index_or ids which d).0 (are which d less)
  where
    numbers : (o : Option Value) → option_map (λ (v : Value). v.number) (option_map change o) ≡ option_map (λ v. v.number) o
    numbers None = refl
    numbers (Some v) = ap Some (keeps v).0

    bodies : (o : Option Value) → option_map (λ (v : Value). v.body) (option_map change o) ≡ option_map (λ v. v.body) o
    bodies None = refl
    bodies (Some v) = ap Some (keeps v).1

    one : (which n : ℕ) → IsStarting s which n → IsStarting t which n
    one which n is = by (n == id) refl
      where
        by : (b : Bool) → (n == id) ≡ b → IsStarting t which n
        by true e =
            let same : n ≡ id = eqb-true n id e in
            let at : value_of t n ≡ option_map change (value_of s n) = ap (value_of t) same ∙ step.named ∙ ap (λ m. option_map change (value_of s m)) (sym same) in
            record {
              number = ap (option_map (λ (v : Value). v.number)) at ∙ numbers (value_of s n) ∙ is.number;
              body = ap (option_map (λ (v : Value). v.body)) at ∙ bodies (value_of s n) ∙ is.body;
            }
        by false e = starting-same s t which n (step.others n (other-number n id e)) is

pub starting-freed : (s t : StoreState) (gone : List ℕ) (ids : List ValueId) → Frees s t gone → CanFree s gone → NameStarting s ids → NameStarting t ids
starting-freed s t gone ids step can are = λ which d less. one which (slice_index_or ids which d).0 less (are which d less)
  where
    one : (which n : ℕ) → which < 5 → IsStarting s which n → IsStarting t which n
    one which n less is = by (has_number n gone) refl
      where
        by : (b : Bool) → has_number n gone ≡ b → IsStarting t which n
        by true e =
            let high : IfSome (creation_number s n) (λ number. 5 < number) = among-holds (λ id. IfSome (creation_number s id) (λ number. 5 < number)) gone n can.not_starting e in
            let over : 5 < which + 1 = subst (λ (o : Option ℕ). IfSome o (λ number. 5 < number)) is.number high in
            absurd (omega (arith, over, less))
        by false e = starting-same s t which n (step.others n e) is
