-- What the records that are held say of the values of the state.
use Rattle.std.proofs.Common.{◌≡◌, ◌∙◌, ℕ, zero, suc, ◌+◌, ◌==◌, ◌||◌, nat_eq, Bool, true, false, not, is_some, cond, List, [], ◌∷◌, length, map, Option, Some, None, IsSome, option_map, slice_index_or, refl, ap, sym, subst}
use Rattle.std.specs.List.{filter_map, IsDistinct, AllByRecursion}
use Rattle.std.proofs.lemmas.Map.Keys.{IsDistinct-head, IsDistinct-tail}
use Rattle.std.proofs.lemmas.Bool.{eq-eqb}
use Rattle.generation_slab.specs.HeldPlaces.{HeldValue, HeldPlaces, standing, held, with_held, without_held, with_value, with_value_at, EachStandsOnce as EachHeldOnce, value_of as record_at}
use Rattle.napi_types.specs.plain.Lists.{found, has_number}
use Rattle.napi_types.specs.parts.Graph.{Stored, live, value_of}
use Rattle.napi_types.specs.parts.Values.{Value}
use Rattle.napi_types.proofs.plain.Found.{found-as_map, found-with_record, found-filter, found-number, has-with_number, turned, same-tells}
use Rattle.value_store.specs.declared.contents.Contents.{Contents}
use Rattle.value_store.specs.declared.contents.Contents.TheVariants.{Plain, One, Full}
use Rattle.value_store.specs.declared.record.ValueRecord.{ValueRecord}
use Rattle.value_store.specs.StoreChanges.{id_at, EachStandsOnce, MakesValue}
use Rattle.value_store.specs.Contents.{value_here, properties_here, elements_here, value_of_record, stored_as, state_of, AddsRecord}
use Rattle.value_store.proofs.Lookup.{apart-number}

abbrev number_held : HeldValue ValueRecord → ℕ
number_held h = h.number

-- WHAT A NUMBER NAMES
found-stored : (n : ℕ) (ps : List (Option (HeldValue ValueRecord))) → found (λ x. x.id) n (filter_map (λ place. place) (map (option_map stored_as) ps)) ≡ option_map stored_as (found number_held n (standing ps))
found-stored n [] = refl
found-stored n (None ∷ ps) = found-stored n ps
found-stored n (Some h ∷ ps) = by (h.number == n) (found-stored n ps)
  where
    by : (b : Bool) → found (λ x. x.id) n (filter_map (λ place. place) (map (option_map stored_as) ps)) ≡ option_map stored_as (found number_held n (standing ps))
        → cond b (Some (stored_as h)) (found (λ x. x.id) n (filter_map (λ place. place) (map (option_map stored_as) ps))) ≡ option_map stored_as (cond b (Some h) (found number_held n (standing ps)))
    by true rest = refl
    by false rest = rest

pub record-found : (s : HeldPlaces ValueRecord) (n : ℕ) → record_at s n ≡ option_map (λ h. h.value) (found number_held n (standing s.places))
record-found s n = ap (option_map (λ h. h.value)) (found-as_map number_held n (standing s.places))

pub value-held : (s : HeldPlaces ValueRecord) (made n : ℕ) → value_of (state_of s made) n ≡ option_map value_of_record (record_at s n)
value-held s made n =
    ap (option_map (λ (x : Stored). x.value)) (found-stored n s.places) ∙ twice (found number_held n (standing s.places)) ∙ sym (ap (option_map value_of_record) (record-found s n))
  where
    twice : (o : Option (HeldValue ValueRecord)) → option_map (λ (x : Stored). x.value) (option_map stored_as o) ≡ option_map value_of_record (option_map (λ h. h.value) o)
    twice None = refl
    twice (Some h) = refl

pub held-value : (s : HeldPlaces ValueRecord) (made n : ℕ) → IsSome (value_of (state_of s made) n) → IsSome (record_at s n)
held-value s made n some = by (record_at s n) refl
  where
    by : (o : Option ValueRecord) → record_at s n ≡ o → IsSome (record_at s n)
    by None is = let none : value_of (state_of s made) n ≡ None = value-held s made n ∙ ap (option_map value_of_record) is in let no : ⊥ = cc in absurd no
    by (Some r) is = subst (λ (o : Option ValueRecord). IsSome o) (sym is) refl

-- ONE RECORD MORE
pub record-added : (old new : HeldPlaces ValueRecord) (id : ℕ) (r : ValueRecord) → held new ≡ with_held id r (held old) → (n : ℕ) → record_at new n ≡ cond (id == n) (Some r) (record_at old n)
record-added old new id r holds n =
    ap (λ hs. option_map (λ h. h.value) (found number_held n hs)) holds
    ∙ ap (option_map (λ h. h.value)) (found-with_record number_held n (record { number = id; value = r }) (held old))
    ∙ by (id == n) (found number_held n (held old))
  where
    by : (b : Bool) (o : Option (HeldValue ValueRecord)) → option_map (λ (h : HeldValue ValueRecord). h.value) (cond b (Some (record { number = id; value = r })) o) ≡ cond b (Some r) (option_map (λ h. h.value) o)
    by true o = refl
    by false o = refl

pub adds-makes : (old new : HeldPlaces ValueRecord) (made id : ℕ) (r : ValueRecord) → AddsRecord old new id r → MakesValue (state_of old made) (state_of new (made + 1)) id (value_of_record r)
adds-makes old new made id r adds = record {
  fresh = adds.fresh;
  named = at id ∙ ap (λ b. cond b (Some (value_of_record r)) (value_of (state_of old made) id)) (eq-eqb id id refl);
  others = λ n apart. at n ∙ ap (λ b. cond b (Some (value_of_record r)) (value_of (state_of old made) n)) (turned id n ∙ apart-number n id apart);
  issued = λ n. ap (has_number n) adds.issued ∙ has-with_number n id old.issued ∙ ap (λ b. b || has_number n old.issued) (turned id n);
  made = refl;
}
  where
    by : (b : Bool) (o : Option ValueRecord) → option_map value_of_record (cond b (Some r) o) ≡ cond b (Some (value_of_record r)) (option_map value_of_record o)
    by true o = refl
    by false o = refl

    at : (n : ℕ) → value_of (state_of new (made + 1)) n ≡ cond (id == n) (Some (value_of_record r)) (value_of (state_of old made) n)
    at n =
        value-held new (made + 1) n ∙ ap (option_map value_of_record) (record-added old new id r adds.holds n) ∙ by (id == n) (record_at old n)
        ∙ ap (cond (id == n) (Some (value_of_record r))) (sym (value-held old made n))

-- ONE RECORD LESS
pub record-freed : (old new : HeldPlaces ValueRecord) (id : ℕ) → held new ≡ without_held id (held old) → (n : ℕ) → record_at new n ≡ cond (n == id) None (record_at old n)
record-freed old new id holds n =
    ap (λ hs. option_map (λ h. h.value) (found number_held n hs)) holds
    ∙ ap (option_map (λ h. h.value)) (found-filter number_held (λ m. not (m == id)) n (held old))
    ∙ by (n == id) (found number_held n (held old))
  where
    by : (b : Bool) (o : Option (HeldValue ValueRecord)) → option_map (λ (h : HeldValue ValueRecord). h.value) (cond (not b) o None) ≡ cond b None (option_map (λ h. h.value) o)
    by true o = refl
    by false o = refl

-- ONE RECORD CHANGED
module _ (n : ℕ) (r : ValueRecord) where
  abbrev change : HeldValue ValueRecord → HeldValue ValueRecord
  change h = cond (h.number == n) (with_value r h) h

  change-number : (h : HeldValue ValueRecord) → let q : HeldValue ValueRecord = change h in q.number ≡ h.number
  change-number h = by (h.number == n)
    where
      by : (b : Bool) → let q : HeldValue ValueRecord = cond b (with_value r h) h in q.number ≡ h.number
      by true = refl
      by false = refl

  found-changed : (m : ℕ) (ps : List (Option (HeldValue ValueRecord))) → found number_held m (standing (map (option_map change) ps)) ≡ option_map change (found number_held m (standing ps))
  found-changed m [] = refl
  found-changed m (None ∷ ps) = found-changed m ps
  found-changed m (Some h ∷ ps) =
      ap (λ k. cond (k == m) (Some (change h)) (found number_held m (standing (map (option_map change) ps)))) (change-number h) ∙ by (h.number == m) (found-changed m ps)
    where
      by : (b : Bool) → found number_held m (standing (map (option_map change) ps)) ≡ option_map change (found number_held m (standing ps))
          → cond b (Some (change h)) (found number_held m (standing (map (option_map change) ps))) ≡ option_map change (cond b (Some h) (found number_held m (standing ps)))
      by true rest = refl
      by false rest = rest

  pub record-changed : (s : HeldPlaces ValueRecord) (m : ℕ) → record_at (with_value_at n s r) m ≡ option_map (λ old. cond (m == n) r old) (record_at s m)
  record-changed s m =
      record-found (with_value_at n s r) m ∙ ap (option_map (λ (h : HeldValue ValueRecord). h.value)) (found-changed m s.places)
      ∙ by (found number_held m (standing s.places)) refl ∙ sym (ap (option_map (λ old. cond (m == n) r old)) (record-found s m))
    where
      each : (h : HeldValue ValueRecord) (b : Bool) → let q : HeldValue ValueRecord = cond b (with_value r h) h in q.value ≡ cond b r h.value
      each h true = refl
      each h false = refl

      by : (o : Option (HeldValue ValueRecord)) → found number_held m (standing s.places) ≡ o
          → option_map (λ (h : HeldValue ValueRecord). h.value) (option_map change o) ≡ option_map (λ old. cond (m == n) r old) (option_map (λ h. h.value) o)
      by None is = refl
      by (Some h) is = ap Some (each h (h.number == n) ∙ ap (λ k. cond (k == n) r h.value) (found-number number_held m (standing s.places) h is))

  numbers-changed : (ps : List (Option (HeldValue ValueRecord))) → map number_held (standing (map (option_map change) ps)) ≡ map number_held (standing ps)
  numbers-changed [] = refl
  numbers-changed (None ∷ ps) = numbers-changed ps
  numbers-changed (Some h ∷ ps) = ap (λ k. k ∷ map number_held (standing (map (option_map change) ps))) (change-number h) ∙ ap (λ ns. h.number ∷ ns) (numbers-changed ps)

  pub once-changed : (s : HeldPlaces ValueRecord) → EachHeldOnce s → EachHeldOnce (with_value_at n s r)
  once-changed s once = subst (IsDistinct nat_eq) (sym (numbers-changed s.places)) once

  -- a record that is put where it was changes nothing
  kept-apart : (ps : List (Option (HeldValue ValueRecord))) → AllByRecursion (λ m. nat_eq n m ≡ false) (map number_held (standing ps)) → map (option_map change) ps ≡ ps
  kept-apart [] apart = refl
  kept-apart (None ∷ ps) apart = ap (λ qs. None ∷ qs) (kept-apart ps apart)
  kept-apart (Some h ∷ ps) apart =
      ap (λ b. Some (cond b (with_value r h) h) ∷ map (option_map change) ps) (turned h.number n ∙ apart.0) ∙ ap (λ qs. Some h ∷ qs) (kept-apart ps apart.1)

  kept-same : (ps : List (Option (HeldValue ValueRecord))) → IsDistinct nat_eq (map number_held (standing ps)) → option_map (λ h. h.value) (found number_held n (standing ps)) ≡ Some r → map (option_map change) ps ≡ ps
  kept-same [] once is = refl
  kept-same (None ∷ ps) once is = ap (λ qs. None ∷ qs) (kept-same ps once is)
  kept-same (Some h ∷ ps) once is =
      by (h.number == n) refl is (kept-same ps (IsDistinct-tail nat_eq h.number (map number_held (standing ps)) once))
    where
      by : (b : Bool) → (h.number == n) ≡ b → option_map (λ (g : HeldValue ValueRecord). g.value) (cond b (Some h) (found number_held n (standing ps))) ≡ Some r
          → (option_map (λ (g : HeldValue ValueRecord). g.value) (found number_held n (standing ps)) ≡ Some r → map (option_map change) ps ≡ ps) → Some (change h) ∷ map (option_map change) ps ≡ Some h ∷ ps
      by true e here rest =
          let value : h.value ≡ r = cc in
          let same : h.number ≡ n = same-tells h.number n e in
          ap (λ b. Some (cond b (with_value r h) h) ∷ map (option_map change) ps) e
          ∙ ap (λ v. Some (with_value v h) ∷ map (option_map change) ps) (sym value)
          ∙ ap (λ qs. Some h ∷ qs) (kept-apart ps (subst (λ m. AllByRecursion (λ k. nat_eq m k ≡ false) (map number_held (standing ps))) same (IsDistinct-head nat_eq h.number (map number_held (standing ps)) once)))
      by false e here rest = ap (λ b. Some (cond b (with_value r h) h) ∷ map (option_map change) ps) e ∙ ap (λ qs. Some h ∷ qs) (rest here)

  pub same-record : (s : HeldPlaces ValueRecord) → EachHeldOnce s → record_at s n ≡ Some r → with_value_at n s r ≡ s
  same-record s once is = ap (λ ps. record s { places = ps }) (kept-same s.places once (sym (record-found s n) ∙ is))

-- WHERE IT STANDS
stored-at : (ps : List (Option (HeldValue ValueRecord))) (place : ℕ) → slice_index_or (map (option_map stored_as) ps) place None ≡ option_map stored_as (slice_index_or ps place None)
stored-at [] place = refl
stored-at (p ∷ ps) zero = refl
stored-at (p ∷ ps) (suc place) = stored-at ps place

pub id-held : (s : HeldPlaces ValueRecord) (made place : ℕ) → id_at (state_of s made) place ≡ option_map (λ h. h.number) (slice_index_or s.places place None)
id-held s made place = ap (option_map (λ (x : Stored). x.id)) (stored-at s.places place) ∙ twice (slice_index_or s.places place None)
  where
    twice : (o : Option (HeldValue ValueRecord)) → option_map (λ (x : Stored). x.id) (option_map stored_as o) ≡ option_map (λ h. h.number) o
    twice None = refl
    twice (Some h) = refl

abbrev number_at : List (Option (HeldValue ValueRecord)) → ℕ → Option ℕ
number_at ps place = option_map number_held (slice_index_or ps place None)

none-later : (n : ℕ) (ps : List (Option (HeldValue ValueRecord))) (place : ℕ) → AllByRecursion (λ m. nat_eq n m ≡ false) (map number_held (standing ps)) → number_at ps place ≡ Some n → ⊥
none-later n [] place apart is = cc
none-later n (None ∷ ps) zero apart is = cc
none-later n (Some h ∷ ps) zero apart is = let same : h.number ≡ n = cc in let told : (n == h.number) ≡ true = eq-eqb n h.number (sym same) in let other = apart.0 in cc
none-later n (None ∷ ps) (suc place) apart is = none-later n ps place apart is
none-later n (Some h ∷ ps) (suc place) apart is = none-later n ps place apart.1 is

stands-once : (ps : List (Option (HeldValue ValueRecord))) → IsDistinct nat_eq (map number_held (standing ps)) → (n first second : ℕ) → number_at ps first ≡ Some n → number_at ps second ≡ Some n → first ≡ second
stands-once [] once n first second here there = let no : ⊥ = cc in absurd no
stands-once (p ∷ ps) once n zero zero here there = refl
stands-once (None ∷ ps) once n zero (suc second) here there = let no : ⊥ = cc in absurd no
stands-once (None ∷ ps) once n (suc first) zero here there = let no : ⊥ = cc in absurd no
stands-once (None ∷ ps) once n (suc first) (suc second) here there = ap suc (stands-once ps once n first second here there)
stands-once (Some h ∷ ps) once n zero (suc second) here there =
    let same : h.number ≡ n = cc in
    absurd (none-later n ps second (subst (λ m. AllByRecursion (λ k. nat_eq m k ≡ false) (map number_held (standing ps))) same (IsDistinct-head nat_eq h.number (map number_held (standing ps)) once)) there)
stands-once (Some h ∷ ps) once n (suc first) zero here there =
    let same : h.number ≡ n = cc in
    absurd (none-later n ps first (subst (λ m. AllByRecursion (λ k. nat_eq m k ≡ false) (map number_held (standing ps))) same (IsDistinct-head nat_eq h.number (map number_held (standing ps)) once)) here)
stands-once (Some h ∷ ps) once n (suc first) (suc second) here there = ap suc (stands-once ps (IsDistinct-tail nat_eq h.number (map number_held (standing ps)) once) n first second here there)

pub once-held : (s : HeldPlaces ValueRecord) (made : ℕ) → EachHeldOnce s → EachStandsOnce (state_of s made)
once-held s made once id first second here there = stands-once s.places once id first second (sym (id-held s made first) ∙ here) (sym (id-held s made second) ∙ there)

-- HOW MANY LIVE
pub many-live : (s : HeldPlaces ValueRecord) (made : ℕ) → length (live (state_of s made)) ≡ length (standing s.places)
many-live s made = many s.places
  where
    many : (ps : List (Option (HeldValue ValueRecord))) → length (filter_map (λ place. place) (map (option_map stored_as) ps)) ≡ length (standing ps)
    many [] = refl
    many (None ∷ ps) = many ps
    many (Some h ∷ ps) = ap suc (many ps)

-- WHAT A RECORD'S VALUE HAS
-- a value has the creation number that it is made with
pub number-here : (n : ℕ) (p : Contents) → let v : Value = value_here n p in v.number ≡ n
number-here n (Plain b) = refl
number-here n (One name to b) = refl
number-here n (Full b parts) = refl

pub properties-here : (n : ℕ) (p : Contents) → let v : Value = value_here n p in v.properties ≡ properties_here p
properties-here n (Plain b) = refl
properties-here n (One name to b) = refl
properties-here n (Full b parts) = refl

pub elements-here : (n : ℕ) (p : Contents) → let v : Value = value_here n p in v.elements ≡ elements_here p
elements-here n (Plain b) = refl
elements-here n (One name to b) = refl
elements-here n (Full b parts) = refl

-- a place is vacant where no record stands
pub vacant-held : (s : HeldPlaces ValueRecord) (made : ℕ) → map (λ place. not (is_some place)) (state_of s made).places ≡ map (λ place. not (is_some place)) s.places
vacant-held s made = each s.places
  where
    one : (o : Option (HeldValue ValueRecord)) → not (is_some (option_map stored_as o)) ≡ not (is_some o)
    one None = refl
    one (Some h) = refl

    each : (ps : List (Option (HeldValue ValueRecord))) → map (λ place. not (is_some place)) (map (option_map stored_as) ps) ≡ map (λ place. not (is_some place)) ps
    each [] = refl
    each (o ∷ ps) = ap (λ b. b ∷ map (λ place. not (is_some place)) (map (option_map stored_as) ps)) (one o) ∙ ap (λ bs. not (is_some o) ∷ bs) (each ps)
