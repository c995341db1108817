-- The value graph of a state, number by number.
use Rattle.std.proofs.Common.{◌≡◌, ◌≢◌, ◌⊎◌, inl, inr, ◌∙◌, ℕ, zero, suc, ◌+◌, ◌<◌, ◌≤◌, ◌==◌, ◌||◌, Bool, true, false, not, cond, List, [], ◌∷◌, ◌++◌, map, filter, Option, Some, None, IsSome, IfSome, option_map, option_to_list, refl, ap, sym, subst, arith}
use Rattle.std.specs.List.{All, filter_map, range_with_len, cons_option}
use Rattle.std.specs.Option.{unwrap_or}
use Rattle.std.proofs.lemmas.Bool.{eqb-true, eq-eqb}
use Rattle.std.proofs.lemmas.List.Elements.{All-head, All-tail, filter_map-append}
use Rattle.napi_types.specs.plain.Lists.{has_number}
use Rattle.napi_types.specs.parts.Graph.{StoreState, live, IsLive, value_of, number_in, renamed, graph_of}
use Rattle.napi_types.specs.parts.Properties.{Property}
use Rattle.napi_types.specs.parts.Values.{Value, children, value_at, value_changed}
use Rattle.napi_types.proofs.parts.ChildParts.{properties-of, elements-of, link-of}
use Rattle.value_store.specs.StoreChanges.{MakesValue, ChangesOnly, Frees, CanFree}
use Rattle.value_store.specs.Contents.{IsGood}
use Rattle.value_store.proofs.LiveValues.{values, value_at-numbered, numbered-place, place-value, value-listed, graph_value, graph_value-numbered, number-value, graph-value}
use Rattle.value_store.proofs.Lookup.{apart-number, other-number}
use Rattle.value_store.proofs.NamedPlaces.{to_options}
use Rattle.value_store.proofs.ReadingPlaces.{some-is}
use Rattle.value_store.proofs.StoreStates.{made-or, live-kept, changed-or, freed-was}

-- LISTS OF OPTIONS
option-same : {A : Type 0} (o p : Option A) → ((v : A) → o ≡ Some v → p ≡ Some v) → ((v : A) → p ≡ Some v → o ≡ Some v) → o ≡ p
option-same None None there back = refl
option-same None (Some w) there back = back w refl
option-same (Some v) p there back = sym (there v refl)

mapped-same : (f g : ℕ → Option Value) (ns : List ℕ) → ((n : ℕ) → has_number n ns ≡ true → f n ≡ g n) → filter_map f ns ≡ filter_map g ns
mapped-same f g [] same = refl
mapped-same f g (n ∷ ns) same =
    ap (λ o. cons_option o (filter_map f ns)) (same n (ap (λ b. b || has_number n ns) (eq-eqb n n refl)))
    ∙ ap (cons_option (g n)) (mapped-same f g ns (λ m has. same m (ap (λ b. (n == m) || b) has ∙ or-true (n == m))))
  where
    or-true : (b : Bool) → (b || true) ≡ true
    or-true true = refl
    or-true false = refl

map-mapped : (h : Value → Value) (f : ℕ → Option Value) (ns : List ℕ) → map h (filter_map f ns) ≡ filter_map (λ n. option_map h (f n)) ns
map-mapped h f [] = refl
map-mapped h f (n ∷ ns) = by (f n) (map-mapped h f ns)
  where
    by : (o : Option Value) → map h (filter_map f ns) ≡ filter_map (λ m. option_map h (f m)) ns → map h (cons_option o (filter_map f ns)) ≡ cons_option (option_map h o) (filter_map (λ m. option_map h (f m)) ns)
    by None rest = rest
    by (Some v) rest = ap (λ l. h v ∷ l) rest

abbrev passing : (Value → Bool) → Option Value → Option Value
passing p None = None
passing p (Some v) = cond (p v) (Some v) None

filter-mapped : (p : Value → Bool) (f : ℕ → Option Value) (ns : List ℕ) → filter p (filter_map f ns) ≡ filter_map (λ n. passing p (f n)) ns
filter-mapped p f [] = refl
filter-mapped p f (n ∷ ns) = by (f n) (filter-mapped p f ns)
  where
    each : (v : Value) (b : Bool) → filter p (filter_map f ns) ≡ filter_map (λ m. passing p (f m)) ns
        → cond b (v ∷ filter p (filter_map f ns)) (filter p (filter_map f ns)) ≡ cons_option (cond b (Some v) None) (filter_map (λ m. passing p (f m)) ns)
    each v true rest = ap (λ l. v ∷ l) rest
    each v false rest = rest

    by : (o : Option Value) → filter p (filter_map f ns) ≡ filter_map (λ m. passing p (f m)) ns → filter p (cons_option o (filter_map f ns)) ≡ cons_option (passing p o) (filter_map (λ m. passing p (f m)) ns)
    by None rest = rest
    by (Some v) rest = each v (p v) rest

-- the numbers from 1 on
pub counted-within : (from many n : ℕ) → has_number n (range_with_len from many) ≡ true → (from ≤ n) × (n < from + many)
counted-within from zero n has = let no : ⊥ = cc in absurd no
counted-within from (suc many) n has = by (from == n) refl has (counted-within (from + 1) many n)
  where
    by : (b : Bool) → (from == n) ≡ b → (b || has_number n (range_with_len (from + 1) many)) ≡ true
        → (has_number n (range_with_len (from + 1) many) ≡ true → (from + 1 ≤ n) × (n < from + 1 + many)) → (from ≤ n) × (n < from + suc many)
    by true e is rest = let same : from ≡ n = eqb-true from n e in (omega (arith, same), omega (arith, same))
    by false e is rest = let r = rest is in (omega (arith, r.0), omega (arith, r.1))

pub counted-more : (from many last : ℕ) → from + many ≡ last → range_with_len from (suc many) ≡ range_with_len from many ++ last ∷ []
counted-more from zero last is = ap (λ n. n ∷ []) (omega (arith, is))
counted-more from (suc many) last is = ap (λ ns. from ∷ ns) (counted-more (from + 1) many last (omega (arith, is)))

-- A STATE BY CREATION NUMBERS
module _ (s : StoreState) (good : IsGood s) where
  -- the value of a creation number
  pub numbered : (id : ℕ) (v : Value) → value_of s id ≡ Some v → value_at (values s.places) v.number ≡ Some v
  numbered id v is = value-listed s good.once good.sound id v is

  pub valued : (n : ℕ) (v : Value) → value_at (values s.places) n ≡ Some v → (id : ℕ) × (value_of s id ≡ Some v) × (v.number ≡ n)
  valued n v is =
      let r = numbered-place s.places n v is in
      (r.1.id, place-value s good.once r.0 r.1 r.2 ∙ ap Some r.3, r.4)

  -- whatever has a creation number is live
  pub number-live : (id n : ℕ) → number_in s id ≡ n → 0 < n → (v : Value) × (value_of s id ≡ Some v) × (v.number ≡ n)
  number-live id n is some = by (value_of s id) refl
    where
      by : (o : Option Value) → value_of s id ≡ o → (v : Value) × (value_of s id ≡ Some v) × (v.number ≡ n)
      by None at = let none : number_in s id ≡ 0 = ap (λ (o : Option Value). unwrap_or (option_map (λ w. w.number) o) 0) at in absurd (omega (arith, none, is, some))
      by (Some v) at = (v, at, sym (number-value s id v at) ∙ is)

  none-numbered : (n : ℕ) → (n ≡ 0) ⊎ (s.made < n) → value_at (values s.places) n ≡ None
  none-numbered n outside = by (value_at (values s.places) n) refl
    where
      by : (o : Option Value) → value_at (values s.places) n ≡ o → o ≡ None
      by None is = refl
      by (Some v) is =
          let r = valued n v is in
          let counted = good.sound.counted r.0 v r.1 in
          absurd (elim outside [
            | inl zero_is ↦ omega (arith, zero_is, counted.0, r.2)
            | inr over ↦ omega (arith, over, counted.1, r.2)
          ])

  -- and so the graph has at a number the value, named by creation numbers
  pub graph-none : value_at (graph_of s) 0 ≡ None
  graph-none = value_at-numbered (graph_value s) (graph_value-numbered s) (range_with_len 1 s.made) 0 ∙ chosen (has_number 0 (range_with_len 1 s.made)) (ap (option_map (renamed s)) (none-numbered 0 (inl refl)))
    where
      chosen : (b : Bool) → graph_value s 0 ≡ None → cond b (graph_value s 0) None ≡ None
      chosen true none = none
      chosen false none = refl

  pub graph-read : (id : ℕ) → value_at (graph_of s) (number_in s id) ≡ option_map (renamed s) (value_of s id)
  graph-read id = by (value_of s id) refl
    where
      by : (o : Option Value) → value_of s id ≡ o → value_at (graph_of s) (number_in s id) ≡ option_map (renamed s) (value_of s id)
      by None at =
          ap (value_at (graph_of s)) (ap (λ (o : Option Value). unwrap_or (option_map (λ w. w.number) o) 0) at) ∙ graph-none ∙ sym (ap (option_map (renamed s)) at)
      by (Some v) at = graph-value s good.once good.sound id v at ∙ sym (ap (option_map (renamed s)) at)

-- two states name a value's parts the same
module _ (s t : StoreState) (P : ℕ → Type 0) (same : (m : ℕ) → P m → number_in t m ≡ number_in s m) where
  same-properties : (qs : List Property) → All P (map (λ p. p.value) qs)
      → map (λ (p : Property). record p { value = number_in t p.value }) qs ≡ map (λ (p : Property). record p { value = number_in s p.value }) qs
  same-properties [] h = refl
  same-properties (p ∷ qs) h =
      ap (λ n. record p { value = n } ∷ map (λ (q : Property). record q { value = number_in t q.value }) qs) (same p.value (All-head P p.value (map (λ q. q.value) qs) h))
      ∙ ap (λ l. record p { value = number_in s p.value } ∷ l) (same-properties qs (All-tail P p.value (map (λ q. q.value) qs) h))

  same-elements : (es : List (Option ℕ)) → All (λ e. IfSome e P) es → map (option_map (number_in t)) es ≡ map (option_map (number_in s)) es
  same-elements [] h = refl
  same-elements (None ∷ es) h = ap (λ l. None ∷ l) (same-elements es (All-tail (λ e. IfSome e P) None es h))
  same-elements (Some m ∷ es) h =
      ap (λ n. Some n ∷ map (option_map (number_in t)) es) (same m (All-head (λ e. IfSome e P) (Some m) es h))
      ∙ ap (λ l. Some (number_in s m) ∷ l) (same-elements es (All-tail (λ e. IfSome e P) (Some m) es h))

  same-link : (o : Option ℕ) → All P (option_to_list o) → option_map (number_in t) o ≡ option_map (number_in s) o
  same-link None h = refl
  same-link (Some m) h = ap Some (same m (All-head P m [] h))

  pub renamed-same : (v : Value) → All P (children v) → renamed t v ≡ renamed s v
  renamed-same v h =
      ap (λ qs. record (renamed t v) { properties = qs }) (same-properties v.properties (properties-of P v h))
      ∙ ap (λ es. record (renamed s v) { elements = es; link = option_map (number_in t) v.link }) (same-elements v.elements (to_options P v.elements (elements-of P v h)))
      ∙ ap (λ o. record (renamed s v) { link = o }) (same-link v.link (link-of P v h))

pub number-of-same : (s t : StoreState) (m : ℕ) → value_of t m ≡ value_of s m → number_in t m ≡ number_in s m
number-of-same s t m same = ap (λ (o : Option Value). unwrap_or (option_map (λ w. w.number) o) 0) same

-- A VALUE IS MADE
module _ (s t : StoreState) (id : ℕ) (v : Value) (good : IsGood s) (after : IsGood t) (step : MakesValue s t id v) (number : v.number ≡ s.made + 1) (closed : All (IsLive s) (children v)) where
  pub made-number : (m : ℕ) → IsLive s m → number_in t m ≡ number_in s m
  made-number m live = number-of-same s t m (live-kept s t id v good step m live)

  at-before : (n : ℕ) → n ≤ s.made → value_at (values t.places) n ≡ value_at (values s.places) n
  at-before n before = option-same (value_at (values t.places) n) (value_at (values s.places) n) back there
    where
      back : (w : Value) → value_at (values t.places) n ≡ Some w → value_at (values s.places) n ≡ Some w
      back w is =
          let r = valued t after n w is in
          elim (made-or s t id v good step r.0 w r.1) [
            | inl here ↦ let over : w.number ≡ s.made + 1 = ap (λ (u : Value). u.number) here.1 ∙ number in absurd (omega (arith, over, before, r.2))
            | inr was ↦ subst (λ m. value_at (values s.places) m ≡ Some w) r.2 (numbered s good r.0 w was)
          ]

      there : (w : Value) → value_at (values s.places) n ≡ Some w → value_at (values t.places) n ≡ Some w
      there w is =
          let r = valued s good n w is in
          let some : IsLive s r.0 = subst (λ (o : Option Value). IsSome o) (sym r.1) refl in
          subst (λ m. value_at (values t.places) m ≡ Some w) r.2 (numbered t after r.0 w (live-kept s t id v good step r.0 some ∙ r.1))

  same-before : (n : ℕ) → n ≤ s.made → graph_value t n ≡ graph_value s n
  same-before n before = ap (option_map (renamed t)) (at-before n before) ∙ by (value_at (values s.places) n) refl
    where
      by : (o : Option Value) → value_at (values s.places) n ≡ o → option_map (renamed t) (value_at (values s.places) n) ≡ option_map (renamed s) (value_at (values s.places) n)
      by None is = ap (option_map (renamed t)) is ∙ sym (ap (option_map (renamed s)) is)
      by (Some w) is =
          let r = valued s good n w is in
          ap (option_map (renamed t)) is ∙ ap Some (renamed-same s t (IsLive s) made-number w (good.sound.closed r.0 w r.1)) ∙ sym (ap (option_map (renamed s)) is)

  pub made-graph : graph_of t ≡ graph_of s ++ renamed s v ∷ []
  made-graph =
      ap (λ m. filter_map (graph_value t) (range_with_len 1 m)) (step.made ∙ one_more s.made)
      ∙ ap (filter_map (graph_value t)) (counted-more 1 s.made (s.made + 1) (next s.made))
      ∙ filter_map-append (graph_value t) (range_with_len 1 s.made) ((s.made + 1) ∷ [])
      ∙ ap (λ l. l ++ filter_map (graph_value t) ((s.made + 1) ∷ []))
      (mapped-same (graph_value t) (graph_value s) (range_with_len 1 s.made) (λ n has. same-before n (omega (arith, (counted-within 1 s.made n has).1))))
      ∙ ap (λ o. graph_of s ++ cons_option o []) last
    where
      next : (n : ℕ) → 1 + n ≡ n + 1
      next n = omega arith

      one_more : (n : ℕ) → n + 1 ≡ suc n
      one_more n = omega arith

      last : graph_value t (s.made + 1) ≡ Some (renamed s v)
      last =
          ap (option_map (renamed t)) (subst (λ m. value_at (values t.places) m ≡ Some v) number (numbered t after id v step.named))
          ∙ ap Some (renamed-same s t (IsLive s) made-number v closed)

-- A VALUE IS CHANGED
module _ (s t : StoreState) (id : ℕ) (change other : Value → Value) (good : IsGood s) (after : IsGood t) (step : ChangesOnly s t id change) (keeps : (v : Value) → let w : Value = change v in w.number ≡ v.number)
    (match : (v : Value) → value_of s id ≡ Some v → renamed s (change v) ≡ other (renamed s v)) where
  number-kept : (m : ℕ) → number_in t m ≡ number_in s m
  number-kept m = by (m == id) refl
    where
      mapped : (o : Option Value) → unwrap_or (option_map (λ (w : Value). w.number) (option_map change o)) 0 ≡ unwrap_or (option_map (λ w. w.number) o) 0
      mapped None = refl
      mapped (Some v) = keeps v

      by : (b : Bool) → (m == id) ≡ b → number_in t m ≡ number_in s m
      by true e =
          let same : m ≡ id = eqb-true m id e in
          ap (number_in t) same ∙ ap (λ (o : Option Value). unwrap_or (option_map (λ w. w.number) o) 0) step.named ∙ mapped (value_of s id) ∙ ap (number_in s) (sym same)
      by false e = number-of-same s t m (step.others m (other-number m id e))

  renamed-kept : (w : Value) → renamed t w ≡ renamed s w
  renamed-kept w =
      let same : number_in t ≡ number_in s = λ i m. number-kept m i in
      ap (λ (f : ℕ → ℕ). record w { properties = map (λ (p : Property). record p { value = f p.value }) w.properties; elements = map (option_map f) w.elements; link = option_map f w.link }) same

  abbrev changed : Value → Value
  changed w = cond (w.number == number_in s id) (other w) w

  changed-at : (n : ℕ) → graph_value t n ≡ option_map changed (graph_value s n)
  changed-at n = by (value_at (values s.places) n) refl
    where
      none : value_at (values s.places) n ≡ None → value_at (values t.places) n ≡ None
      none is = each (value_at (values t.places) n) refl
        where
          each : (o : Option Value) → value_at (values t.places) n ≡ o → o ≡ None
          each None at = refl
          each (Some w) at =
              let r = valued t after n w at in
              let q = changed-or s t id change good step keeps r.0 w r.1 in
              let there : value_at (values s.places) n ≡ Some q.0 = subst (λ m. value_at (values s.places) m ≡ Some q.0) (sym q.2 ∙ r.2) (numbered s good r.0 q.0 q.1) in
              let no : ⊥ = cc in absurd no

      by : (o : Option Value) → value_at (values s.places) n ≡ o → graph_value t n ≡ option_map changed (graph_value s n)
      by None is = ap (option_map (renamed t)) (none is) ∙ sym (ap (λ p. option_map changed (option_map (renamed s) p)) is)
      by (Some v) is =
          let r = valued s good n v is in
          which r.0 r.1 r.2 (r.0 == id) refl ∙ sym (ap (λ p. option_map changed (option_map (renamed s) p)) is)
        where
          which : (k : ℕ) → value_of s k ≡ Some v → v.number ≡ n → (b : Bool) → (k == id) ≡ b → graph_value t n ≡ Some (changed (renamed s v))
          which k at number true e =
              let same : k ≡ id = eqb-true k id e in
              let here : value_of s id ≡ Some v = ap (value_of s) (sym same) ∙ at in
              let named : value_of t id ≡ Some (change v) = step.named ∙ ap (option_map change) here in
              let counted : (v.number == number_in s id) ≡ true = eq-eqb v.number (number_in s id) (sym (number-value s id v here)) in
              ap (option_map (renamed t)) (subst (λ m. value_at (values t.places) m ≡ Some (change v)) (keeps v ∙ number) (numbered t after id (change v) named))
              ∙ ap Some (renamed-kept (change v) ∙ match v here ∙ sym (ap (λ b. cond b (other (renamed s v)) (renamed s v)) counted))
          which k at number false e =
              let apart : k ≢ id = other-number k id e in
              let named : value_of t k ≡ Some v = step.others k apart ∙ at in
              let differs : v.number ≢ number_in s id = λ same.
              let q = number-live s good id v.number (sym same) (good.sound.counted k v at).0 in
              apart (good.sound.apart k id v q.0 at q.1 (sym q.2)) in
              ap (option_map (renamed t)) (subst (λ m. value_at (values t.places) m ≡ Some v) number (numbered t after k v named))
              ∙ ap Some (renamed-kept v ∙ sym (ap (λ b. cond b (other (renamed s v)) (renamed s v)) (apart-number v.number (number_in s id) differs)))

  pub changed-graph : graph_of t ≡ value_changed (number_in s id) other (graph_of s)
  changed-graph =
      ap (λ m. filter_map (graph_value t) (range_with_len 1 m)) step.nothing_issued.made
      ∙ mapped-same (graph_value t) (λ n. option_map changed (graph_value s n)) (range_with_len 1 s.made) (λ n has. changed-at n)
      ∙ sym (map-mapped changed (graph_value s) (range_with_len 1 s.made))

-- VALUES ARE FREED
module _ (s t : StoreState) (ids : List ℕ) (good : IsGood s) (after : IsGood t) (step : Frees s t ids) (can : CanFree s ids) where
  -- a live value's creation number is among those of the freed ones where its number is
  among-freed : (k : ℕ) (v : Value) (ns : List ℕ) → All (IsLive s) ns → value_of s k ≡ Some v → has_number v.number (map (number_in s) ns) ≡ has_number k ns
  among-freed k v [] live at = refl
  among-freed k v (m ∷ ns) live at =
      ap (λ b. b || has_number v.number (map (number_in s) ns)) one ∙ ap (λ b. (m == k) || b) (among-freed k v ns (All-tail (IsLive s) m ns live) at)
    where
      one : (number_in s m == v.number) ≡ (m == k)
      one = by (m == k) refl
        where
          by : (b : Bool) → (m == k) ≡ b → (number_in s m == v.number) ≡ b
          by true e = let same : m ≡ k = eqb-true m k e in eq-eqb (number_in s m) v.number (ap (number_in s) same ∙ number-value s k v at)
          by false e =
              apart-number (number_in s m) v.number
              (λ same.
              let u = some-is (value_of s m) (All-head (IsLive s) m ns live) in
              other-number m k e (good.sound.apart m k u.0 v u.1 at (sym (number-value s m u.0 u.1) ∙ same)))

  abbrev stays : Value → Bool
  stays v = not (has_number v.number (map (number_in s) ids))

  freed-number : (m : ℕ) → has_number m ids ≡ false → number_in t m ≡ number_in s m
  freed-number m apart = number-of-same s t m (step.others m apart)

  freed-at : (n : ℕ) → graph_value t n ≡ passing stays (graph_value s n)
  freed-at n = by (value_at (values s.places) n) refl
    where
      none : ((w : Value) → value_at (values t.places) n ≡ Some w → ⊥) → value_at (values t.places) n ≡ None
      none never = each (value_at (values t.places) n) refl
        where
          each : (o : Option Value) → value_at (values t.places) n ≡ o → o ≡ None
          each None at = refl
          each (Some w) at = absurd (never w at)

      by : (o : Option Value) → value_at (values s.places) n ≡ o → graph_value t n ≡ passing stays (graph_value s n)
      by None is =
          ap (option_map (renamed t))
          (none (λ w at.
          let r = valued t after n w at in
          let there : value_at (values s.places) n ≡ Some w = subst (λ m. value_at (values s.places) m ≡ Some w) r.2 (numbered s good r.0 w (freed-was s t ids good step can r.0 w r.1).0) in
          let no : None ≡ Some w = sym is ∙ there in cc))
          ∙ sym (ap (λ p. passing stays (option_map (renamed s) p)) is)
      by (Some v) is =
          let r = valued s good n v is in
          which r.0 r.1 r.2 (has_number r.0 ids) refl ∙ sym (ap (λ p. passing stays (option_map (renamed s) p)) is)
        where
          which : (k : ℕ) → value_of s k ≡ Some v → v.number ≡ n → (b : Bool) → has_number k ids ≡ b → graph_value t n ≡ cond (stays (renamed s v)) (Some (renamed s v)) None
          which k at number true e =
              ap (option_map (renamed t))
              (none (λ w there.
              let r = valued t after n w there in
              let was = freed-was s t ids good step can r.0 w r.1 in
              let same : r.0 ≡ k = good.sound.apart r.0 k w v was.0 at (r.2 ∙ sym number) in
              let no : true ≡ false = sym e ∙ ap (λ m. has_number m ids) (sym same) ∙ was.1 in cc))
              ∙ sym (ap (λ b. cond (not b) (Some (renamed s v)) None) (among-freed k v ids can.live at ∙ e))
          which k at number false e =
              ap (option_map (renamed t)) (subst (λ m. value_at (values t.places) m ≡ Some v) number (numbered t after k v (step.others k e ∙ at)))
              ∙ ap Some (renamed-same s t (λ m. has_number m ids ≡ false) freed-number v (can.unnamed k v at e))
              ∙ sym (ap (λ b. cond (not b) (Some (renamed s v)) None) (among-freed k v ids can.live at ∙ e))

  pub freed-graph : graph_of t ≡ filter (λ v. not (has_number v.number (map (number_in s) ids))) (graph_of s)
  freed-graph =
      ap (λ m. filter_map (graph_value t) (range_with_len 1 m)) step.nothing_issued.made
      ∙ mapped-same (graph_value t) (λ n. passing stays (graph_value s n)) (range_with_len 1 s.made) (λ n has. freed-at n)
      ∙ sym (filter-mapped stays (graph_value s) (range_with_len 1 s.made))
