-- The live values of a sound state, and the graph that it stands for, where no number stands at two places.
use Rattle.std.proofs.Common.{◌≡◌, ℕ, zero, suc, ◌+◌, ◌<◌, ◌≤◌, ◌==◌, nat_eq, Bool, true, false, cond, List, [], ◌∷◌, ◌++◌, map, ◌||◌, Option, Some, None, IsSome, is_some, option_map, option_to_list, slice_index_or, refl, ap, sym, subst, ◌∙◌, arith}
use Rattle.std.specs.List.{filter_map, range_with_len, cons_option, IsDistinct, AllByRecursion}
use Rattle.std.specs.Option.{unwrap_or}
use Rattle.std.proofs.lemmas.List.{map-append}
use Rattle.std.proofs.lemmas.Bool.{eq-eqb}
use borrow.Author.Tests.{eqb-true}
use Rattle.napi_types.specs.plain.Lists.{found, has_number}
use Rattle.napi_types.specs.parts.Graph.{Stored, StoreState, live, value_of, number_in, renamed, graph_of, IsLive, IsSoundStore}
use Rattle.napi_types.specs.parts.Properties.{Property}
use Rattle.napi_types.specs.parts.Reach.{numbers, children_at}
use Rattle.napi_types.specs.parts.Values.{Value, children, value_at}
use Rattle.value_store.specs.StoreChanges.{id_at, EachStandsOnce}
use Rattle.value_store.proofs.Lookup.{apart-number, other-number}
use Rattle.value_store.proofs.ReadingPlaces.{some-is}

-- PLACES
abbrev standing_stored : List (Option Stored) → List Stored
standing_stored ps = filter_map (λ place. place) ps

abbrev id_in : List (Option Stored) → ℕ → Option ℕ
id_in ps place = option_map (λ x. x.id) (slice_index_or ps place None)

abbrev StandOnce : List (Option Stored) → Type 0
StandOnce ps = (id first second : ℕ) → id_in ps first ≡ Some id → id_in ps second ≡ Some id → first ≡ second

rest-once : (x : Option Stored) (ps : List (Option Stored)) → StandOnce (x ∷ ps) → StandOnce ps
rest-once x ps once id first second here there = let same : suc first ≡ suc second = once id (suc first) (suc second) here there in omega arith

-- what stands at a place is found by its number
found-at : (ps : List (Option Stored)) → StandOnce ps → (place : ℕ) (x : Stored) → slice_index_or ps place None ≡ Some x → found (λ y. y.id) x.id (standing_stored ps) ≡ Some x
found-at [] once place x is = let no : ⊥ = cc in absurd no
found-at (None ∷ ps) once zero x is = let no : ⊥ = cc in absurd no
found-at (None ∷ ps) once (suc place) x is = found-at ps (rest-once None ps once) place x is
found-at (Some y ∷ ps) once zero x is =
    let same : y ≡ x = cc in
    let here : (y.id == x.id) ≡ true = eq-eqb y.id x.id (ap (λ (z : Stored). z.id) same) in
    ap (λ b. cond b (Some y) (found (λ z. z.id) x.id (standing_stored ps))) here ∙ is
found-at (Some y ∷ ps) once (suc place) x is = by (found-at ps (rest-once (Some y) ps once) place x is) (y.id == x.id) refl
  where
    by : found (λ z. z.id) x.id (standing_stored ps) ≡ Some x → (b : Bool) → (y.id == x.id) ≡ b → cond b (Some y) (found (λ z. z.id) x.id (standing_stored ps)) ≡ Some x
    by rest true e =
        let two : zero ≡ suc place = once x.id zero (suc place) (ap Some (eqb-true y.id x.id e)) (ap (option_map (λ (z : Stored). z.id)) is) in
        let no : ⊥ = absurd (omega arith) in absurd no
    by rest false e = rest

-- what is found by a number stands at a place
found-place : (ps : List (Option Stored)) (id : ℕ) (x : Stored) → found (λ y. y.id) id (standing_stored ps) ≡ Some x → (place : ℕ) × (slice_index_or ps place None ≡ Some x) × (x.id ≡ id)
found-place [] id x is = let no : ⊥ = cc in absurd no
found-place (None ∷ ps) id x is = let r = found-place ps id x is in (suc r.0, r.1, r.2)
found-place (Some y ∷ ps) id x is = by (found-place ps id x) (y.id == id) refl is
  where
    by : (found (λ z. z.id) id (standing_stored ps) ≡ Some x → (place : ℕ) × (slice_index_or ps place None ≡ Some x) × (x.id ≡ id)) → (b : Bool) → (y.id == id) ≡ b → cond b (Some y) (found (λ z. z.id) id (standing_stored ps)) ≡ Some x → (place : ℕ) × (slice_index_or (Some y ∷ ps) place None ≡ Some x) × (x.id ≡ id)
    by rest true e is = let same : y ≡ x = cc in (zero, is, sym (ap (λ (z : Stored). z.id) same) ∙ eqb-true y.id id e)
    by rest false e is = let r = rest is in (suc r.0, r.1, r.2)

abbrev pub values : List (Option Stored) → List Value
values ps = map (λ x. x.value) (standing_stored ps)

-- the same by a creation number
pub numbered-place : (ps : List (Option Stored)) (n : ℕ) (v : Value) → value_at (values ps) n ≡ Some v → (place : ℕ) × (x : Stored) × (slice_index_or ps place None ≡ Some x) × (x.value ≡ v) × (v.number ≡ n)
numbered-place [] n v is = let no : ⊥ = cc in absurd no
numbered-place (None ∷ ps) n v is = let r = numbered-place ps n v is in (suc r.0, r.1, r.2, r.3, r.4)
numbered-place (Some y ∷ ps) n v is = by (numbered-place ps n v) (y.value.number == n) refl is
  where
    by : (value_at (values ps) n ≡ Some v → (place : ℕ) × (x : Stored) × (slice_index_or ps place None ≡ Some x) × (x.value ≡ v) × (v.number ≡ n)) → (b : Bool) → (y.value.number == n) ≡ b → cond b (Some y.value) (value_at (values ps) n) ≡ Some v → (place : ℕ) × (x : Stored) × (slice_index_or (Some y ∷ ps) place None ≡ Some x) × (x.value ≡ v) × (v.number ≡ n)
    by rest true e is = let same : y.value ≡ v = cc in (zero, y, refl, same, sym (ap (λ (w : Value). w.number) same) ∙ eqb-true y.value.number n e)
    by rest false e is = let r = rest is in (suc r.0, r.1, r.2, r.3, r.4)

numbered-at : (ps : List (Option Stored)) (place : ℕ) (x : Stored) → slice_index_or ps place None ≡ Some x → IsSome (value_at (values ps) x.value.number)
numbered-at [] place x is = let no : ⊥ = cc in absurd no
numbered-at (None ∷ ps) zero x is = let no : ⊥ = cc in absurd no
numbered-at (None ∷ ps) (suc place) x is = numbered-at ps place x is
numbered-at (Some y ∷ ps) zero x is =
    let same : y ≡ x = cc in
    let here : (y.value.number == x.value.number) ≡ true = eq-eqb y.value.number x.value.number (ap (λ (z : Stored). z.value.number) same) in
    subst (λ b. IsSome (cond b (Some y.value) (value_at (values ps) x.value.number))) (sym here) refl
numbered-at (Some y ∷ ps) (suc place) x is = by (numbered-at ps place x is) (y.value.number == x.value.number)
  where
    by : IsSome (value_at (values ps) x.value.number) → (b : Bool) → IsSome (cond b (Some y.value) (value_at (values ps) x.value.number))
    by rest true = refl
    by rest false = rest

-- NUMBERS
-- a number is there where a value has it
pub has-numbers : (vs : List Value) (n : ℕ) → has_number n (numbers vs) ≡ is_some (value_at vs n)
has-numbers [] n = refl
has-numbers (v ∷ vs) n = by (has-numbers vs n) (v.number == n)
  where
    by : has_number n (numbers vs) ≡ is_some (value_at vs n) → (b : Bool) → (b || has_number n (numbers vs)) ≡ is_some (cond b (Some v) (value_at vs n))
    by rest true = refl
    by rest false = rest

pub value_at-numbered : (f : ℕ → Option Value) → ((n : ℕ) (v : Value) → f n ≡ Some v → v.number ≡ n) → (ns : List ℕ) (n : ℕ) → value_at (filter_map f ns) n ≡ cond (has_number n ns) (f n) None
value_at-numbered f numbered [] n = refl
value_at-numbered f numbered (m ∷ ns) n = by (value_at-numbered f numbered ns n) (f m) refl (m == n) refl
  where
    none : (b : Bool) (o : Option Value) → o ≡ None → cond b o None ≡ None
    none true o is = is
    none false o is = refl

    by : value_at (filter_map f ns) n ≡ cond (has_number n ns) (f n) None → (o : Option Value) → f m ≡ o → (b : Bool) → (m == n) ≡ b → value_at (cons_option o (filter_map f ns)) n ≡ cond (b || has_number n ns) (f n) None
    by rest None is true e = let here : f n ≡ None = ap f (sym (eqb-true m n e)) ∙ is in rest ∙ none (has_number n ns) (f n) here ∙ sym here
    by rest None is false e = rest
    by rest (Some v) is true e =
        let same : m ≡ n = eqb-true m n e in
        let here : (v.number == n) ≡ true = eq-eqb v.number n (numbered m v is ∙ same) in
        ap (λ b. cond b (Some v) (value_at (filter_map f ns) n)) here ∙ sym is ∙ ap f same
    by rest (Some v) is false e =
        let other : (v.number == n) ≡ false = ap (λ k. k == n) (numbered m v is) ∙ e in
        ap (λ b. cond b (Some v) (value_at (filter_map f ns) n)) other ∙ rest

pub in-range : (n from many : ℕ) → from ≤ n → n < from + many → has_number n (range_with_len from many) ≡ true
in-range n from zero low high = absurd (omega arith)
in-range n from (suc many) low high = by (λ above. in-range n (from + 1) many above (omega arith)) (from == n) refl
  where
    above : (from n : ℕ) → from ≤ n → (from ≡ n → ⊥) → from + 1 ≤ n
    above from n low apart = grind arith

    by : (from + 1 ≤ n → has_number n (range_with_len (from + 1) many) ≡ true) → (b : Bool) → (from == n) ≡ b → (b || has_number n (range_with_len (from + 1) many)) ≡ true
    by rest true e = refl
    by rest false e = rest (above from n low (other-number from n e))

-- numbers from a range that keep their order are distinct
later-apart : (f : ℕ → Option Value) → ((n : ℕ) (v : Value) → f n ≡ Some v → v.number ≡ n) → (k from many : ℕ) → k < from → AllByRecursion (λ y. nat_eq k y ≡ false) (numbers (filter_map f (range_with_len from many)))
later-apart f numbered k from zero less = tt
later-apart f numbered k from (suc many) less = by (f from) refl (later-apart f numbered k (from + 1) many (omega arith))
  where
    by : (o : Option Value) → f from ≡ o → AllByRecursion (λ y. nat_eq k y ≡ false) (numbers (filter_map f (range_with_len (from + 1) many))) → AllByRecursion (λ y. nat_eq k y ≡ false) (numbers (cons_option o (filter_map f (range_with_len (from + 1) many))))
    by None is rest = rest
    by (Some v) is rest = let number : v.number ≡ from = numbered from v is in (apart-number k v.number (λ same. absurd (omega arith)), rest)

range-distinct : (f : ℕ → Option Value) → ((n : ℕ) (v : Value) → f n ≡ Some v → v.number ≡ n) → (from many : ℕ) → IsDistinct nat_eq (numbers (filter_map f (range_with_len from many)))
unfolding IsDistinct
range-distinct f numbered from zero = tt
range-distinct f numbered from (suc many) = by (f from) refl (range-distinct f numbered (from + 1) many)
  where
    by : (o : Option Value) → f from ≡ o → IsDistinct nat_eq (numbers (filter_map f (range_with_len (from + 1) many))) → IsDistinct nat_eq (numbers (cons_option o (filter_map f (range_with_len (from + 1) many))))
    by None is rest = rest
    by (Some v) is rest = (later-apart f numbered v.number (from + 1) many (let number : v.number ≡ from = numbered from v is in omega arith), rest)

children-renamed : (s : StoreState) (v : Value) → children (renamed s v) ≡ map (number_in s) (children v)
children-renamed s v =
    let ps : List ℕ = map (λ (p : Property). p.value) v.properties in
    let es : List ℕ = filter_map (λ (e : Option ℕ). e) v.elements in
    let to : List ℕ = option_to_list (option_map (number_in s) v.link) in
    ap (λ l. l ++ filter_map (λ e. e) (map (option_map (number_in s)) v.elements) ++ to) (properties v.properties)
    ∙ ap (λ l. map (number_in s) ps ++ l ++ to) (elements v.elements)
    ∙ ap (λ l. l ++ to) (sym (map-append (number_in s) ps es))
    ∙ ap (λ l. map (number_in s) (ps ++ es) ++ l) (link v.link)
    ∙ sym (map-append (number_in s) (ps ++ es) (option_to_list v.link))
  where
    properties : (ps : List Property) → map (λ (p : Property). p.value) (map (λ (p : Property). record p { value = number_in s p.value }) ps) ≡ map (number_in s) (map (λ p. p.value) ps)
    properties [] = refl
    properties (p ∷ ps) = ap (λ l. number_in s p.value ∷ l) (properties ps)

    elements : (es : List (Option ℕ)) → filter_map (λ e. e) (map (option_map (number_in s)) es) ≡ map (number_in s) (filter_map (λ e. e) es)
    elements [] = refl
    elements (None ∷ es) = elements es
    elements (Some m ∷ es) = ap (λ l. number_in s m ∷ l) (elements es)

    link : (o : Option ℕ) → option_to_list (option_map (number_in s) o) ≡ map (number_in s) (option_to_list o)
    link None = refl
    link (Some m) = refl

-- a live value's number is its creation number
pub number-value : (s : StoreState) (id : ℕ) (v : Value) → value_of s id ≡ Some v → number_in s id ≡ v.number
number-value s id v is = ap (λ (o : Option Value). unwrap_or (option_map (λ w. w.number) o) 0) is

abbrev pub graph_value : StoreState → ℕ → Option Value
graph_value s n = option_map (renamed s) (value_at (map (λ x. x.value) (live s)) n)

pub graph_value-numbered : (s : StoreState) (n : ℕ) (w : Value) → graph_value s n ≡ Some w → w.number ≡ n
graph_value-numbered s n w is = by (value_at (values s.places) n) refl is
  where
    by : (o : Option Value) → value_at (values s.places) n ≡ o → option_map (renamed s) o ≡ Some w → w.number ≡ n
    by None at is = let no : ⊥ = cc in absurd no
    by (Some v) at is = let same : renamed s v ≡ w = cc in let r = numbered-place s.places n v at in sym (ap (λ (u : Value). u.number) same) ∙ r.4

-- no two values of the graph have the same number
pub graph-distinct : (s : StoreState) → IsDistinct nat_eq (numbers (graph_of s))
graph-distinct s = range-distinct (graph_value s) (graph_value-numbered s) 1 s.made

module _ (s : StoreState) (once : EachStandsOnce s) where
  -- what stands at a place is live
  pub place-value : (place : ℕ) (x : Stored) → slice_index_or s.places place None ≡ Some x → value_of s x.id ≡ Some x.value
  place-value place x is = ap (option_map (λ (y : Stored). y.value)) (found-at s.places once place x is)

  pub place-live : (place id : ℕ) → id_at s place ≡ Some id → IsLive s id
  place-live place id is = by (slice_index_or s.places place None) refl is
    where
      by : (o : Option Stored) → slice_index_or s.places place None ≡ o → option_map (λ (x : Stored). x.id) o ≡ Some id → IsLive s id
      by None at is = let no : ⊥ = cc in absurd no
      by (Some x) at is = let same : x.id ≡ id = cc in subst (λ n. IsLive s n) same (subst (λ (o : Option Value). IsSome o) (sym (place-value place x at)) refl)

  -- and a live value stands at a place
  value-place : (id : ℕ) (v : Value) → value_of s id ≡ Some v → (place : ℕ) × (x : Stored) × (slice_index_or s.places place None ≡ Some x) × (x.value ≡ v) × (x.id ≡ id)
  value-place id v is = by (found (λ x. x.id) id (live s)) refl is
    where
      by : (o : Option Stored) → found (λ x. x.id) id (live s) ≡ o → option_map (λ (x : Stored). x.value) o ≡ Some v → (place : ℕ) × (x : Stored) × (slice_index_or s.places place None ≡ Some x) × (x.value ≡ v) × (x.id ≡ id)
      by None at is = let no : ⊥ = cc in absurd no
      by (Some x) at is = let same : x.value ≡ v = cc in let r = found-place s.places id x at in (r.0, x, r.1, same, r.2)

  pub live-place : (id : ℕ) → IsLive s id → (place : ℕ) × (id_at s place ≡ Some id)
  live-place id h =
      let v : (v : Value) × (value_of s id ≡ Some v) = some-is (value_of s id) h in
      let r = value-place id v.0 v.1 in
      (r.0, ap (option_map (λ (x : Stored). x.id)) r.2 ∙ ap Some r.4)

  module _ (sound : IsSoundStore s) where
    pub value-listed : (id : ℕ) (v : Value) → value_of s id ≡ Some v → value_at (values s.places) v.number ≡ Some v
    value-listed id v is =
        let r = value-place id v is in
        let there : IsSome (value_at (values s.places) v.number) = subst (λ (w : Value). IsSome (value_at (values s.places) w.number)) r.3 (numbered-at s.places r.0 r.1 r.2) in
        let w : (w : Value) × (value_at (values s.places) v.number ≡ Some w) = some-is (value_at (values s.places) v.number) there in
        let q = numbered-place s.places v.number w.0 w.1 in
        let other : value_of s q.1.id ≡ Some w.0 = place-value q.0 q.1 q.2 ∙ ap Some q.3 in
        let one : q.1.id ≡ id = sound.apart q.1.id id w.0 v other is q.4 in
        let same : Some w.0 ≡ Some v = sym other ∙ ap (value_of s) one ∙ is in
        w.1 ∙ same

    -- the graph has at a live value's creation number that value
    pub graph-value : (id : ℕ) (v : Value) → value_of s id ≡ Some v → value_at (graph_of s) (number_in s id) ≡ Some (renamed s v)
    graph-value id v is =
        let counted : (0 < v.number) × (v.number ≤ s.made) = sound.counted id v is in
        let there : has_number v.number (range_with_len 1 s.made) ≡ true = in-range v.number 1 s.made (omega arith) (omega arith) in
        ap (value_at (graph_of s)) (number-value s id v is)
        ∙ value_at-numbered (graph_value s) (graph_value-numbered s) (range_with_len 1 s.made) v.number
        ∙ ap (λ b. cond b (graph_value s v.number) None) there
        ∙ ap (option_map (renamed s)) (value-listed id v is)

    -- each number of the graph is a live value's
    pub graph-live : (n : ℕ) → has_number n (numbers (graph_of s)) ≡ true → (id : ℕ) × IsLive s id × (number_in s id ≡ n)
    graph-live n has = by (has_number n (range_with_len 1 s.made)) (value_at (values s.places) n) refl here
      where
        here : is_some (cond (has_number n (range_with_len 1 s.made)) (graph_value s n) None) ≡ true
        here = ap is_some (sym (value_at-numbered (graph_value s) (graph_value-numbered s) (range_with_len 1 s.made) n)) ∙ sym (has-numbers (graph_of s) n) ∙ has

        by : (b : Bool) (o : Option Value) → value_at (values s.places) n ≡ o → is_some (cond b (option_map (renamed s) o) None) ≡ true → (id : ℕ) × IsLive s id × (number_in s id ≡ n)
        by false o at h = let no : ⊥ = cc in absurd no
        by true None at h = let no : ⊥ = cc in absurd no
        by true (Some v) at h =
            let r = numbered-place s.places n v at in
            let is : value_of s r.1.id ≡ Some v = place-value r.0 r.1 r.2 ∙ ap Some r.3 in
            (r.1.id, subst (λ (o : Option Value). IsSome o) (sym is) refl, number-value s r.1.id v is ∙ r.4)

    -- and each live value's number is there
    pub live-graph : (id : ℕ) → IsLive s id → has_number (number_in s id) (numbers (graph_of s)) ≡ true
    live-graph id h =
        let v : (v : Value) × (value_of s id ≡ Some v) = some-is (value_of s id) h in
        has-numbers (graph_of s) (number_in s id) ∙ ap is_some (graph-value id v.0 v.1)

    -- live values with the same creation number are the same
    pub number-apart : (m n : ℕ) → IsLive s m → IsLive s n → number_in s m ≡ number_in s n → m ≡ n
    number-apart m n one two same =
        let v : (v : Value) × (value_of s m ≡ Some v) = some-is (value_of s m) one in
        let w : (w : Value) × (value_of s n ≡ Some w) = some-is (value_of s n) two in
        sound.apart m n v.0 w.0 v.1 w.1 (sym (number-value s m v.0 v.1) ∙ same ∙ number-value s n w.0 w.1)

    -- the children of a live value in the graph are its children there
    pub graph-children : (id : ℕ) (v : Value) → value_of s id ≡ Some v → children_at (graph_of s) (number_in s id) ≡ map (number_in s) (children v)
    graph-children id v is = ap (λ (o : Option Value). unwrap_or (option_map children o) []) (graph-value id v is) ∙ children-renamed s v
