-- Values that are made one after another.
use Rattle.std.proofs.Common.{◌≡◌, ◌∙◌, ℕ, suc, ◌+◌, ◌==◌, ◌||◌, Bool, true, false, List, [], ◌∷◌, ◌++◌, map, length, Option, IsSome, refl, ap, sym, subst, arith, append_assoc, append-nil, length-append}
use Rattle.std.specs.List.{All, range_with_len}
use Rattle.std.proofs.lemmas.Bool.{or_parts}
use Rattle.std.proofs.lemmas.List.{map-append}
use Rattle.std.proofs.lemmas.List.Elements.{All-nil, All-cons, All-head, All-tail, All-append, All-weaker}
use Rattle.napi_types.specs.plain.Lists.{has_number}
use Rattle.napi_types.specs.parts.Graph.{StoreState, IsLive, value_of, number_in, renamed, graph_of}
use Rattle.napi_types.specs.parts.Values.{Value, children}
use Rattle.generation_slab.specs.HeldPlaces.{HeldPlaces}
use Rattle.napi_types.specs.parts.Properties.{HasDistinctNames}
use Rattle.value_store.specs.declared.contents.Contents.{Contents}
use Rattle.value_store.specs.declared.record.ValueRecord.{ValueRecord}
use Rattle.value_store.specs.StoreChanges.{MakesValue, IsFresh}
use Rattle.value_store.specs.Contents.{value_here, state_of, AddsRecord, IsGood, Grows, GrowsTo}
use Rattle.value_store.proofs.Callers.{makes-live}
use Rattle.value_store.proofs.Graphs.{made-graph, counted-more, number-of-same}
use Rattle.value_store.proofs.LiveValues.{number-value}
use Rattle.value_store.proofs.RecordValues.{adds-makes, once-held, number-here}
use Rattle.value_store.proofs.StoreStates.{fresh-apart, live-kept, made-good}

pub grows-none : (s : StoreState) → IsGood s → Grows s s [] []
grows-none s good = record {
  good = good;
  made = plus-none s.made;
  graph = sym (append-nil (graph_of s));
  kept = λ n issued. refl;
  issued = λ n issued. issued;
  many = refl;
  live = All-nil (IsLive s);
  numbers = refl;
}
  where
    plus-none : (n : ℕ) → n ≡ n + 0
    plus-none n = omega arith

module _ (s t u : StoreState) (vs : List Value) (ids : List ℕ) (id : ℕ) (v : Value) (grows : Grows s t vs ids) (step : MakesValue t u id v) (after : IsGood u) (number : v.number ≡ t.made + 1) (closed : All (IsLive t) (children v)) where
  more-made : u.made ≡ s.made + (length vs + 1)
  more-made = omega (arith, step.made, grows.made)

  more-kept : (n : ℕ) → has_number n s.issued ≡ true → value_of u n ≡ value_of s n
  more-kept n given = step.others n (fresh-apart t u id v grows.good step n (grows.issued n given)) ∙ grows.kept n given

  more-issued : (n : ℕ) → has_number n s.issued ≡ true → has_number n u.issued ≡ true
  more-issued n given = step.issued n ∙ ap (λ b. (n == id) || b) (grows.issued n given) ∙ or-true (n == id)
    where
      or-true : (b : Bool) → (b || true) ≡ true
      or-true true = refl
      or-true false = refl

  new-number : number_in u id ≡ t.made + 1
  new-number = number-value u id v step.named ∙ number

  same-numbers : (ns : List ℕ) → All (IsLive t) ns → map (number_in u) ns ≡ map (number_in t) ns
  same-numbers [] live = refl
  same-numbers (n ∷ ns) live =
      ap (λ m. m ∷ map (number_in u) ns) (number-of-same t u n (live-kept t u id v grows.good step n (All-head (IsLive t) n ns live)))
      ∙ ap (λ l. number_in t n ∷ l) (same-numbers ns (All-tail (IsLive t) n ns live))

  pub grows-one : (w : Value) → w ≡ renamed t v → Grows s u (vs ++ w ∷ []) (ids ++ id ∷ [])
  grows-one w is = record {
    good = after;
    made = more-made ∙ ap (λ n. s.made + n) (sym (length-append vs (w ∷ [])));
    graph = grown w is;
    kept = more-kept;
    issued = more-issued;
    many = length-append ids (id ∷ []) ∙ ap (λ n. n + 1) grows.many ∙ sym (length-append vs (w ∷ []));
    live =
        All-append (IsLive u) ids (id ∷ []) (All-weaker (IsLive t) (IsLive u) (makes-live t u id v step) ids grows.live)
        (All-cons (IsLive u) id [] (subst (λ (o : Option Value). IsSome o) (sym step.named) refl) (All-nil (IsLive u)));
    numbers =
        map-append (number_in u) ids (id ∷ [])
        ∙ ap (λ l. l ++ number_in u id ∷ []) (same-numbers ids grows.live ∙ grows.numbers)
        ∙ ap (λ n. range_with_len (s.made + 1) (length ids) ++ n ∷ []) new-number
        ∙ sym (counted-more (s.made + 1) (length ids) (t.made + 1) (omega (arith, grows.made, grows.many)))
        ∙ ap (range_with_len (s.made + 1)) (one_more (length ids) ∙ sym (length-append ids (id ∷ [])));
  }
    where
      one_more : (n : ℕ) → suc n ≡ n + 1
      one_more n = omega arith

      grown : (w : Value) → w ≡ renamed t v → graph_of u ≡ graph_of s ++ (vs ++ w ∷ [])
      grown w is = made-graph t u id v grows.good after step number closed ∙ ap (λ g. g ++ renamed t v ∷ []) grows.graph ∙ append_assoc (graph_of s) vs (renamed t v ∷ []) ∙ ap (λ x. graph_of s ++ (vs ++ x ∷ [])) (sym is)

  pub grows-to : (w : Value) → w ≡ renamed t v → GrowsTo s u (vs ++ w ∷ []) id
  grows-to w is =
      let one = grows-one w is in record {
        good = after;
        made = one.made;
        graph = one.graph;
        kept = more-kept;
        issued = more-issued;
        fresh = fresh (has_number id s.issued) refl;
        live = subst (λ (o : Option Value). IsSome o) (sym step.named) refl;
        number = new-number ∙ sym step.made;
      }
    where
      fresh : (b : Bool) → has_number id s.issued ≡ b → IsFresh id s
      fresh true given =
          let both = or_parts (0 == id) (has_number id t.issued) step.fresh in
          let no : true ≡ false = sym (grows.issued id given) ∙ both.1 in absurd (cc)
      fresh false apart = ap (λ b. b || has_number id s.issued) (or_parts (0 == id) (has_number id t.issued) step.fresh).0 ∙ apart

-- A RECORD IS HELD, AND SO A VALUE MADE
module _ (now next : HeldPlaces ValueRecord) (m n id : ℕ) (p : Contents) (v : Value) (has : value_here n p ≡ v)
    (adds : AddsRecord now next id (record { number = n; value = p })) (is : n ≡ m + 1)
    (s : StoreState) (vs : List Value) (ids : List ℕ) (grows : Grows s (state_of now m) vs ids) (names : HasDistinctNames v.properties) (closed : All (IsLive (state_of now m)) (children v)) where
  put-step : MakesValue (state_of now m) (state_of next n) id v
  put-step = subst (λ k. MakesValue (state_of now m) (state_of next k) id v) (sym is) (subst (λ w. MakesValue (state_of now m) (state_of next (m + 1)) id w) has (adds-makes now next m id (record { number = n; value = p }) adds))

  put-number : v.number ≡ m + 1
  put-number = ap (λ (w : Value). w.number) (sym has) ∙ number-here n p ∙ is

  put-good : IsGood (state_of next n)
  put-good = made-good (state_of now m) (state_of next n) id v grows.good put-step (once-held next n adds.once) put-number names closed

  pub put-one : (w : Value) → w ≡ renamed (state_of now m) v → Grows s (state_of next n) (vs ++ w ∷ []) (ids ++ id ∷ [])
  put-one = grows-one s (state_of now m) (state_of next n) vs ids id v grows put-step put-good put-number closed

  pub put-last : (w : Value) → w ≡ renamed (state_of now m) v → GrowsTo s (state_of next n) (vs ++ w ∷ []) id
  put-last = grows-to s (state_of now m) (state_of next n) vs ids id v grows put-step put-good put-number closed
