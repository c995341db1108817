-- The starting values are made one after another.
use Rattle.std.proofs.Common.{◌≡◌, ◌∙◌, ℕ, zero, suc, ◌+◌, ◌<◌, true, false, List, [], ◌∷◌, ◌++◌, map, Option, Some, None, IsSome, option_map, slice_index_or, refl, ap, sym, subst, arith}
use Rattle.std.specs.List.{All}
use Rattle.std.specs.Option.{unwrap_or}
use Rattle.std.proofs.lemmas.List.Elements.{All-nil, All-head, All-tail}
use Rattle.generation_slab.specs.HeldPlaces.{HeldPlaces}
use Rattle.napi_types.specs.declared.body.Body.{Body}
use Rattle.napi_types.specs.declared.body.Body.TheVariants as body
use Rattle.napi_types.specs.declared.ids.ValueId.{ValueId}
use Rattle.napi_types.specs.plain.Lists.{has_number, tail}
use Rattle.napi_types.specs.parts.Bodies.{NamesNoChild}
use Rattle.napi_types.specs.parts.Graph.{StoreState, IsLive, value_of, number_in, renamed, graph_of}
use Rattle.napi_types.specs.parts.Values.{Value, fresh_value, value_at, starting_values}
use Rattle.value_store.specs.declared.contents.Contents.TheVariants.{Plain}
use Rattle.value_store.specs.declared.record.ValueRecord.{ValueRecord}
use Rattle.value_store.specs.StoreChanges.{id_at, IsStarting}
use Rattle.value_store.specs.Contents.{state_of, AddsRecord, IsGood, Grows, IsKeptStore}
use Rattle.value_store.proofs.Graphs.{graph-read}
use Rattle.value_store.proofs.Growing.{grows-none, put-one}
use Rattle.value_store.proofs.Linked.{plain-here}
use Rattle.value_store.proofs.PropertyNames.{distinct-none}

-- nothing is there
none-there : (s : HeldPlaces ValueRecord) → s.places ≡ [] → (n : ℕ) → value_of (state_of s 0) n ≡ None
none-there s empty n = ap (λ ps. value_of (state_of (record s { places = ps }) 0) n) empty

none-good : (s : HeldPlaces ValueRecord) → s.places ≡ [] → s.issued ≡ [] → IsGood (state_of s 0)
none-good s empty none = record {
  once = λ id first second here there. let no : ⊥ = absurd (nothing id first here) in absurd no;
  sound = record {
    given = λ id some. let at : value_of (state_of s 0) id ≡ None = none-there s empty id in let no : ⊥ = cc in absurd no;
    positive = ap (λ ns. has_number 0 ns) none;
    counted = λ id v is. let at : value_of (state_of s 0) id ≡ None = none-there s empty id in let no : ⊥ = cc in absurd no;
    apart = λ m n v w first second same. let at : value_of (state_of s 0) m ≡ None = none-there s empty m in let no : ⊥ = cc in absurd no;
    names = λ id v is. let at : value_of (state_of s 0) id ≡ None = none-there s empty id in let no : ⊥ = cc in absurd no;
    closed = λ id v is. let at : value_of (state_of s 0) id ≡ None = none-there s empty id in let no : ⊥ = cc in absurd no;
  };
}
  where
    nothing : (id place : ℕ) → id_at (state_of s 0) place ≡ Some id → ⊥
    nothing id place is =
        let at : id_at (state_of s 0) place ≡ None = ap (λ ps. id_at (state_of (record s { places = ps }) 0) place) empty in cc

-- a value that the graph has by this number
starts : (t : StoreState) → IsGood t → graph_of t ≡ starting_values → (which id : ℕ) → IsLive t id → number_in t id ≡ which + 1 → IsStarting t which id
starts t good graph which id live number = record {
  number = numbered (value_of t id) live ∙ ap Some number;
  body =
      same (value_of t id) ∙ ap (option_map (λ (v : Value). v.body)) (sym (graph-read t good id))
      ∙ ap (λ g. option_map (λ (v : Value). v.body) (value_at g (number_in t id))) graph
      ∙ ap (λ n. option_map (λ (v : Value). v.body) (value_at starting_values n)) number;
}
  where
    numbered : (o : Option Value) → IsSome o → option_map (λ (v : Value). v.number) o ≡ Some (unwrap_or (option_map (λ v. v.number) o) 0)
    numbered None some = let no : ⊥ = cc in absurd no
    numbered (Some v) some = refl

    same : (o : Option Value) → option_map (λ (v : Value). v.body) o ≡ option_map (λ v. v.body) (option_map (renamed t) o)
    same None = refl
    same (Some v) = refl

next-of : (n m : ℕ) (ns ms : List ℕ) → n ∷ ns ≡ m ∷ ms → (n ≡ m) × (ns ≡ ms)
next-of n m ns ms is = (ap (λ l. slice_index_or l 0 0) is, ap tail is)

module _ (old s0 s1 s2 s3 s4 s5 : HeldPlaces ValueRecord) (i1 i2 i3 i4 i5 : ValueId) (empty : old.places ≡ []) (none : old.issued ≡ []) (kept : s0 ≡ record old { room = s0.room })
    (a1 : AddsRecord s0 s1 i1.0 (record { number = 1; value = Plain body.Undefined })) (a2 : AddsRecord s1 s2 i2.0 (record { number = 2; value = Plain body.Null }))
    (a3 : AddsRecord s2 s3 i3.0 (record { number = 3; value = Plain (body.Boolean true) })) (a4 : AddsRecord s3 s4 i4.0 (record { number = 4; value = Plain (body.Boolean false) }))
    (a5 : AddsRecord s4 s5 i5.0 (record { number = 5; value = Plain (body.Object false false) })) where
  first : IsGood (state_of old 0)
  first = none-good old empty none

  put : (s t : HeldPlaces ValueRecord) (m n id : ℕ) (b : Body) (vs : List Value) (ids : List ℕ) → NamesNoChild b → AddsRecord s t id (record { number = n; value = Plain b }) → n ≡ m + 1 → Grows (state_of old 0) (state_of s m) vs ids
      → Grows (state_of old 0) (state_of t n) (vs ++ fresh_value n b ∷ []) (ids ++ id ∷ [])
  put s t m n id b vs ids alone adds is grows =
      put-one s t m n id (Plain b) (fresh_value n b) (plain-here n b alone) adds is (state_of old 0) vs ids grows distinct-none (All-nil (IsLive (state_of s m))) (fresh_value n b) refl

  all : Grows (state_of old 0) (state_of s5 5) starting_values (i1.0 ∷ i2.0 ∷ i3.0 ∷ i4.0 ∷ i5.0 ∷ [])
  all =
      let g0 : Grows (state_of old 0) (state_of s0 0) [] [] = subst (λ s. Grows (state_of old 0) (state_of s 0) [] []) (sym kept) (grows-none (state_of old 0) first) in
      let g1 = put s0 s1 0 1 i1.0 body.Undefined [] [] refl a1 refl g0 in
      let g2 = put s1 s2 1 2 i2.0 body.Null _ _ refl a2 refl g1 in
      let g3 = put s2 s3 2 3 i3.0 (body.Boolean true) _ _ refl a3 refl g2 in
      let g4 = put s3 s4 3 4 i4.0 (body.Boolean false) _ _ refl a4 refl g3 in
      put s4 s5 4 5 i5.0 (body.Object false false) _ _ refl a5 refl g4

  pub all-graph : graph_of (state_of s5 5) ≡ starting_values
  all-graph = all.graph

  pub all-kept : IsKeptStore s5 5 (i1 ∷ i2 ∷ i3 ∷ i4 ∷ i5 ∷ [])
  all-kept = record { once = a5.once; good = all.good; starts = each }
    where
      graph : graph_of (state_of s5 5) ≡ starting_values
      graph = all.graph

      l1 : All (IsLive (state_of s5 5)) (i2.0 ∷ i3.0 ∷ i4.0 ∷ i5.0 ∷ [])
      l1 = All-tail (IsLive (state_of s5 5)) i1.0 (i2.0 ∷ i3.0 ∷ i4.0 ∷ i5.0 ∷ []) all.live

      l2 : All (IsLive (state_of s5 5)) (i3.0 ∷ i4.0 ∷ i5.0 ∷ [])
      l2 = All-tail (IsLive (state_of s5 5)) i2.0 (i3.0 ∷ i4.0 ∷ i5.0 ∷ []) l1

      l3 : All (IsLive (state_of s5 5)) (i4.0 ∷ i5.0 ∷ [])
      l3 = All-tail (IsLive (state_of s5 5)) i3.0 (i4.0 ∷ i5.0 ∷ []) l2

      l4 : All (IsLive (state_of s5 5)) (i5.0 ∷ [])
      l4 = All-tail (IsLive (state_of s5 5)) i4.0 (i5.0 ∷ []) l3

      m1 : (number_in (state_of s5 5) i1.0 ≡ 1) × (map (number_in (state_of s5 5)) (i2.0 ∷ i3.0 ∷ i4.0 ∷ i5.0 ∷ []) ≡ 2 ∷ 3 ∷ 4 ∷ 5 ∷ [])
      m1 = next-of _ _ _ _ all.numbers

      m2 : (number_in (state_of s5 5) i2.0 ≡ 2) × (map (number_in (state_of s5 5)) (i3.0 ∷ i4.0 ∷ i5.0 ∷ []) ≡ 3 ∷ 4 ∷ 5 ∷ [])
      m2 = next-of _ _ _ _ m1.1

      m3 : (number_in (state_of s5 5) i3.0 ≡ 3) × (map (number_in (state_of s5 5)) (i4.0 ∷ i5.0 ∷ []) ≡ 4 ∷ 5 ∷ [])
      m3 = next-of _ _ _ _ m2.1

      m4 : (number_in (state_of s5 5) i4.0 ≡ 4) × (map (number_in (state_of s5 5)) (i5.0 ∷ []) ≡ 5 ∷ [])
      m4 = next-of _ _ _ _ m3.1

      m5 : number_in (state_of s5 5) i5.0 ≡ 5
      m5 = (next-of (number_in (state_of s5 5) i5.0) 5 [] [] m4.1).0

      each : (which : ℕ) (d : ValueId) → which < 5 → IsStarting (state_of s5 5) which (slice_index_or (i1 ∷ i2 ∷ i3 ∷ i4 ∷ i5 ∷ []) which d).0
      each zero d less = starts (state_of s5 5) all.good graph 0 i1.0 (All-head (IsLive (state_of s5 5)) i1.0 (i2.0 ∷ i3.0 ∷ i4.0 ∷ i5.0 ∷ []) all.live) m1.0
      each (suc zero) d less = starts (state_of s5 5) all.good graph 1 i2.0 (All-head (IsLive (state_of s5 5)) i2.0 (i3.0 ∷ i4.0 ∷ i5.0 ∷ []) l1) m2.0
      each (suc (suc zero)) d less = starts (state_of s5 5) all.good graph 2 i3.0 (All-head (IsLive (state_of s5 5)) i3.0 (i4.0 ∷ i5.0 ∷ []) l2) m3.0
      each (suc (suc (suc zero))) d less = starts (state_of s5 5) all.good graph 3 i4.0 (All-head (IsLive (state_of s5 5)) i4.0 (i5.0 ∷ []) l3) m4.0
      each (suc (suc (suc (suc zero)))) d less = starts (state_of s5 5) all.good graph 4 i5.0 (All-head (IsLive (state_of s5 5)) i5.0 [] l4) m5
      each (suc (suc (suc (suc (suc n))))) d less = absurd (omega arith)
