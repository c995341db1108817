-- What the calls of a store leave of it.
use Rattle.std.proofs.Common.{◌≡◌, ◌∙◌, ℕ, ◌+◌, ◌<◌, ◌==◌, Bool, true, false, cond, List, [], ◌∷◌, ◌++◌, map, filter, not, length, Option, Some, None, IsSome, IsSomeAnd, IsTrue, OnOk, OnErr, option_map, slice_index_or, zero, suc, refl, ap, sym, subst, arith}
use Rattle.std.specs.declared.result.Result.{Result}
use Rattle.std.specs.declared.result.Result.TheVariants.{Ok, Err}
use Rattle.std.specs.List.{All}
use Rattle.std.specs.Option.{unwrap_or}
use Rattle.std.proofs.lemmas.Bool.{eq-eqb}
use Rattle.std.proofs.lemmas.List.Elements.{All-weaker}
use Rattle.generation_slab.specs.HeldPlaces.{HeldPlaces, with_value_at, EachStandsOnce as EachHeldOnce, value_of as record_at}
use Rattle.napi_types.specs.declared.ids.ValueId.{ValueId}
use Rattle.napi_types.specs.plain.Lists.{has_number}
use Rattle.napi_types.specs.parts.Bodies.{is_linked}
use Rattle.napi_types.specs.parts.Graph.{Stored, StoreState, IsLive, value_of, number_in, renamed, graph_of}
use Rattle.napi_types.specs.parts.Properties.{HasDistinctNames}
use Rattle.napi_types.specs.parts.Values.{Value, children, value_changed, with_property, without_property, with_element, with_link}
use Rattle.value_store.specs.declared.contents.Contents.{Contents}
use Rattle.value_store.specs.declared.record.ValueRecord.{ValueRecord}
use Rattle.value_store.specs.StoreChanges.{MakesValue, MakesList, ChangesOnly, Frees, CanFree, IsLinked, StandsAt, id_at, properties_in}
use Rattle.value_store.specs.Contents.{value_of_record, body_here, properties_here, state_of, HasValue, ChangesPlace, AddsRecord, IsGood, GrowsTo, NameStarting, IsKeptStore}
use Rattle.value_store.proofs.Graphs.{made-graph, changed-graph, freed-graph}
use Rattle.value_store.proofs.Linked.{linked-here, link-named-so, children-with_link}
use Rattle.value_store.proofs.Lookup.{apart-number}
use Rattle.value_store.proofs.NamedPlaces.{children-with_property, children-without_property, children-with_element}
use Rattle.value_store.proofs.Outcomes.{ok-then}
use Rattle.value_store.proofs.PropertyNames.{distinct-property_set, distinct-property_removed}
use Rattle.value_store.proofs.RecordValues.{value-held, held-value, adds-makes, record-changed, once-changed, same-record, once-held, id-held, number-here, properties-here}
use Rattle.value_store.proofs.RenamedParts.{property-named-so, removal-named-so, element-named-so}
use Rattle.value_store.proofs.StoreStates.{made-good, changed-good, freed-good, starting-kept, starting-changed, starting-freed, fresh-apart}

module _ (s : HeldPlaces ValueRecord) (made : ℕ) (starting : List ValueId) (kept : IsKeptStore s made starting) (t : StoreState) (view : state_of s made ≡ t) where
  pub good-view : IsGood t
  good-view = subst IsGood view kept.good

  -- A VALUE IS MADE
  module _ (new : HeldPlaces ValueRecord) (id : ℕ) (p : Contents) (value : ℕ → Value) (has : HasValue p value)
      (adds : AddsRecord s new id (record { number = made + 1; value = p }))
      (names : (n : ℕ) → let v : Value = value n in HasDistinctNames v.properties) (closed : (n : ℕ) → All (IsLive t) (children (value n))) where
    step : MakesValue (state_of s made) (state_of new (made + 1)) id (value (made + 1))
    step = subst (λ v. MakesValue (state_of s made) (state_of new (made + 1)) id v) (has (made + 1)) (adds-makes s new made id (record { number = made + 1; value = p }) adds)

    number-is : let v : Value = value (made + 1) in v.number ≡ made + 1
    number-is = ap (λ (v : Value). v.number) (sym (has (made + 1))) ∙ number-here (made + 1) p

    closed-here : All (IsLive (state_of s made)) (children (value (made + 1)))
    closed-here = subst (λ u. All (IsLive u) (children (value (made + 1)))) (sym view) (closed (made + 1))

    after : IsGood (state_of new (made + 1))
    after = made-good (state_of s made) (state_of new (made + 1)) id (value (made + 1)) kept.good step (once-held new (made + 1) adds.once) number-is (names (made + 1)) closed-here

    pub make-kept : IsKeptStore new (made + 1) starting
    make-kept = record {
      once = adds.once;
      good = after;
      starts =
          starting-kept (state_of s made) (state_of new (made + 1)) starting kept.good
          (λ n given. step.others n (fresh-apart (state_of s made) (state_of new (made + 1)) id (value (made + 1)) kept.good step n given)) kept.starts;
    }

    pub make-makes : MakesValue t (state_of new (made + 1)) id (value (t.made + 1))
    make-makes = subst (λ u. MakesValue u (state_of new (made + 1)) id (value (u.made + 1))) view step

    pub make-graph : graph_of (state_of new (made + 1)) ≡ graph_of t ++ renamed t (value (t.made + 1)) ∷ []
    make-graph =
        subst (λ u. graph_of (state_of new (made + 1)) ≡ graph_of u ++ renamed u (value (u.made + 1)) ∷ []) view
        (made-graph (state_of s made) (state_of new (made + 1)) id (value (made + 1)) kept.good after step number-is closed-here)

  -- SEVERAL ARE MADE
  module _ (new : HeldPlaces ValueRecord) (more : ℕ) (vs : List Value) (id : ℕ) (once : EachHeldOnce new) (grows : GrowsTo (state_of s made) (state_of new (made + more)) vs id) where
    pub list-kept : IsKeptStore new (made + more) starting
    list-kept = record { once = once; good = grows.good; starts = starting-kept (state_of s made) (state_of new (made + more)) starting kept.good grows.kept kept.starts }

    pub list-makes : (count : ℕ) → more ≡ count + 1 → MakesList t (state_of new (made + more)) id count
    list-makes count is =
        subst (λ u. MakesList u (state_of new (made + more)) id count) view (record {
          fresh = grows.fresh;
          number = numbered (value_of (state_of new (made + more)) id) grows.live ∙ ap Some (grows.number ∙ omega (arith, is));
          others = grows.kept;
          issued = grows.issued;
          made = omega (arith, is);
        })
      where
        numbered : (o : Option Value) → IsSome o → option_map (λ (v : Value). v.number) o ≡ Some (unwrap_or (option_map (λ v. v.number) o) 0)
        numbered None some = let no : ⊥ = cc in absurd no
        numbered (Some v) some = refl

    pub list-graph : graph_of (state_of new (made + more)) ≡ graph_of t ++ vs
    list-graph = grows.graph ∙ ap (λ u. graph_of u ++ vs) view

  -- A VALUE IS CHANGED
  module _ (k : ℕ) (r : ValueRecord) (held : record_at s k ≡ Some r) (p : Contents) where
    abbrev next : ValueRecord
    next = record r { value = p }

    abbrev after-change : HeldPlaces ValueRecord
    after-change = with_value_at k s next

    pub value-there : value_of t k ≡ Some (value_of_record r)
    value-there = ap (λ u. value_of u k) (sym view) ∙ value-held s made k ∙ ap (option_map value_of_record) held

    pub properties-there : properties_in t k ≡ properties_here r.value
    properties-there = ap (λ (o : Option Value). unwrap_or (option_map (λ v. v.properties) o) []) value-there ∙ properties-here r.number r.value

    module _ (change : Value → Value) (is : ChangesPlace r.value p change) where
      only : ChangesOnly (state_of s made) (state_of after-change made) k change
      only = record {
        named =
            value-held after-change made k ∙ ap (option_map value_of_record) (record-changed k next s k ∙ ap (option_map (λ old. cond (k == k) next old)) held)
            ∙ ap (λ b. Some (value_of_record (cond b next r))) (eq-eqb k k refl) ∙ ap Some (is r.number)
            ∙ sym (ap (option_map change) (value-held s made k ∙ ap (option_map value_of_record) held));
        others = λ n apart.
            value-held after-change made n ∙ ap (option_map value_of_record) (record-changed k next s n ∙ same (record_at s n) (apart-number n k apart)) ∙ sym (value-held s made n);
        nothing_issued = record { issued = refl; made = refl };
      }
        where
          same : {b : Bool} (o : Option ValueRecord) → b ≡ false → option_map (λ old. cond b next old) o ≡ o
          same None apart = refl
          same (Some q) apart = ap (λ b. Some (cond b next q)) apart

      module _ (keeps : (v : Value) → let w : Value = change v in (w.number ≡ v.number) × (w.body ≡ v.body))
          (fits : (v : Value) → value_of t k ≡ Some v → let w : Value = change v in HasDistinctNames w.properties × All (IsLive t) (children w)) where
        good-change : IsGood (state_of after-change made)
        good-change =
            changed-good (state_of s made) (state_of after-change made) k change kept.good only (λ v. (keeps v).0) (once-held after-change made (once-changed k next s kept.once))
            (λ v there.
            let fit = fits v (ap (λ u. value_of u k) (sym view) ∙ there) in
            (fit.0, subst (λ u. All (IsLive u) (children (change v))) (sym view) fit.1))

        pub change-kept : IsKeptStore after-change made starting
        change-kept = record {
          once = once-changed k next s kept.once;
          good = good-change;
          starts = starting-changed (state_of s made) (state_of after-change made) k change starting only keeps kept.starts;
        }

        pub change-only : ChangesOnly t (state_of after-change made) k change
        change-only = subst (λ u. ChangesOnly u (state_of after-change made) k change) view only

        pub change-graph : (other : Value → Value) → ((v : Value) → renamed t (change v) ≡ other (renamed t v)) → graph_of (state_of after-change made) ≡ value_changed (number_in t k) other (graph_of t)
        change-graph other match =
            changed-graph t (state_of after-change made) k change other good-view good-change change-only (λ v. (keeps v).0) (λ v there. match v)

    -- nothing is, where the value is as it was
    pub same-kept : p ≡ r.value → IsKeptStore after-change made starting
    same-kept same = subst (λ u. IsKeptStore u made starting) (sym (same-slab same)) kept
      where
        same-slab : p ≡ r.value → after-change ≡ s
        same-slab same = ap (λ q. with_value_at k s (record r { value = q })) same ∙ same-record k r s kept.once held

    pub same-state : p ≡ r.value → state_of after-change made ≡ t
    same-state same = ap (λ q. state_of (with_value_at k s (record r { value = q })) made) same ∙ ap (λ u. state_of u made) (same-record k r s kept.once held) ∙ view

    -- BY A PROPERTY OR AN ELEMENT
    module _ (name to : ℕ) (live : IsLive t to) where
      property-fits : (v : Value) → value_of t k ≡ Some v → let w : Value = with_property name to v in HasDistinctNames w.properties × All (IsLive t) (children w)
      property-fits v there = (
        distinct-property_set name to v.properties (good-view.sound.names k v there),
        children-with_property (IsLive t) name to v live (good-view.sound.closed k v there),
      )

      element-fits : (at : ℕ) (v : Value) → value_of t k ≡ Some v → let w : Value = with_element at to v in HasDistinctNames w.properties × All (IsLive t) (children w)
      element-fits at v there = (good-view.sound.names k v there, children-with_element (IsLive t) at to v live (good-view.sound.closed k v there))

      pub property-kept : {A E : Type 0} (q : Result A E) → OnOk q (ChangesPlace r.value p (with_property name to)) → OnErr q (p ≡ r.value) → IsKeptStore after-change made starting
      property-kept (Ok a) ok err = change-kept (with_property name to) ok (λ v. (refl, refl)) property-fits
      property-kept (Err e) ok err = same-kept err

      pub property-only : {A E : Type 0} (q : Result A E) → OnOk q (ChangesPlace r.value p (with_property name to)) → OnOk q (ChangesOnly t (state_of after-change made) k (with_property name to))
      property-only q = ok-then q (λ is. change-only (with_property name to) is (λ v. (refl, refl)) property-fits)

      pub property-graph : {A E : Type 0} (q : Result A E) → OnOk q (ChangesPlace r.value p (with_property name to))
          → OnOk q (graph_of (state_of after-change made) ≡ value_changed (number_in t k) (with_property name (number_in t to)) (graph_of t))
      property-graph q = ok-then q (λ is. change-graph (with_property name to) is (λ v. (refl, refl)) property-fits (with_property name (number_in t to)) (property-named-so t name to))

      pub element-kept : {A E : Type 0} (q : Result A E) (at : ℕ) → OnOk q (ChangesPlace r.value p (with_element at to)) → OnErr q (p ≡ r.value) → IsKeptStore after-change made starting
      element-kept (Ok a) at ok err = change-kept (with_element at to) ok (λ v. (refl, refl)) (element-fits at)
      element-kept (Err e) at ok err = same-kept err

      pub element-only : {A E : Type 0} (q : Result A E) (at : ℕ) → OnOk q (ChangesPlace r.value p (with_element at to)) → OnOk q (ChangesOnly t (state_of after-change made) k (with_element at to))
      element-only q at = ok-then q (λ is. change-only (with_element at to) is (λ v. (refl, refl)) (element-fits at))

      pub element-graph : {A E : Type 0} (q : Result A E) (at : ℕ) → OnOk q (ChangesPlace r.value p (with_element at to))
          → OnOk q (graph_of (state_of after-change made) ≡ value_changed (number_in t k) (with_element at (number_in t to)) (graph_of t))
      element-graph q at = ok-then q (λ is. change-graph (with_element at to) is (λ v. (refl, refl)) (element-fits at) (with_element at (number_in t to)) (element-named-so t at to))

    -- BY THE HIDDEN CHILD
    pub link-there : IsLinked t k → IsTrue (is_linked (body_here r.value))
    link-there h = linked-here r.number r.value (subst (λ (o : Option Value). IsSomeAnd o (λ v. IsTrue (is_linked v.body))) value-there h)

    module _ (to : ℕ) (live : IsLive t to) (is : ChangesPlace r.value p (with_link to)) where
      link-fits : (v : Value) → value_of t k ≡ Some v → let w : Value = with_link to v in HasDistinctNames w.properties × All (IsLive t) (children w)
      link-fits v there = (good-view.sound.names k v there, children-with_link (IsLive t) to v live (good-view.sound.closed k v there))

      pub link-kept : IsKeptStore after-change made starting
      link-kept = change-kept (with_link to) is (λ v. (refl, refl)) link-fits

      pub link-only : ChangesOnly t (state_of after-change made) k (with_link to)
      link-only = change-only (with_link to) is (λ v. (refl, refl)) link-fits

      pub link-graph : graph_of (state_of after-change made) ≡ value_changed (number_in t k) (with_link (number_in t to)) (graph_of t)
      link-graph = change-graph (with_link to) is (λ v. (refl, refl)) link-fits (with_link (number_in t to)) (link-named-so t to)

    module _ (name : ℕ) (is : ChangesPlace r.value p (without_property name)) where
      removal-fits : (v : Value) → value_of t k ≡ Some v → let w : Value = without_property name v in HasDistinctNames w.properties × All (IsLive t) (children w)
      removal-fits v there = (
        distinct-property_removed name v.properties (good-view.sound.names k v there),
        children-without_property (IsLive t) name v (good-view.sound.closed k v there),
      )

      pub removal-kept : IsKeptStore after-change made starting
      removal-kept = change-kept (without_property name) is (λ v. (refl, refl)) removal-fits

      pub removal-only : ChangesOnly t (state_of after-change made) k (without_property name)
      removal-only = change-only (without_property name) is (λ v. (refl, refl)) removal-fits

      pub removal-graph : graph_of (state_of after-change made) ≡ value_changed (number_in t k) (without_property name) (graph_of t)
      removal-graph = change-graph (without_property name) is (λ v. (refl, refl)) removal-fits (without_property name) (removal-named-so t name)

  -- VALUES ARE FREED
  module _ (new : HeldPlaces ValueRecord) (ids : List ℕ) (can : CanFree t ids) (values : (n : ℕ) → record_at new n ≡ cond (has_number n ids) None (record_at s n)) (issued : new.issued ≡ s.issued) (once : EachHeldOnce new) where
    free-step : Frees t (state_of new made) ids
    free-step =
        let at : (n : ℕ) → value_of (state_of new made) n ≡ cond (has_number n ids) None (value_of t n) =
        λ n. value-held new made n ∙ ap (option_map value_of_record) (values n) ∙ moved (has_number n ids) (record_at s n) ∙ ap (cond (has_number n ids) None) (sym (value-held s made n) ∙ ap (λ u. value_of u n) view) in
        record {
          gone = λ n has. at n ∙ ap (λ b. cond b None (value_of t n)) has;
          others = λ n apart. at n ∙ ap (λ b. cond b None (value_of t n)) apart;
          nothing_issued = record { issued = issued ∙ ap (λ (u : StoreState). u.issued) view; made = ap (λ (u : StoreState). u.made) view };
        }
      where
        moved : (b : Bool) (o : Option ValueRecord) → option_map value_of_record (cond b None o) ≡ cond b None (option_map value_of_record o)
        moved true o = refl
        moved false o = refl

    free-good : IsGood (state_of new made)
    free-good = freed-good t (state_of new made) ids good-view free-step can (once-held new made once)

    pub free-kept : IsKeptStore new made starting
    free-kept = record { once = once; good = free-good; starts = starting-freed t (state_of new made) ids starting free-step can (subst (λ u. NameStarting u starting) view kept.starts) }

    pub free-frees : Frees t (state_of new made) ids
    free-frees = free-step

    pub free-graph : graph_of (state_of new made) ≡ filter (λ v. not (has_number v.number (map (number_in t) ids))) (graph_of t)
    free-graph = freed-graph t (state_of new made) ids good-view free-good free-step can

    pub held-all : (ns : List ℕ) → All (IsLive t) ns → All (λ n. IsSome (record_at s n)) ns
    held-all ns live = All-weaker (IsLive t) (λ n. IsSome (record_at s n)) (λ n here. held-value s made n (subst (λ u. IsLive u n) (sym view) here)) ns live

  -- a value that is not there is none of the graph
  pub none-graph : (k name : ℕ) → value_of t k ≡ None → graph_of t ≡ value_changed (number_in t k) (without_property name) (graph_of t)
  none-graph k name none =
      changed-graph t t k (without_property name) (without_property name) good-view good-view
      (record { named = none ∙ sym (ap (option_map (without_property name)) none); others = λ n apart. refl; nothing_issued = record { issued = refl; made = refl } }) (λ v. refl) (λ v there. removal-named-so t name v)

  -- PLACES
  pub live-held : (n : ℕ) → IsLive t n → IsSome (record_at s n)
  live-held n live = held-value s made n (subst (λ u. IsLive u n) (sym view) live)

  pub value-read : (n : ℕ) → value_of t n ≡ option_map value_of_record (record_at s n)
  value-read n = ap (λ u. value_of u n) (sym view) ∙ value-held s made n

  pub id-read : (place : ℕ) → id_at t place ≡ option_map (λ h. h.number) (slice_index_or s.places place None)
  id-read place = ap (λ u. id_at u place) (sym view) ∙ id-held s made place

  pub stands-at : (n place : ℕ) → option_map (λ h. h.number) (slice_index_or s.places place None) ≡ Some n → StandsAt t n place
  stands-at n place is = record {
    within = within t.places place there;
    there = there;
    only = λ other at. good-view.once n other place at there;
  }
    where
      there : id_at t place ≡ Some n
      there = id-read place ∙ is

      within : (ps : List (Option Stored)) (p : ℕ) → option_map (λ (x : Stored). x.id) (slice_index_or ps p None) ≡ Some n → p < length ps
      within [] p h = let no : ⊥ = cc in absurd no
      within (x ∷ ps) zero h = omega arith
      within (x ∷ ps) (suc p) h = let less : p < length ps = within ps p h in omega (arith, less)
