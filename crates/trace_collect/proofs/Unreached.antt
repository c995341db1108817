-- The values that the roots do not reach: which they are, that they may be freed, and what stays.
use Rattle.std.proofs.Common.{◌≡◌, ℕ, zero, suc, ◌+◌, ◌-◌, ◌<◌, ◌≤◌, ◌==◌, ◌&&◌, nat_eq, Bool, true, false, cond, not, List, [], ◌∷◌, map, filter, length, get_or, Option, Some, None, IsSome, IfSome, option_map, slice_index_or, if◌then◌else◌, refl, ap, sym, subst, ◌∙◌, arith}
use Rattle.std.specs.List.{All, IsDistinct, range_with_len}
use Rattle.std.specs.List.Sorted.{IsPermutation, IsNonDecreasingBy, IsNonDecreasing, IsStrictlyIncreasing}
use Rattle.std.proofs.Math.Bool.{and-true}
use Rattle.std.proofs.lemmas.Bool.{or_left, or_right, eq-eqb}
use Rattle.std.proofs.lemmas.List.{length-map, get_or-map}
use Rattle.std.proofs.lemmas.List.Sorted.{IsPermutation-map, list_any-IsPermutation}
use Rattle.std.proofs.lemmas.Map.Keys.{IsDistinct-IsPermutation, IsStrictlyIncreasing-from_distinct}
use Rattle.napi_types.specs.declared.ids.ValueId.{ValueId}
use Rattle.napi_types.specs.plain.Lists.{has_number}
use Rattle.napi_types.specs.parts.Graph.{Stored, StoreState, IsLive, IsSoundStore, value_of, creation_number, number_in, graph_of}
use Rattle.napi_types.specs.parts.Reach.{numbers, children_at}
use Rattle.napi_types.specs.parts.Values.{Value, children, those_of, all_but}
use Rattle.napi_types.proofs.plain.Found.{turned}
use Rattle.napi_types.proofs.parts.Reaching.{reach-roots, reach-closed, has_number-filter, numbers-filter}
use Rattle.value_store.specs.StoreChanges.{id_at, numbers_of, EachStandsOnce, CanFree}
use Rattle.value_store.proofs.LiveValues.{in-range, place-live, live-place, graph-live, live-graph, number-apart, number-value, graph-children, graph-distinct}
use Rattle.value_store.proofs.ReadingPlaces.{some-is}
use Rattle.value_store.proofs.NamedPlaces.{All-from_has}
use Rattle.trace_collect.specs.Collects.{reached, HoldsStarting, IsUnreached, AreUnreached}
use Rattle.mark_bits.specs.PlaceMarks.{is_marked}
use Rattle.trace_collect.specs.MarkedValues.{unmarked_ids, AreMarked}
use Rattle.trace_collect.proofs.Distinct.{same-length, distinct-filter, distinct-map, distinct-range}
use Rattle.trace_collect.proofs.MarkMembers.{has-map, from-map, has-filter_map, from-filter_map}
use Rattle.trace_collect.proofs.Unmarked.{unmarked_at}

-- a place with a value is one of the store's
id_at-within : (s : StoreState) (place id : ℕ) → id_at s place ≡ Some id → place < length s.places
id_at-within s place id is = by s.places place is
  where
    by : (ps : List (Option Stored)) (place : ℕ) → option_map (λ (x : Stored). x.id) (slice_index_or ps place None) ≡ Some id → place < length ps
    by [] place is = let none : ⊥ = cc in absurd none
    by (x ∷ ps) zero is = omega arith
    by (x ∷ ps) (suc place) is = let less : place < length ps = by ps place is in omega arith

-- what stands at a place that is not marked
unmarked-is : (s : StoreState) (marks : List Bool) (place id : ℕ) → unmarked_at s marks place ≡ Some id → (is_marked marks place ≡ false) × (id_at s place ≡ Some id)
unmarked-is s marks place id is = by (is_marked marks place) refl is
  where
    by : (b : Bool) → is_marked marks place ≡ b → (if b then None else id_at s place) ≡ Some id → (is_marked marks place ≡ false) × (id_at s place ≡ Some id)
    by true e is = let none : ⊥ = cc in absurd none
    by false e is = (e, is)

-- no value stands there twice
pub unmarked-distinct : (s : StoreState) (marks : List Bool) (many : ℕ) → EachStandsOnce s → IsDistinct nat_eq (unmarked_ids s marks many)
unmarked-distinct s marks many once = distinct-range (unmarked_at s marks) (λ n i j one two. once n i j (unmarked-is s marks i n one).1 (unmarked-is s marks j n two).1) 0 many

-- where the values that the roots reach are marked, they are the values that the roots do not reach
pub unmarked-unreached : (s : StoreState) (roots : List ℕ) (marks : List Bool) → EachStandsOnce s → length marks ≡ length s.places → AreMarked s roots marks → AreUnreached s roots (unmarked_ids s marks (length marks))
unmarked-unreached s roots marks once size marked = λ id. (there id, back id)
  where
    there : (id : ℕ) → has_number id (unmarked_ids s marks (length marks)) ≡ true → IsUnreached s roots id
    there id h =
        let r = from-filter_map (unmarked_at s marks) (range_with_len 0 (length marks)) id h in
        let at : (is_marked marks r.0 ≡ false) × (id_at s r.0 ≡ Some id) = unmarked-is s marks r.0 id r.2 in
        (place-live s once r.0 id at.1, sym (marked r.0 id at.1) ∙ at.0)

    back : (id : ℕ) → IsUnreached s roots id → has_number id (unmarked_ids s marks (length marks)) ≡ true
    back id h =
        let at : (place : ℕ) × (id_at s place ≡ Some id) = live-place s once id h.0 in
        let free : is_marked marks at.0 ≡ false = marked at.0 id at.1 ∙ h.1 in
        let less : at.0 < length s.places = id_at-within s at.0 id at.1 in
        let is : unmarked_at s marks at.0 ≡ Some id = ap (λ b. if b then None else id_at s at.0) free ∙ at.1 in
        has-filter_map (unmarked_at s marks) (range_with_len 0 (length marks)) at.0 id (in-range at.0 0 (length marks) (omega arith) (omega arith)) is

-- SORTED
-- the list of the values at unmarked places, sorted
module _ (s : StoreState) (once : EachStandsOnce s) (roots : List ℕ) (marks : List Bool) (list sorted : List ValueId) (is : numbers_of list ≡ unmarked_ids s marks (length marks)) (moved : IsPermutation list sorted) where
  moved-numbers : IsPermutation (numbers_of list) (numbers_of sorted)
  moved-numbers = IsPermutation-map (λ (v : ValueId). v.0) list sorted moved

  pub sorted-distinct : IsDistinct nat_eq (numbers_of sorted)
  sorted-distinct = IsDistinct-IsPermutation nat_eq turned (numbers_of list) (numbers_of sorted) moved-numbers (subst (λ ns. IsDistinct nat_eq ns) (sym is) (unmarked-distinct s marks (length marks) once))

  pub sorted-unreached : length marks ≡ length s.places → AreMarked s roots marks → AreUnreached s roots (numbers_of sorted)
  sorted-unreached size marked id =
      let same : has_number id (numbers_of sorted) ≡ has_number id (unmarked_ids s marks (length marks)) = sym (list_any-IsPermutation (λ m. m == id) (numbers_of list) (numbers_of sorted) moved-numbers) ∙ ap (has_number id) is in
      let all = unmarked-unreached s roots marks once size marked id in
      ((λ h. all.0 (sym same ∙ h)), (λ h. same ∙ all.1 h))

-- distinct numbers that do not fall rise
pub sorted-rising : (sorted : List ValueId) → IsNonDecreasingBy (λ v. v.0) sorted → IsDistinct nat_eq (numbers_of sorted) → IsStrictlyIncreasing (numbers_of sorted)
sorted-rising sorted order apart = IsStrictlyIncreasing-from_distinct (numbers_of sorted) in-order apart
  where
    in-order : IsNonDecreasing (numbers_of sorted)
    in-order i j d low high =
        let v : ValueId = record { 0 = d } in
        let many : length (numbers_of sorted) ≡ length sorted = length-map sorted (λ (v : ValueId). v.0) in
        let less : j < length sorted = omega arith in
        let before : i < length sorted = omega arith in
        let one : get_or (numbers_of sorted) i d ≡ (get_or sorted i v).0 = get_or-map (λ (v : ValueId). v.0) sorted i v d before in
        let two : get_or (numbers_of sorted) j d ≡ (get_or sorted j v).0 = get_or-map (λ (v : ValueId). v.0) sorted j v d less in
        rw (one, two) (order i j v low less)

-- FREED
-- tests that agree at each of the values' numbers keep the same values
filter-agree : (p q : ℕ → Bool) (vs : List Value) → ((n : ℕ) → has_number n (numbers vs) ≡ true → p n ≡ q n) → filter (λ v. p v.number) vs ≡ filter (λ v. q v.number) vs
filter-agree p q [] agree = refl
filter-agree p q (v ∷ vs) agree =
    ap (λ b. cond b (v ∷ filter (λ (w : Value). p w.number) vs) (filter (λ (w : Value). p w.number) vs)) (agree v.number (or_left (v.number == v.number) (has_number v.number (numbers vs)) (eq-eqb v.number v.number refl)))
    ∙ ap (λ l. cond (q v.number) (v ∷ l) l) (filter-agree p q vs (λ n h. agree n (or_right (v.number == n) (has_number n (numbers vs)) h)))

module _ (s : StoreState) (once : EachStandsOnce s) (sound : IsSoundStore s) (roots : List ℕ) (ids : List ℕ) (all : AreUnreached s roots ids) where
  pub ids-live : All (IsLive s) ids
  ids-live = All-from_has (IsLive s) ids (λ id h. ((all id).0 h).0)

  -- no root is one of them
  pub roots-kept : All (λ r. has_number r ids ≡ false) roots
  roots-kept = All-from_has (λ r. has_number r ids ≡ false) roots (λ r h. by r h (has_number r ids) refl)
    where
      by : (r : ℕ) → has_number r roots ≡ true → (b : Bool) → has_number r ids ≡ b → has_number r ids ≡ false
      by r h false e = e
      by r h true e =
          let there : has_number (number_in s r) (reached s roots) ≡ true =
          reach-roots (graph_of s) (map (number_in s) roots) (number_in s r) (live-graph s once sound r ((all r).0 e).0) (has-map (number_in s) roots r h) in
          let none : ⊥ = cc (there, ((all r).0 e).1) in
          absurd none

  -- a number of the graph is one of theirs where the roots do not reach it
  freed-number : (n : ℕ) → has_number n (numbers (graph_of s)) ≡ true → has_number n (map (number_in s) ids) ≡ not (has_number n (reached s roots))
  freed-number n there = by (has_number n (map (number_in s) ids)) refl (has_number n (reached s roots)) refl
    where
      among : has_number n (map (number_in s) ids) ≡ true → has_number n (reached s roots) ≡ false
      among h =
          let r = from-map (number_in s) ids n h in
          subst (λ m. has_number m (reached s roots) ≡ false) r.2 ((all r.0).0 r.1).1

      missed : has_number n (reached s roots) ≡ false → has_number n (map (number_in s) ids) ≡ true
      missed h =
          let p : (p : ℕ) × IsLive s p × (number_in s p ≡ n) = graph-live s once sound n there in
          subst (λ m. has_number m (map (number_in s) ids) ≡ true) p.2 (has-map (number_in s) ids p.0 ((all p.0).1 (p.1, ap (λ m. has_number m (reached s roots)) p.2 ∙ h)))

      by : (a : Bool) → has_number n (map (number_in s) ids) ≡ a → (b : Bool) → has_number n (reached s roots) ≡ b → has_number n (map (number_in s) ids) ≡ not (has_number n (reached s roots))
      by true h b e = h ∙ sym (ap not (among h))
      by false h true e = h ∙ sym (ap not e)
      by false h false e = let none : ⊥ = cc (missed e) in absurd none

  -- what is left of the graph when they are freed is what the roots reach
  pub kept-graph : all_but (map (number_in s) ids) (graph_of s) ≡ those_of (reached s roots) (graph_of s)
  kept-graph = filter-agree (λ n. not (has_number n (map (number_in s) ids))) (λ n. has_number n (reached s roots)) (graph_of s) (λ n h. ap not (freed-number n h) ∙ twice (has_number n (reached s roots)))
    where
      twice : (b : Bool) → not (not b) ≡ b
      twice true = refl
      twice false = refl

  -- and they are as many as the others
  pub freed-count : IsDistinct nat_eq ids → length ids ≡ length (all_but (reached s roots) (graph_of s))
  freed-count apart =
      sym (length-map ids (number_in s))
      ∙ same-length (map (number_in s) ids) (filter (λ n. not (has_number n (reached s roots))) (numbers (graph_of s)))
      (distinct-map (IsLive s) (number_in s) (number-apart s once sound) ids ids-live apart)
      (distinct-filter (λ n. not (has_number n (reached s roots))) (numbers (graph_of s)) (graph-distinct s)) same
      ∙ ap length (sym (numbers-filter (λ n. not (has_number n (reached s roots))) (graph_of s)))
      ∙ length-map (all_but (reached s roots) (graph_of s)) (λ (v : Value). v.number)
    where
      listed : (n : ℕ) → has_number n (map (number_in s) ids) ≡ true → has_number n (numbers (graph_of s)) ≡ true
      listed n h =
          let r = from-map (number_in s) ids n h in
          subst (λ m. has_number m (numbers (graph_of s)) ≡ true) r.2 (live-graph s once sound r.0 ((all r.0).0 r.1).0)

      by : (n : ℕ) (a : Bool) → has_number n (numbers (graph_of s)) ≡ a → (b : Bool) → has_number n (map (number_in s) ids) ≡ b → has_number n (map (number_in s) ids) ≡ (not (has_number n (reached s roots)) && a)
      by n true there b h = freed-number n there ∙ sym (and-true (not (has_number n (reached s roots))))
      by n false there true h = let none : ⊥ = cc (listed n h) in absurd none
      by n false there false h = h ∙ sym (and-none (not (has_number n (reached s roots))))
        where
          and-none : (b : Bool) → (b && false) ≡ false
          and-none true = refl
          and-none false = refl

      same : (n : ℕ) → has_number n (map (number_in s) ids) ≡ has_number n (filter (λ n. not (has_number n (reached s roots))) (numbers (graph_of s)))
      same n = by n (has_number n (numbers (graph_of s))) refl (has_number n (map (number_in s) ids)) refl ∙ sym (has_number-filter n (λ m. not (has_number m (reached s roots))) (numbers (graph_of s)))

  -- they may be freed
  pub unreached-can-free : HoldsStarting s roots → IsDistinct nat_eq ids → CanFree s ids
  unreached-can-free starting apart = record {
    live = ids-live;
    distinct = apart;
    not_starting = All-from_has (λ id. IfSome (creation_number s id) (λ number. 5 < number)) ids (λ id h. not-starting id ((all id).0 h));
    unnamed = λ n v is apart. All-from_has (λ m. has_number m ids ≡ false) (children v) (λ m h. not-named n v is apart m h (has_number m ids) refl);
  }
    where
      late : (n : ℕ) → (n ≤ 5 → ⊥) → 5 < n
      late n h = omega arith

      not-starting : (id : ℕ) → IsUnreached s roots id → IfSome (creation_number s id) (λ number. 5 < number)
      not-starting id h =
          let v : (v : Value) × (value_of s id ≡ Some v) = some-is (value_of s id) h.0 in
          let counted : (0 < v.0.number) × (v.0.number ≤ s.made) = sound.counted id v.0 v.1 in
          let number : number_in s id ≡ v.0.number = number-value s id v.0 v.1 in
          let early : v.0.number ≤ 5 → ⊥ = λ low.
          let which : v.0.number - 1 + 1 ≡ number_in s id = omega arith in
          let root : has_number (number_in s id) (map (number_in s) roots) ≡ true = subst (λ m. has_number m (map (number_in s) roots) ≡ true) which (starting (v.0.number - 1) (omega arith)) in
          let reach : has_number (number_in s id) (reached s roots) ≡ true = reach-roots (graph_of s) (map (number_in s) roots) (number_in s id) (live-graph s once sound id h.0) root in
          let apart = h.1 in cc in
          subst (λ (o : Option Value). IfSome (option_map (λ w. w.number) o) (λ number. 5 < number)) (sym v.1) (late v.0.number early)

      -- a value that is not one of them is reached, and so are its children
      kept : (n : ℕ) → IsLive s n → has_number n ids ≡ false → (b : Bool) → has_number (number_in s n) (reached s roots) ≡ b → has_number (number_in s n) (reached s roots) ≡ true
      kept n live apart true e = e
      kept n live apart false e = let here : has_number n ids ≡ true = (all n).1 (live, e) in let none : ⊥ = cc in absurd none

      not-named : (n : ℕ) (v : Value) → value_of s n ≡ Some v → has_number n ids ≡ false → (m : ℕ) → has_number m (children v) ≡ true → (b : Bool) → has_number m ids ≡ b → has_number m ids ≡ false
      not-named n v is apart m h false e = e
      not-named n v is apart m h true e =
          let live : IsLive s n = subst (λ (o : Option Value). IsSome o) (sym is) refl in
          let parent : has_number (number_in s n) (reached s roots) ≡ true = kept n live apart (has_number (number_in s n) (reached s roots)) refl in
          let child : has_number (number_in s m) (children_at (graph_of s) (number_in s n)) ≡ true = subst (λ ns. has_number (number_in s m) ns ≡ true) (sym (graph-children s once sound n v is)) (has-map (number_in s) (children v) m h) in
          let unreached : IsUnreached s roots m = (all m).0 e in
          let reach : has_number (number_in s m) (reached s roots) ≡ true = reach-closed (graph_of s) (map (number_in s) roots) (number_in s n) (number_in s m) parent child (live-graph s once sound m unreached.0) in
          let other = unreached.1 in
          let none : ⊥ = cc in absurd none
