-- What is marked is what the roots reach.
use Rattle.std.proofs.Common.{◌≡◌, ℕ, ◌⊎◌, inl, inr, Bool, true, false, List, [], ◌∷◌, ◌++◌, map, Option, Some, None, is_some, option_map, refl, ap, sym, subst, ◌∙◌, arith}
use Rattle.std.specs.List.{All}
use Rattle.std.specs.Option.{unwrap_or}
use Rattle.std.proofs.lemmas.List.Elements.{All-weaker}
use Rattle.napi_types.specs.plain.Lists.{has_number}
use Rattle.napi_types.specs.parts.Graph.{StoreState, IsLive, IsSoundStore, value_of, number_in, graph_of}
use Rattle.napi_types.specs.parts.Reach.{numbers, children_at}
use Rattle.napi_types.specs.parts.Values.{Value, children, value_at}
use Rattle.napi_types.proofs.plain.Maps.{has-left, has-right}
use Rattle.napi_types.proofs.parts.Reaching.{reach-roots, reach-closed, reach-least}
use Rattle.value_store.specs.StoreChanges.{id_at, children_in, EachStandsOnce}
use Rattle.value_store.proofs.LiveValues.{has-numbers, place-live, live-place, graph-live, live-graph, number-apart, graph-children}
use Rattle.value_store.proofs.ReadingPlaces.{some-is}
use Rattle.value_store.proofs.NamedPlaces.{All-has}
use Rattle.trace_collect.specs.Collects.{reached}
use Rattle.mark_bits.specs.PlaceMarks.{is_marked}
use Rattle.trace_collect.specs.MarkedValues.{IsMarked, NoneIsMarked, AreMarked, Marks, IsMarking}
use Rattle.trace_collect.proofs.MarkMembers.{has-cases, has-one, has-map, from-map}
use Rattle.trace_collect.proofs.Marking.{marked-kept}

-- the children of a live value
children-in : (s : StoreState) (id : ℕ) (v : Value) → value_of s id ≡ Some v → children_in s id ≡ children v
children-in s id v is = ap (λ (o : Option Value). unwrap_or (option_map children o) []) is

module _ (s : StoreState) (once : EachStandsOnce s) (sound : IsSoundStore s) (roots : List ℕ) where
  -- a value is followed when its children are marked
  pub marking-turn : (old new : List Bool) (rest next : List ℕ) (x : ℕ) → IsMarking s roots old (rest ++ x ∷ []) → Marks s (children_in s x) old rest new next → IsMarking s roots new next
  marking-turn old new rest next x before more = record {
    rooted = All-weaker (IsMarked s old) (IsMarked s new) (marked-kept s old new more.kept) roots before.rooted;
    sound = λ place id at h. by-sound place id at (more.added place id at h);
    followed = λ place id at h. by-added place id at (more.added place id at h);
    waiting = λ id h. by-waiting id (more.left id h);
  }
    where
      last : has_number x (rest ++ x ∷ []) ≡ true
      last = has-right x rest (x ∷ []) (grind arith)

      waits : IsLive s x × IsMarked s old x
      waits = before.waiting x last

      v : (v : Value) × (value_of s x ≡ Some v)
      v = some-is (value_of s x) waits.0

      here : (place : ℕ) × (id_at s place ≡ Some x)
      here = live-place s once x waits.0

      by-sound : (place id : ℕ) → id_at s place ≡ Some id → (is_marked old place ≡ true) ⊎ ((has_number id (children_in s x) ≡ true) × (has_number id next ≡ true)) → has_number (number_in s id) (reached s roots) ≡ true
      by-sound place id at (inl h) = before.sound place id at h
      by-sound place id at (inr h) =
          let from : has_number (number_in s x) (reached s roots) ≡ true = before.sound here.0 x here.1 (waits.1 here.0 here.1) in
          let child : has_number id (children v.0) ≡ true = subst (λ ns. has_number id ns ≡ true) (children-in s x v.0 v.1) h.0 in
          let there : has_number (number_in s id) (children_at (graph_of s) (number_in s x)) ≡ true = subst (λ ns. has_number (number_in s id) ns ≡ true) (sym (graph-children s once sound x v.0 v.1)) (has-map (number_in s) (children v.0) id child) in
          reach-closed (graph_of s) (map (number_in s) roots) (number_in s x) (number_in s id) from there (live-graph s once sound id (place-live s once place id at))

      by-left : (place id : ℕ) → (has_number id rest ≡ true) ⊎ (has_number id (x ∷ []) ≡ true) → (has_number id next ≡ true) ⊎ All (IsMarked s new) (children_in s id)
      by-left place id (inl h) = inl (more.waits id h)
      by-left place id (inr h) = inr (subst (λ n. All (IsMarked s new) (children_in s n)) (has-one id x h) more.marked)

      by-followed : (place id : ℕ) → (has_number id (rest ++ x ∷ []) ≡ true) ⊎ All (IsMarked s old) (children_in s id) → (has_number id next ≡ true) ⊎ All (IsMarked s new) (children_in s id)
      by-followed place id (inl h) = by-left place id (has-cases id rest (x ∷ []) h)
      by-followed place id (inr h) = inr (All-weaker (IsMarked s old) (IsMarked s new) (marked-kept s old new more.kept) (children_in s id) h)

      by-added : (place id : ℕ) → id_at s place ≡ Some id → (is_marked old place ≡ true) ⊎ ((has_number id (children_in s x) ≡ true) × (has_number id next ≡ true)) → (has_number id next ≡ true) ⊎ All (IsMarked s new) (children_in s id)
      by-added place id at (inl h) = by-followed place id (before.followed place id at h)
      by-added place id at (inr h) = inl h.1

      by-waiting : (id : ℕ) → (has_number id rest ≡ true) ⊎ (has_number id (children_in s x) ≡ true) → IsLive s id × IsMarked s new id
      by-waiting id (inl h) = let was = before.waiting id (has-left id rest (x ∷ []) h) in (was.0, marked-kept s old new more.kept id was.1)
      by-waiting id (inr h) =
          let child : has_number id (children v.0) ≡ true = subst (λ ns. has_number id ns ≡ true) (children-in s x v.0 v.1) h in
          (All-has (IsLive s) (children v.0) id (sound.closed x v.0 v.1) child, All-has (IsMarked s new) (children_in s x) id more.marked h)

  module _ (live : All (IsLive s) roots) where
    -- where only the roots are marked, they are left to follow
    pub marking-start : (old marks : List Bool) (left : List ℕ) → NoneIsMarked s old → Marks s roots old [] marks left → IsMarking s roots marks left
    marking-start old marks left unmarked first = record {
      rooted = first.marked;
      sound = λ place id at h. by-sound place id at (first.added place id at h);
      followed = λ place id at h. by-left place id at (first.added place id at h);
      waiting = λ id h. by-waiting id (first.left id h);
    }
      where
        no-value : (place id : ℕ) → id_at s place ≡ Some id → is_marked old place ≡ true → ⊥
        no-value place id at h = let none : Some id ≡ None = sym at ∙ unmarked place h in cc

        by-sound : (place id : ℕ) → id_at s place ≡ Some id → (is_marked old place ≡ true) ⊎ ((has_number id roots ≡ true) × (has_number id left ≡ true)) → has_number (number_in s id) (reached s roots) ≡ true
        by-sound place id at (inl h) = absurd (no-value place id at h)
        by-sound place id at (inr h) = reach-roots (graph_of s) (map (number_in s) roots) (number_in s id) (live-graph s once sound id (place-live s once place id at)) (has-map (number_in s) roots id h.0)

        by-left : (place id : ℕ) → id_at s place ≡ Some id → (is_marked old place ≡ true) ⊎ ((has_number id roots ≡ true) × (has_number id left ≡ true)) → (has_number id left ≡ true) ⊎ All (IsMarked s marks) (children_in s id)
        by-left place id at (inl h) = absurd (no-value place id at h)
        by-left place id at (inr h) = inl h.1

        by-waiting : (id : ℕ) → (has_number id [] ≡ true) ⊎ (has_number id roots ≡ true) → IsLive s id × IsMarked s marks id
        by-waiting id (inl h) = let no : ⊥ = cc in absurd no
        by-waiting id (inr h) = (All-has (IsLive s) roots id live h, All-has (IsMarked s marks) roots id first.marked h)

    module _ (marks : List Bool) (done : IsMarking s roots marks []) where
      -- every live value of this creation number is marked
      abbrev AllMarked : ℕ → Type 0
      AllMarked n = (id : ℕ) → IsLive s id → number_in s id ≡ n → IsMarked s marks id

      root-marked : (n : ℕ) → has_number n (numbers (graph_of s)) ≡ true → has_number n (map (number_in s) roots) ≡ true → AllMarked n
      root-marked n there root id h number =
          let r = from-map (number_in s) roots n root in
          let same : r.0 ≡ id = number-apart s once sound r.0 id (All-has (IsLive s) roots r.0 live r.1) h (r.2 ∙ sym number) in
          subst (λ m. IsMarked s marks m) same (All-has (IsMarked s marks) roots r.0 done.rooted r.1)

      -- a number with children is in the graph
      parent-there : (n m : ℕ) → has_number m (children_at (graph_of s) n) ≡ true → has_number n (numbers (graph_of s)) ≡ true
      parent-there n m h = has-numbers (graph_of s) n ∙ by (value_at (graph_of s) n) h
        where
          by : (o : Option Value) → has_number m (unwrap_or (option_map children o) []) ≡ true → is_some o ≡ true
          by None h = let none : ⊥ = cc in absurd none
          by (Some v) h = refl

      child-marked : (n m : ℕ) → AllMarked n → has_number m (children_at (graph_of s) n) ≡ true → has_number m (numbers (graph_of s)) ≡ true → AllMarked m
      child-marked n m all child there id h number =
          let p : (p : ℕ) × IsLive s p × (number_in s p ≡ n) = graph-live s once sound n (parent-there n m child) in
          let v : (v : Value) × (value_of s p.0 ≡ Some v) = some-is (value_of s p.0) p.1 in
          let among : has_number m (map (number_in s) (children v.0)) ≡ true = subst (λ ns. has_number m ns ≡ true) (ap (children_at (graph_of s)) (sym p.2) ∙ graph-children s once sound p.0 v.0 v.1) child in
          let c : (c : ℕ) × (has_number c (children v.0) ≡ true) × (number_in s c ≡ m) = from-map (number_in s) (children v.0) m among in
          let same : c.0 ≡ id = number-apart s once sound c.0 id (All-has (IsLive s) (children v.0) c.0 (sound.closed p.0 v.0 v.1) c.1) h (c.2 ∙ sym number) in
          let at : (place : ℕ) × (id_at s place ≡ Some p.0) = live-place s once p.0 p.1 in
          let marked : All (IsMarked s marks) (children_in s p.0) = followed p.0 (done.followed at.0 p.0 at.1 (all p.0 p.1 p.2 at.0 at.1)) in
          subst (λ k. IsMarked s marks k) same (All-has (IsMarked s marks) (children_in s p.0) c.0 marked (subst (λ ns. has_number c.0 ns ≡ true) (sym (children-in s p.0 v.0 v.1)) c.1))
        where
          followed : (p : ℕ) → (has_number p [] ≡ true) ⊎ All (IsMarked s marks) (children_in s p) → All (IsMarked s marks) (children_in s p)
          followed p (inl h) = let none : ⊥ = cc in absurd none
          followed p (inr h) = h

      -- when nothing is left to follow, what is marked is what the roots reach
      pub marked-all : AreMarked s roots marks
      marked-all place id at = by (is_marked marks place) refl (has_number (number_in s id) (reached s roots)) refl
        where
          by : (b : Bool) → is_marked marks place ≡ b → (c : Bool) → has_number (number_in s id) (reached s roots) ≡ c → is_marked marks place ≡ has_number (number_in s id) (reached s roots)
          by true h c is = h ∙ sym (done.sound place id at h)
          by false h false is = h ∙ sym is
          by false h true is =
              let marked : is_marked marks place ≡ true = reach-least (graph_of s) (map (number_in s) roots) AllMarked root-marked child-marked (number_in s id) is id (place-live s once place id at) refl place at in
              let none : ⊥ = cc in absurd none
