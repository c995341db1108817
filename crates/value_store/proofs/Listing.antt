-- New values that are an array's elements.
use Rattle.std.proofs.Common.{◌≡◌, ◌∙◌, ℕ, suc, ◌+◌, ◌-◌, ◌<◌, ◌≤◌, List, [], ◌∷◌, ◌++◌, map, length, take, get_or, Option, Some, refl, ap, sym, subst, arith, append-nil}
use Rattle.std.specs.List.{All, filter_map, range_with_len}
use Rattle.std.proofs.lemmas.List.{length-take-le, take_more, take_all}
use Rattle.std.proofs.lemmas.List.Elements.{All-nil, All-get_or}
use Rattle.generation_slab.specs.HeldPlaces.{HeldPlaces, EachStandsOnce as EachHeldOnce}
use Rattle.napi_types.specs.declared.body.Body.{Body}
use Rattle.napi_types.specs.parts.Bodies.{NamesNoChild}
use Rattle.napi_types.specs.parts.Graph.{IsLive, number_in}
use Rattle.napi_types.specs.parts.NewValues.{made_after, array_of, list_of}
use Rattle.napi_types.specs.parts.Values.{children, fresh_value, with_element}
use Rattle.value_store.specs.declared.contents.Contents.{Contents}
use Rattle.value_store.specs.declared.contents.Contents.TheVariants.{Plain}
use Rattle.value_store.specs.declared.record.ValueRecord.{ValueRecord}
use Rattle.value_store.specs.Contents.{value_here, state_of, HasValue, ChangesPlace, AddsRecord, IsGood, Grows, GrowsTo, ListsSoFar}
use Rattle.value_store.proofs.Growing.{grows-none, put-one, put-last}
use Rattle.value_store.proofs.Linked.{plain-here}
use Rattle.value_store.proofs.PropertyNames.{distinct-none}
use Rattle.value_store.proofs.RenamedParts.{array-named, array-more}

length-made_after : (n : ℕ) (bs : List Body) → length (made_after n bs) ≡ length bs
length-made_after n [] = refl
length-made_after n (b ∷ bs) = ap suc (length-made_after (n + 1) bs)

-- one body more is one value more, with the next number
made_after-more : (n : ℕ) (bs : List Body) (b : Body) → made_after n (bs ++ b ∷ []) ≡ made_after n bs ++ fresh_value (n + length bs + 1) b ∷ []
made_after-more n [] b = ap (λ m. fresh_value (m + 1) b ∷ []) (plus-none n)
  where
    plus-none : (n : ℕ) → n ≡ n + 0
    plus-none n = omega arith
made_after-more n (c ∷ bs) b =
    ap (λ l. fresh_value (n + 1) c ∷ l) (made_after-more (n + 1) bs b ∙ ap (λ m. made_after (n + 1) bs ++ fresh_value (m + 1) b ∷ []) (moved n (length bs)))
  where
    moved : (n k : ℕ) → n + 1 + k ≡ n + suc k
    moved n k = omega arith

named-all : (numbers : List ℕ) → filter_map (λ (e : Option ℕ). e) (map Some numbers) ≡ numbers
named-all [] = refl
named-all (n ∷ numbers) = ap (λ l. n ∷ l) (named-all numbers)

-- the children of an array are its elements
array-children : (n : ℕ) (numbers : List ℕ) → children (array_of n numbers) ≡ numbers
array-children n numbers = append-nil (filter_map (λ (e : Option ℕ). e) (map Some numbers)) ∙ named-all numbers

module _ (old : HeldPlaces ValueRecord) (made : ℕ) (bodies : List Body) where
  -- so many were made as are set
  pub so-many : (now : HeldPlaces ValueRecord) (array : Contents) (at : ℕ) (so_far : ListsSoFar old now made bodies array at) → at ≤ length bodies
      → at ≡ length so_far.ids
  so-many now array at so_far within =
      sym (so_far.grows.many ∙ length-made_after made (take at bodies) ∙ length-take-le at bodies within)

  pub list-start : (now : HeldPlaces ValueRecord) (array : Contents) → IsGood (state_of old made) → EachHeldOnce old → now ≡ record old { room = now.room }
      → HasValue array (λ n. array_of n (range_with_len 0 (length bodies))) → length bodies + 1 ≤ now.room → ListsSoFar old now made bodies array 0
  list-start now array good once kept elements room = record {
    ids = [];
    grows = subst (λ m. Grows (state_of old made) (state_of now m) [] []) (plus-none made) (subst (λ s. Grows (state_of old made) (state_of s made) [] []) (sym kept) (grows-none (state_of old made) good));
    once = subst EachHeldOnce (sym kept) once;
    elements = λ n. elements n ∙ ap (λ many. array_of n (range_with_len 0 many)) (less-none (length bodies));
    room = omega (arith, room);
  }
    where
      plus-none : (n : ℕ) → n ≡ n + 0
      plus-none n = omega arith

      less-none : (n : ℕ) → n ≡ n - 0
      less-none n = omega arith

  pub list-turn : (now next : HeldPlaces ValueRecord) (array after : Contents) (at number id : ℕ) (d : Body) → All NamesNoChild bodies → ListsSoFar old now made bodies array at
      → at < length bodies
      → number ≡ made + at + 1 → AddsRecord now next id (record { number = number; value = Plain (get_or bodies at d) }) → next.room + 1 ≡ now.room → ChangesPlace array after (with_element at id)
      → ListsSoFar old next made bodies after (at + 1)
  list-turn now next array after at number id d alone so_far less is adds room changes =
      let b : Body = get_or bodies at d in
      let front : length (take at bodies) ≡ at = length-take-le at bodies (omega (arith, less)) in
      let one = put-one now next (made + at) number id (Plain b) (fresh_value number b) (plain-here number b (All-get_or NamesNoChild bodies at d less alone)) adds is (state_of old made) (made_after made (take at bodies)) so_far.ids so_far.grows
      distinct-none (All-nil (IsLive (state_of now (made + at)))) (fresh_value number b) refl in
      record {
        ids = so_far.ids ++ id ∷ [];
        grows =
            subst (λ vs. Grows (state_of old made) (state_of next (made + (at + 1))) vs (so_far.ids ++ id ∷ []))
            (ap (λ k. made_after made (take at bodies) ++ fresh_value k b ∷ []) (is ∙ ap (λ k. made + k + 1) (sym front)) ∙ sym (made_after-more made (take at bodies) b) ∙ ap (made_after made) (sym (take_more bodies at d less)))
            (subst (λ k. Grows (state_of old made) (state_of next k) (made_after made (take at bodies) ++ fresh_value number b ∷ []) (so_far.ids ++ id ∷ [])) (moved number made at is) one);
        once = adds.once;
        elements = λ n. changes n ∙ ap (with_element at id) (so_far.elements n) ∙ array-more n at (length bodies) so_far.ids id (so-many now array at so_far (omega (arith, less))) less;
        room = omega (arith, room, so_far.room);
      }
    where
      moved : (n m k : ℕ) → n ≡ m + k + 1 → n ≡ m + (k + 1)
      moved n m k is = omega (arith, is)

  pub list-end : (now new : HeldPlaces ValueRecord) (array : Contents) (at number id : ℕ) → at ≡ length bodies → ListsSoFar old now made bodies array at
      → number ≡ made + length bodies + 1
      → AddsRecord now new id (record { number = number; value = array }) → GrowsTo (state_of old made) (state_of new (made + (length bodies + 1))) (list_of made bodies) id
  list-end now new array at number id all so_far is adds =
      subst (λ k. GrowsTo (state_of old made) (state_of new k) (list_of made bodies) id) (moved number made (length bodies) is)
      (subst (λ vs. GrowsTo (state_of old made) (state_of new number) vs id) whole
      (put-last now new (made + at) number id array (array_of number so_far.ids) element adds (is ∙ ap (λ k. made + k + 1) (sym all)) (state_of old made) (made_after made (take at bodies)) so_far.ids so_far.grows
      distinct-none (subst (λ ns. All (IsLive (state_of now (made + at))) ns) (sym (array-children number so_far.ids)) so_far.grows.live)
      (array_of number (map (number_in (state_of now (made + at))) so_far.ids)) (sym (array-named (state_of now (made + at)) number so_far.ids))))
    where
      moved : (n m k : ℕ) → n ≡ m + k + 1 → n ≡ m + (k + 1)
      moved n m k is = omega (arith, is)

      none_left : (n : ℕ) → n - n ≡ 0
      none_left n = omega arith

      element : value_here number array ≡ array_of number so_far.ids
      element =
          so_far.elements number ∙ ap (λ k. array_of number (so_far.ids ++ range_with_len at k)) (ap (λ k. length bodies - k) all ∙ none_left (length bodies))
          ∙ ap (array_of number) (append-nil so_far.ids)

      long : length so_far.ids ≡ length bodies
      long = sym (so-many now array at so_far (omega (arith, all))) ∙ all

      whole : made_after made (take at bodies) ++ array_of number (map (number_in (state_of now (made + at))) so_far.ids) ∷ [] ≡ list_of made bodies
      whole =
          ap (λ vs. vs ++ array_of number (map (number_in (state_of now (made + at))) so_far.ids) ∷ []) (ap (made_after made) (take_all at bodies (omega (arith, all))))
          ∙ ap (λ ns. made_after made bodies ++ array_of number ns ∷ []) (so_far.grows.numbers ∙ ap (range_with_len (made + 1)) long)
          ∙ ap (λ k. made_after made bodies ++ array_of k (range_with_len (made + 1) (length bodies)) ∷ []) is
