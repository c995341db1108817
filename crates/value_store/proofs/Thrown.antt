-- An error of new strings.
use Rattle.std.proofs.Common.{◌≡◌, ◌∙◌, ℕ, ◌+◌, List, [], ◌∷◌, Some, None, refl, ap, sym, subst, arith}
use Rattle.std.proofs.lemmas.List.Elements.{All-nil, All-cons, All-head, All-tail}
use Rattle.generation_slab.specs.HeldPlaces.{HeldPlaces}
use Rattle.napi_types.specs.declared.ids.TextNo.{TextNo}
use Rattle.napi_types.specs.declared.body.Body.TheVariants as body
use Rattle.napi_types.specs.plain.Texts.{message_text, code_text}
use Rattle.napi_types.specs.parts.Graph.{IsLive, number_in}
use Rattle.napi_types.specs.parts.NewValues.{error_of, thrown_of}
use Rattle.napi_types.specs.parts.Values.{fresh_value, with_property}
use Rattle.value_store.specs.declared.contents.Contents.{Contents}
use Rattle.value_store.specs.declared.contents.Contents.TheVariants.{Plain}
use Rattle.value_store.specs.declared.record.ValueRecord.{ValueRecord}
use Rattle.value_store.specs.Contents.{state_of, HasValue, ChangesPlace, AddsRecord, IsGood, Grows, GrowsTo}
use Rattle.value_store.proofs.Errors.{error-names}
use Rattle.value_store.proofs.Growing.{grows-none, put-one, put-last}
use Rattle.value_store.proofs.PropertyNames.{distinct-none}

first-of : (n : ℕ) (ns : List ℕ) (k : ℕ) (ks : List ℕ) → n ∷ ns ≡ k ∷ ks → n ≡ k
first-of n ns k ks is = cc

second-of : (m n : ℕ) (j k : ℕ) → m ∷ n ∷ [] ≡ j ∷ k ∷ [] → n ≡ k
second-of m n j k is = cc

module _ (old start : HeldPlaces ValueRecord) (made : ℕ) (message : TextNo) (good : IsGood (state_of old made)) (kept : start ≡ record old { room = start.room }) where
  started : Grows (state_of old made) (state_of start made) [] []
  started = subst (λ s. Grows (state_of old made) (state_of s made) [] []) (sym kept) (grows-none (state_of old made) good)

  said-first : (next : HeldPlaces ValueRecord) (said : ℕ) → AddsRecord start next said (record { number = made + 1; value = Plain (body.Str message) })
      → Grows (state_of old made) (state_of next (made + 1)) (fresh_value (made + 1) (body.Str message) ∷ []) (said ∷ [])
  said-first next said adds =
      put-one start next made (made + 1) said (Plain (body.Str message)) (fresh_value (made + 1) (body.Str message)) refl adds refl (state_of old made) [] [] started distinct-none (All-nil (IsLive (state_of start made)))
      (fresh_value (made + 1) (body.Str message)) refl

  pub thrown-plain : (mid new : HeldPlaces ValueRecord) (said id : ℕ) (none error : Contents) → AddsRecord start mid said
      (record { number = made + 1; value = Plain (body.Str message) })
      → HasValue none (λ n. error_of n None 0) → ChangesPlace none error (with_property message_text said) → AddsRecord mid new id (record { number = made + 2; value = error })
      → GrowsTo (state_of old made) (state_of new (made + 2)) (thrown_of made None message) id
  thrown-plain mid new said id none error first has changes last =
      let grows = said-first mid said first in
      subst (λ w. GrowsTo (state_of old made) (state_of new (made + 2)) (fresh_value (made + 1) (body.Str message) ∷ w ∷ []) id) whole
      (put-last mid new (made + 1) (made + 2) id error (error_of (made + 2) None said) (changes (made + 2) ∙ ap (with_property message_text said) (has (made + 2))) last (next made) (state_of old made)
      (fresh_value (made + 1) (body.Str message) ∷ []) (said ∷ []) grows (error-names (made + 2) None said) (All-cons (IsLive (state_of mid (made + 1))) said [] (All-head (IsLive (state_of mid (made + 1))) said [] grows.live) (All-nil (IsLive (state_of mid (made + 1)))))
      (error_of (made + 2) None (number_in (state_of mid (made + 1)) said)) refl)
    where
      next : (n : ℕ) → n + 2 ≡ n + 1 + 1
      next n = omega arith

      whole : error_of (made + 2) None (number_in (state_of mid (made + 1)) said) ≡ error_of (made + 1 + 1) None (made + 1)
      whole =
          let grows = said-first mid said first in
          ap (λ k. error_of k None (number_in (state_of mid (made + 1)) said)) (next made) ∙ ap (error_of (made + 1 + 1) None) (first-of (number_in (state_of mid (made + 1)) said) [] (made + 1) [] grows.numbers)

  module _ (code : TextNo) where
    coded-next : (mid next : HeldPlaces ValueRecord) (said coded : ℕ) → AddsRecord start mid said (record { number = made + 1; value = Plain (body.Str message) })
        → AddsRecord mid next coded (record { number = made + 2; value = Plain (body.Str code) })
        → Grows (state_of old made) (state_of next (made + 2)) (fresh_value (made + 1) (body.Str message) ∷ fresh_value (made + 2) (body.Str code) ∷ []) (said ∷ coded ∷ [])
    coded-next mid next said coded first second =
        put-one mid next (made + 1) (made + 2) coded (Plain (body.Str code)) (fresh_value (made + 2) (body.Str code)) refl second (one_more made) (state_of old made) (fresh_value (made + 1) (body.Str message) ∷ []) (said ∷ []) (said-first mid said first)
        distinct-none (All-nil (IsLive (state_of mid (made + 1)))) (fresh_value (made + 2) (body.Str code)) refl
      where
        one_more : (n : ℕ) → n + 2 ≡ n + 1 + 1
        one_more n = omega arith

    pub thrown-coded : (mid next new : HeldPlaces ValueRecord) (said coded id : ℕ) (none half error : Contents) → AddsRecord start mid said
        (record { number = made + 1; value = Plain (body.Str message) })
        → HasValue none (λ n. error_of n (Some 0) 0) → ChangesPlace none half (with_property message_text said) → AddsRecord mid next coded (record { number = made + 2; value = Plain (body.Str code) })
        → ChangesPlace half error (with_property code_text coded) → AddsRecord next new id (record { number = made + 3; value = error })
        → GrowsTo (state_of old made) (state_of new (made + 3)) (thrown_of made (Some code) message) id
    thrown-coded mid next new said coded id none half error first has changes second more last =
        let grows = coded-next mid next said coded first second in
        let live = grows.live in
        let P : ℕ → Type 0 = λ n. IsLive (state_of next (made + 2)) n in
        subst (λ vs. GrowsTo (state_of old made) (state_of new (made + 3)) vs id) whole
        (put-last next new (made + 2) (made + 3) id error (error_of (made + 3) (Some coded) said)
        (more (made + 3) ∙ ap (with_property code_text coded) (changes (made + 3) ∙ ap (with_property message_text said) (has (made + 3)))) last (one_more made) (state_of old made)
        (fresh_value (made + 1) (body.Str message) ∷ fresh_value (made + 2) (body.Str code) ∷ []) (said ∷ coded ∷ []) grows (error-names (made + 3) (Some coded) said)
        (All-cons P said (coded ∷ []) (All-head P said (coded ∷ []) live) (All-cons P coded [] (All-head P coded [] (All-tail P said (coded ∷ []) live)) (All-nil P)))
        (error_of (made + 3) (Some (number_in (state_of next (made + 2)) coded)) (number_in (state_of next (made + 2)) said)) refl)
      where
        one_more : (n : ℕ) → n + 3 ≡ n + 2 + 1
        one_more n = omega arith

        two : (n : ℕ) → n + 2 ≡ n + 1 + 1
        two n = omega arith

        whole : fresh_value (made + 1) (body.Str message) ∷ fresh_value (made + 2) (body.Str code) ∷ error_of (made + 3) (Some (number_in (state_of next (made + 2)) coded)) (number_in (state_of next (made + 2)) said) ∷ []
            ≡ thrown_of made (Some code) message
        whole =
            let grows = coded-next mid next said coded first second in
            let said_is : number_in (state_of next (made + 2)) said ≡ made + 1 = first-of (number_in (state_of next (made + 2)) said) (number_in (state_of next (made + 2)) coded ∷ []) (made + 1) ((made + 1 + 1) ∷ []) grows.numbers in
            let coded_is : number_in (state_of next (made + 2)) coded ≡ made + 2 =
            second-of (number_in (state_of next (made + 2)) said) (number_in (state_of next (made + 2)) coded) (made + 1) (made + 1 + 1) grows.numbers ∙ sym (two made) in
            ap (λ n. fresh_value (made + 1) (body.Str message) ∷ fresh_value (made + 2) (body.Str code) ∷ error_of (made + 3) (Some (number_in (state_of next (made + 2)) coded)) n ∷ []) said_is
            ∙ ap (λ n. fresh_value (made + 1) (body.Str message) ∷ fresh_value (made + 2) (body.Str code) ∷ error_of (made + 3) (Some n) (made + 1) ∷ []) coded_is
            ∙ ap (λ n. fresh_value (made + 1) (body.Str message) ∷ fresh_value n (body.Str code) ∷ error_of (made + 3) (Some (made + 2)) (made + 1) ∷ []) (two made)
            ∙ ap (λ n. fresh_value (made + 1) (body.Str message) ∷ fresh_value (made + 1 + 1) (body.Str code) ∷ error_of n (Some (made + 2)) (made + 1) ∷ []) (one_more made)
