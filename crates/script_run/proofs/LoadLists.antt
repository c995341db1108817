-- Lists of operations that grow by the operations of a number.
use Rattle.std.proofs.Common.{◌≡◌, ℕ, ◌+◌, List, [], ◌∷◌, ◌++◌, append_assoc, map, ap, sym, ◌∙◌, arith}
use Rattle.std.proofs.lemmas.List.{append-nil, map-id}
use Rattle.std.proofs.lemmas.List.FromFn.{map-range_with_len_more}
use Rattle.std.proofs.lemmas.List.Concat.{flat_map-append}
use Rattle.std.specs.List.{flat_map, range_with_len}

-- the numbers below the next one
range-more : (n : ℕ) → range_with_len 0 (n + 1) ≡ range_with_len 0 n ++ n ∷ []
range-more n =
    let e : 0 + n ≡ n = omega arith in
    sym (map-id (range_with_len 0 (n + 1))) ∙ map-range_with_len_more (λ m. m) 0 n n e ∙ ap (λ ns. ns ++ n ∷ []) (map-id (range_with_len 0 n))

module _ {X : Type 0} where
  -- one element more, that of the next number
  pub one-more : (f : ℕ → X) (n : ℕ) (first items now : List X) (x : X) → items ≡ first ++ map f (range_with_len 0 n) → x ≡ f n →
      now ≡ items ++ x ∷ [] → now ≡ first ++ map f (range_with_len 0 (n + 1))
  one-more f n first items now x before is grown =
      let e : 0 + n ≡ n = omega arith in
      grown ∙ ap (λ y. items ++ y ∷ []) is ∙ ap (λ l. l ++ f n ∷ []) before ∙ append_assoc first (map f (range_with_len 0 n)) (f n ∷ []) ∙
      ap (λ l. first ++ l) (sym (map-range_with_len_more f 0 n n e))

  -- two elements more, those of the next number
  pub two-more : (f : ℕ → List X) (n : ℕ) (first items then now : List X) (x y : X) → items ≡ first ++ flat_map f (range_with_len 0 n) →
      x ∷ y ∷ [] ≡ f n → then ≡ items ++ x ∷ [] → now ≡ then ++ y ∷ [] → now ≡ first ++ flat_map f (range_with_len 0 (n + 1))
  two-more f n first items then now x y before are one two =
      let last : flat_map f (n ∷ []) ≡ x ∷ y ∷ [] = append-nil (f n) ∙ sym are in
      let more : flat_map f (range_with_len 0 (n + 1)) ≡ flat_map f (range_with_len 0 n) ++ x ∷ y ∷ [] =
      ap (flat_map f) (range-more n) ∙ flat_map-append f (range_with_len 0 n) (n ∷ []) ∙ ap (λ l. flat_map f (range_with_len 0 n) ++ l) last in
      two ∙ ap (λ l. l ++ y ∷ []) one ∙ append_assoc items (x ∷ []) (y ∷ []) ∙ ap (λ l. l ++ x ∷ y ∷ []) before ∙
      append_assoc first (flat_map f (range_with_len 0 n)) (x ∷ y ∷ []) ∙ ap (λ l. first ++ l) (sym more)
