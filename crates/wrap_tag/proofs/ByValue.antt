-- What the rows of values stand for, by the numbers of values and of tickets.
use Rattle.std.proofs.Common.{◌≡◌, ◌∙◌, ℕ, ◌==◌, nat_eq, Bool, true, false, not, cond, List, [], ◌∷◌, filter, Option, Some, None, refl, ap, sym}
use Rattle.std.specs.List.{IsDistinct, AllByRecursion, filter_map, cons_option}
use Rattle.std.specs.Map.{keys_of}
use Rattle.std.specs.Option.{option_and_then}
use Rattle.std.proofs.lemmas.Map.Keys.{IsDistinct-head, IsDistinct-tail}
use Rattle.napi_types.specs.plain.Lists.{found, with_record, as_map}
use Rattle.napi_types.proofs.plain.Found.{same-self, found-with_record, found-filter, found-as_map, found-same, rising-with_record, rising-filter, rising-as_map, same-from, equal-tests}
use Rattle.wrap_tag.specs.declared.row.ValueRow.{ValueRow}
use Rattle.wrap_tag.specs.ValueRows.{value_row, PutsRow}

-- a value that has no row in the rest
value_row-absent : (v : ℕ) (es : List (ℕ × ValueRow)) → AllByRecursion (λ w. nat_eq v w ≡ false) (keys_of es) → value_row v es ≡ None
value_row-absent v [] none = refl
value_row-absent v (e ∷ es) none = ap (λ b. cond b (Some e.1) (value_row v es)) none.0 ∙ value_row-absent v es none.1

pub value_row-later : (v : ℕ) (e : ℕ × ValueRow) (es : List (ℕ × ValueRow)) → IsDistinct nat_eq (keys_of (e ∷ es)) → nat_eq v e.0 ≡ true → value_row v es ≡ None
value_row-later v e es distinct is =
    let here : v ≡ e.0 = same-from v e.0 is in
    ap (λ w. value_row w es) here ∙ value_row-absent e.0 es (IsDistinct-head nat_eq e.0 (keys_of es) distinct)

-- WHAT A VALUE HAS ONE OF: its wrap, its tag
module _ {R : Type 0} (number : R → ℕ) (made : ℕ → ValueRow → Option R) where
  abbrev pub listed : List (ℕ × ValueRow) → List R
  listed rows = filter_map (λ e. made e.0 e.1) rows

  -- it is found by its value
  abbrev pub IsByValue : Type 0
  IsByValue = (v : ℕ) (row : ValueRow) (r : R) → made v row ≡ Some r → number r ≡ v

  found-listed : IsByValue → (v : ℕ) (rows : List (ℕ × ValueRow)) → IsDistinct nat_eq (keys_of rows) → found number v (listed rows) ≡ option_and_then (made v) (value_row v rows)
  found-listed by v [] distinct = refl
  found-listed by v (e ∷ es) distinct =
      first (made e.0 e.1) (nat_eq v e.0) refl refl (found-listed by v es (IsDistinct-tail nat_eq e.0 (keys_of es) distinct))
    where
      first : (o : Option R) (b : Bool) → made e.0 e.1 ≡ o → nat_eq v e.0 ≡ b → found number v (listed es) ≡ option_and_then (made v) (value_row v es)
          → found number v (cons_option o (listed es)) ≡ option_and_then (made v) (cond b (Some e.1) (value_row v es))
      first (Some r) true is here rest =
          let value : v ≡ e.0 = same-from v e.0 here in
          let same : (number r == v) ≡ true = equal-tests (number r) v ∙ ap (λ n. nat_eq v n) (by e.0 e.1 r is) ∙ here in
          ap (λ b. cond b (Some r) (found number v (listed es))) same ∙ sym is ∙ ap (λ n. made n e.1) (sym value)
      first (Some r) false is here rest =
          let apart : (number r == v) ≡ false = equal-tests (number r) v ∙ ap (λ n. nat_eq v n) (by e.0 e.1 r is) ∙ here in
          ap (λ b. cond b (Some r) (found number v (listed es))) apart ∙ rest
      first None true is here rest =
          let value : v ≡ e.0 = same-from v e.0 here in
          rest ∙ ap (option_and_then (made v)) (value_row-later v e es distinct here) ∙ sym is ∙ ap (λ n. made n e.1) (sym value)
      first None false is here rest = rest

  pub found-mapped : IsByValue → (v : ℕ) (rows : List (ℕ × ValueRow)) → IsDistinct nat_eq (keys_of rows) → found number v (as_map number (listed rows)) ≡ option_and_then (made v) (value_row v rows)
  found-mapped by v rows distinct = found-as_map number v (listed rows) ∙ found-listed by v rows distinct

  -- a value gets another row
  module _ (by : IsByValue) (v : ℕ) (row : Option ValueRow) (old new : List (ℕ × ValueRow)) (distinct : IsDistinct nat_eq (keys_of old)) (puts : PutsRow v row old new) where
    now : (w : ℕ) → found number w (as_map number (listed new)) ≡ option_and_then (made w) (cond (nat_eq v w) row (value_row w old))
    now w = found-mapped by w new puts.values ∙ ap (option_and_then (made w)) (puts.rows w)

    before : (w : ℕ) → found number w (as_map number (listed old)) ≡ option_and_then (made w) (value_row w old)
    before w = found-mapped by w old distinct

    -- that has one
    pub mapped-with : (r : R) → option_and_then (made v) row ≡ Some r → as_map number (listed new) ≡ with_record number r (as_map number (listed old))
    mapped-with r is =
        found-same number _ _ (rising-as_map number (listed new)) (rising-with_record number r (as_map number (listed old)) (rising-as_map number (listed old)))
        (λ w. now w ∙ each w (nat_eq v w) refl ∙ sym (found-with_record number w r (as_map number (listed old))))
      where
        numbered : (o : Option ValueRow) → option_and_then (made v) o ≡ Some r → number r ≡ v
        numbered None is = let no : ⊥ = cc in absurd no
        numbered (Some x) is = by v x r is

        each : (w : ℕ) (b : Bool) → nat_eq v w ≡ b → option_and_then (made w) (cond b row (value_row w old)) ≡ cond (number r == w) (Some r) (found number w (as_map number (listed old)))
        each w true here =
            let value : v ≡ w = same-from v w here in
            ap (λ n. option_and_then (made n) row) (sym value) ∙ is ∙ sym (ap (λ c. cond c (Some r) (found number w (as_map number (listed old)))) (ap (λ n. n == w) (numbered row is ∙ value) ∙ same-self w))
        each w false apart =
            sym (before w) ∙ sym (ap (λ c. cond c (Some r) (found number w (as_map number (listed old)))) (ap (λ n. n == w) (numbered row is) ∙ apart))

    -- that has the same one
    pub mapped-same : option_and_then (made v) row ≡ option_and_then (made v) (value_row v old) → as_map number (listed new) ≡ as_map number (listed old)
    mapped-same is =
        found-same number _ _ (rising-as_map number (listed new)) (rising-as_map number (listed old)) (λ w. now w ∙ each w (nat_eq v w) refl ∙ sym (before w))
      where
        each : (w : ℕ) (b : Bool) → nat_eq v w ≡ b → option_and_then (made w) (cond b row (value_row w old)) ≡ option_and_then (made w) (value_row w old)
        each w true here =
            let value : v ≡ w = same-from v w here in
            ap (λ n. option_and_then (made n) row) (sym value) ∙ is ∙ ap (λ n. option_and_then (made n) (value_row n old)) value
        each w false apart = refl

    -- that has none
    pub mapped-without : option_and_then (made v) row ≡ None → as_map number (listed new) ≡ filter (λ r. not (number r == v)) (as_map number (listed old))
    mapped-without is =
        found-same number _ _ (rising-as_map number (listed new)) (rising-filter number (λ r. not (number r == v)) (as_map number (listed old)) (rising-as_map number (listed old)))
        (λ w. now w ∙ each w (nat_eq v w) refl ∙ sym (found-filter number (λ n. not (n == v)) w (as_map number (listed old))))
      where
        each : (w : ℕ) (b : Bool) → nat_eq v w ≡ b → option_and_then (made w) (cond b row (value_row w old)) ≡ cond (not (w == v)) (found number w (as_map number (listed old))) None
        each w true here =
            let value : v ≡ w = same-from v w here in
            ap (λ n. option_and_then (made n) row) (sym value) ∙ is ∙ sym (ap (λ c. cond (not c) (found number w (as_map number (listed old))) None) (equal-tests w v ∙ here))
        each w false apart =
            sym (before w) ∙ sym (ap (λ c. cond (not c) (found number w (as_map number (listed old))) None) (equal-tests w v ∙ apart))
