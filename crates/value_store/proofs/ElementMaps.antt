-- Laws on the map from indices to values as a list of elements, and on the values that a value's maps have.
use Rattle.std.proofs.Common.{◌≡◌, ◌≢◌, ℕ, zero, suc, ◌+◌, ◌-◌, ◌<◌, ◌≤◌, ◌==◌, ◌||◌, max, nat_eq, Bool, true, false, cond, List, [], ◌∷◌, ◌++◌, map, length, get_or, set, replicate, Option, Some, None, IsSome, option_map, inl, inr, refl, ap, sym, subst, ◌∙◌, arith, append-nil, length-append, length-set, get_or-set_same, get_or-set_other, ext_get_or}
use Rattle.std.specs.List.{IsDistinct, AllByRecursion, range_with_len, filter_map}
use Rattle.std.specs.Map.{keys_of, lookup}
use Rattle.std.proofs.lemmas.Bool.{cases_lt, eq-eqb}
use Rattle.std.proofs.lemmas.List.{get_or_past, length-replicate, set-append_right}
use Rattle.std.proofs.lemmas.List.Folds.{list_any-append}
use Rattle.std.proofs.lemmas.List.FromFn.{get_or-map-range_with_len, length-map-range_with_len, map-range_with_len_more}
use Rattle.std.proofs.lemmas.Map.Keys.{IsDistinct-head, IsDistinct-tail}
use borrow.Author.Tests.{eqb-true}
use Rattle.napi_types.specs.declared.ids.ValueId.{ValueId}
use Rattle.napi_types.specs.plain.Lists.{has_number, HaveSameNumbers}
use Rattle.napi_types.specs.parts.NewValues.{array_of}
use Rattle.napi_types.specs.parts.Properties.{element_at, element_set}
use Rattle.napi_types.specs.parts.Values.{with_element}
use Rattle.napi_types.proofs.plain.Found.{turned}
use Rattle.value_store.specs.PropertyMaps.{listed_elements, element_of, numbers_in}
use Rattle.value_store.proofs.Lookup.{other-number}

-- each index is below the count
abbrev IsWithin : List (ℕ × ValueId) → ℕ → Type 0
IsWithin es count = (at : ℕ) → IsSome (lookup (nat_eq at) es) → at < count

-- a list that is filled with holes up to an index
abbrev filled : ℕ → List (Option ℕ) → List (Option ℕ)
filled at l = l ++ replicate (at + 1 - length l) None

-- WHAT THE MAP HAS AT AN INDEX
past : (es : List (ℕ × ValueId)) (count at : ℕ) → IsWithin es count → count ≤ at → lookup (nat_eq at) es ≡ None
past es count at within above = by (lookup (nat_eq at) es) refl
  where
    by : (o : Option ValueId) → lookup (nat_eq at) es ≡ o → lookup (nat_eq at) es ≡ None
    by None is = is
    by (Some v) is = let less : at < count = within at (subst (λ (o : Option ValueId). IsSome o) (sym is) refl) in absurd (omega arith)

-- the element of an index is what the map has there
pub element_at-listed : (es : List (ℕ × ValueId)) (count at : ℕ) → IsWithin es count → element_at at (listed_elements es count) ≡ element_of es at
element_at-listed es count at within =
    elim (cases_lt at count) [
      | inl less ↦ get_or-map-range_with_len (element_of es) 0 count at at None less (omega arith)
      | inr above ↦
          get_or_past (listed_elements es count) at None (omega (arith, above, length-map-range_with_len (element_of es) 0 count))
          ∙ sym (ap (option_map (λ (v : ValueId). v.0)) (past es count at within above))
    ]

padded : (l : List (Option ℕ)) (n i : ℕ) → get_or (l ++ replicate n None) i None ≡ get_or l i None
padded [] zero i = refl
padded [] (suc n) zero = refl
padded [] (suc n) (suc i) = padded [] n i
padded (x ∷ l) n zero = refl
padded (x ∷ l) n (suc i) = padded l n i

length-filled : (at : ℕ) (l : List (Option ℕ)) → length (filled at l) ≡ max (length l) (at + 1)
length-filled at l = length-append l (replicate (at + 1 - length l) None) ∙ ap (λ n. length l + n) (length-replicate (at + 1 - length l) None) ∙ longer (length l) at
  where
    longer : (n at : ℕ) → n + (at + 1 - n) ≡ max n (at + 1)
    longer n at = omega arith

-- AN ELEMENT THAT IS SET
-- where the map has one value more or another one, an element is set
pub listed_elements-set : (es fs : List (ℕ × ValueId)) (count at : ℕ) (to : ValueId) → IsWithin es count → ((q : ℕ) → lookup (nat_eq q) fs ≡ cond (nat_eq at q) (Some to) (lookup (nat_eq q) es))
    → listed_elements fs (max count (at + 1)) ≡ element_set at to.0 (listed_elements es count)
listed_elements-set es fs count at to within updates =
    ext_get_or None (listed_elements fs (max count (at + 1))) (element_set at to.0 (listed_elements es count)) same_length each
  where
    many : length (filled at (listed_elements es count)) ≡ max count (at + 1)
    many = length-filled at (listed_elements es count) ∙ ap (λ n. max n (at + 1)) (length-map-range_with_len (element_of es) 0 count)

    same_length : length (listed_elements fs (max count (at + 1))) ≡ length (element_set at to.0 (listed_elements es count))
    same_length = length-map-range_with_len (element_of fs) 0 (max count (at + 1)) ∙ sym many ∙ sym (length-set (filled at (listed_elements es count)) at (Some to.0))

    by : (i : ℕ) (b : Bool) → nat_eq at i ≡ b → option_map (λ (v : ValueId). v.0) (cond b (Some to) (lookup (nat_eq i) es)) ≡ get_or (set (filled at (listed_elements es count)) at (Some to.0)) i None
    by i true e =
        let here : at ≡ i = eqb-true at i e in
        let less : at < length (filled at (listed_elements es count)) = omega (arith, many) in
        subst (λ (n : ℕ). Some to.0 ≡ get_or (set (filled at (listed_elements es count)) at (Some to.0)) n None) here (sym (get_or-set_same (filled at (listed_elements es count)) at (Some to.0) None less))
    by i false e =
        let apart : i ≢ at = λ same. other-number at i e (sym same) in
        sym (get_or-set_other (filled at (listed_elements es count)) at i (Some to.0) None apart ∙ padded (listed_elements es count) (at + 1 - length (listed_elements es count)) i ∙ element_at-listed es count i within)

    each : (i : ℕ) → i < length (listed_elements fs (max count (at + 1))) → get_or (listed_elements fs (max count (at + 1))) i None ≡ get_or (element_set at to.0 (listed_elements es count)) i None
    each i less =
        let short : i < max count (at + 1) = omega (arith, less, length-map-range_with_len (element_of fs) 0 (max count (at + 1))) in
        get_or-map-range_with_len (element_of fs) 0 (max count (at + 1)) i i None short (omega arith)
        ∙ ap (option_map (λ (v : ValueId). v.0)) (updates i)
        ∙ by i (nat_eq at i) refl

-- and each index is below the new count
pub within-set : (es fs : List (ℕ × ValueId)) (count at : ℕ) (to : ValueId) → IsWithin es count → ((q : ℕ) → lookup (nat_eq q) fs ≡ cond (nat_eq at q) (Some to) (lookup (nat_eq q) es)) → IsWithin fs (max count (at + 1))
within-set es fs count at to within updates q some = by (nat_eq at q) refl (subst (λ (o : Option ValueId). IsSome o) (updates q) some)
  where
    by : (b : Bool) → nat_eq at q ≡ b → IsSome (cond b (Some to) (lookup (nat_eq q) es)) → q < max count (at + 1)
    by true e there = let here : at ≡ q = eqb-true at q e in omega arith
    by false e there = let less : q < count = within q there in omega arith

-- the element after the last is set at the end
pub element_set-next : (at to : ℕ) (l : List (Option ℕ)) → length l ≡ at → element_set at to l ≡ l ++ Some to ∷ []
element_set-next at to l is =
    let one : at + 1 - length l ≡ 1 = omega arith in
    ap (λ n. set (l ++ replicate n None) at (Some to)) one
    ∙ set-append_right l (None ∷ []) at at (Some to) is (omega arith)
    ∙ ap (λ n. l ++ set (None ∷ []) n (Some to)) (none at)
  where
    none : (n : ℕ) → n - n ≡ 0
    none n = omega arith

-- an array of numbers that count up, with the next one
pub array-next : (number first at : ℕ) → with_element at (first + at) (array_of number (range_with_len first at)) ≡ array_of number (range_with_len first (at + 1))
array-next number first at =
    ap (λ l. record (array_of number []) { elements = l })
    (element_set-next at (first + at) (map Some (range_with_len first at)) (length-map-range_with_len Some first at) ∙ sym (map-range_with_len_more Some first at (first + at) refl))

-- CHILDREN
-- a hole that is set names one number more
has-set : (l : List (Option ℕ)) (i v n : ℕ) → i < length l → get_or l i None ≡ None → has_number n (filter_map (λ e. e) (set l i (Some v))) ≡ ((v == n) || has_number n (filter_map (λ e. e) l))
has-set [] i v n less hole = absurd (omega arith)
has-set (None ∷ l) zero v n less hole = refl
has-set (Some x ∷ l) zero v n less hole = let no : ⊥ = cc in absurd no
has-set (None ∷ l) (suc i) v n less hole = has-set l i v n (omega arith) hole
has-set (Some x ∷ l) (suc i) v n less hole = ap (λ b. (x == n) || b) (has-set l i v n (omega arith) hole) ∙ turn (x == n) (v == n) (has_number n (filter_map (λ e. e) l))
  where
    turn : (a b c : Bool) → (a || (b || c)) ≡ (b || (a || c))
    turn true true c = refl
    turn true false c = refl
    turn false true c = refl
    turn false false c = refl

-- and one more
set-many : (l : List (Option ℕ)) (i v : ℕ) → i < length l → get_or l i None ≡ None → length (filter_map (λ e. e) (set l i (Some v))) ≡ length (filter_map (λ e. e) l) + 1
set-many [] i v less hole = absurd (omega arith)
set-many (None ∷ l) zero v less hole = omega arith
set-many (Some x ∷ l) zero v less hole = let no : ⊥ = cc in absurd no
set-many (None ∷ l) (suc i) v less hole = set-many l i v (omega arith) hole
set-many (Some x ∷ l) (suc i) v less hole = let rest : length (filter_map (λ (e : Option ℕ). e) (set l i (Some v))) ≡ length (filter_map (λ (e : Option ℕ). e) l) + 1 = set-many l i v (omega arith) hole in omega (arith, rest)

absent : (k : ℕ) (es : List (ℕ × ValueId)) → AllByRecursion (λ y. nat_eq k y ≡ false) (keys_of es) → lookup (nat_eq k) es ≡ None
absent k [] h = refl
absent k (e ∷ es) h = ap (λ b. cond b (Some e.1) (lookup (nat_eq k) es)) h.0 ∙ absent k es h.1

-- the elements with an entry more: one hole more is set
record IsEntered (e : ℕ × ValueId) (es : List (ℕ × ValueId)) (count : ℕ) : Type 0 where
  pub before : IsWithin es count
  pub less : e.0 < length (listed_elements es count)
  pub hole : get_or (listed_elements es count) e.0 None ≡ None
  pub now : listed_elements (e ∷ es) count ≡ set (listed_elements es count) e.0 (Some e.1.0)

entered : (e : ℕ × ValueId) (es : List (ℕ × ValueId)) (count : ℕ) → IsDistinct nat_eq (keys_of (e ∷ es)) → IsWithin (e ∷ es) count → IsEntered e es count
entered e es count distinct within =
    let before : IsWithin es count = λ q some. within q (either (nat_eq q e.0) (lookup (nat_eq q) es) some) in
    let here : e.0 < count = within e.0 (subst (λ (b : Bool). IsSome (cond b (Some e.1) (lookup (nat_eq e.0) es))) (sym (eq-eqb e.0 e.0 refl)) refl) in
    let count_is : max count (e.0 + 1) ≡ count = omega arith in
    let many : length (listed_elements es count) ≡ count = length-map-range_with_len (element_of es) 0 count in
    let none : e.0 + 1 - length (listed_elements es count) ≡ 0 = omega arith in
    record {
      before = before;
      less = omega arith;
      hole = element_at-listed es count e.0 before ∙ ap (option_map (λ (v : ValueId). v.0)) (absent e.0 es (IsDistinct-head nat_eq e.0 (keys_of es) distinct));
      now = ap (listed_elements (e ∷ es)) (sym count_is)
          ∙ listed_elements-set es (e ∷ es) count e.0 e.1 before (λ q. ap (λ b. cond b (Some e.1) (lookup (nat_eq q) es)) (turned q e.0))
          ∙ ap (λ k. set (listed_elements es count ++ replicate k None) e.0 (Some e.1.0)) none
          ∙ ap (λ l. set l e.0 (Some e.1.0)) (append-nil (listed_elements es count));
    }
  where
    either : (b : Bool) (o : Option ValueId) → IsSome o → IsSome (cond b (Some e.1) o)
    either true o some = refl
    either false o some = some

no-elements : (places : List ℕ) → filter_map (λ (e : Option ℕ). e) (map (element_of []) places) ≡ []
no-elements [] = refl
no-elements (place ∷ places) = no-elements places

-- what the map has is what the elements name
pub children-listed : (es : List (ℕ × ValueId)) (count : ℕ) → IsDistinct nat_eq (keys_of es) → IsWithin es count → HaveSameNumbers (numbers_in es) (filter_map (λ e. e) (listed_elements es count))
children-listed [] count distinct within n = sym (ap (has_number n) (no-elements (range_with_len 0 count)))
children-listed (e ∷ es) count distinct within n =
    let more : IsEntered e es count = entered e es count distinct within in
    ap (λ b. (e.1.0 == n) || b) (children-listed es count (IsDistinct-tail nat_eq e.0 (keys_of es) distinct) more.before n)
    ∙ sym (has-set (listed_elements es count) e.0 e.1.0 n more.less more.hole)
    ∙ sym (ap (λ l. has_number n (filter_map (λ (o : Option ℕ). o) l)) more.now)

-- and has as many
pub many-listed : (es : List (ℕ × ValueId)) (count : ℕ) → IsDistinct nat_eq (keys_of es) → IsWithin es count → length es ≡ length (filter_map (λ e. e) (listed_elements es count))
many-listed [] count distinct within = sym (ap length (no-elements (range_with_len 0 count)))
many-listed (e ∷ es) count distinct within =
    let more : IsEntered e es count = entered e es count distinct within in
    let rest : length es ≡ length (filter_map (λ (o : Option ℕ). o) (listed_elements es count)) = many-listed es count (IsDistinct-tail nat_eq e.0 (keys_of es) distinct) more.before in
    let one : length (filter_map (λ (o : Option ℕ). o) (set (listed_elements es count) e.0 (Some e.1.0))) ≡ length (filter_map (λ (o : Option ℕ). o) (listed_elements es count)) + 1 =
    set-many (listed_elements es count) e.0 e.1.0 more.less more.hole in
    omega (arith, rest, one) ∙ sym (ap (λ l. length (filter_map (λ (o : Option ℕ). o) l)) more.now)

-- and so beside the values of the properties
pub children-parts : (vs : List ℕ) (fs : List (ℕ × ValueId)) (es : List (Option ℕ)) → HaveSameNumbers (numbers_in fs) (filter_map (λ e. e) es) → HaveSameNumbers (vs ++ numbers_in fs) (vs ++ filter_map (λ e. e) es)
children-parts vs fs es same n =
    list_any-append (λ m. m == n) vs (numbers_in fs)
    ∙ ap (λ b. has_number n vs || b) (same n)
    ∙ sym (list_any-append (λ m. m == n) vs (filter_map (λ (e : Option ℕ). e) es))
