-- The values at places that are not marked, and how many they are.
use Rattle.std.proofs.Common.{◌≡◌, ◌≢◌, ℕ, zero, suc, ◌+◌, ◌-◌, ◌<◌, ◌≤◌, ◌⊎◌, inl, inr, Bool, true, false, List, [], ◌∷◌, ◌++◌, length, map, not, is_some, set, Option, Some, None, option_map, slice_index_or, if◌then◌else◌, refl, ap, sym, subst, ◌∙◌, arith, add-one}
use Rattle.std.specs.List.{filter_map, range_with_len, cons_option}
use Rattle.std.specs.Option.{option_to_list}
use Rattle.std.proofs.lemmas.Bool.{cases_eq, cases_lt}
use Rattle.std.proofs.lemmas.List.{map-append, length-set, get_or-map, get_or_past, get_or-set_same, get_or-set_other}
use Rattle.std.proofs.lemmas.List.Elements.{filter_map-append}
use Rattle.napi_types.specs.declared.ids.ValueId.{ValueId}
use Rattle.napi_types.specs.parts.Graph.{Stored, StoreState, live}
use Rattle.value_store.specs.StoreChanges.{id_at, numbers_of}
use Rattle.mark_bits.specs.PlaceMarks.{is_marked}
use Rattle.trace_collect.specs.MarkedValues.{unmarked_ids, unmarked_count, NoneIsMarked}

range-more : (from many : ℕ) → range_with_len from (many + 1) ≡ range_with_len from many ++ (from + many) ∷ []
range-more from zero = by from
  where
    by : (from : ℕ) → from ∷ [] ≡ (from + 0) ∷ []
    by from = let e : from + 0 ≡ from = omega arith in rw e refl
range-more from (suc many) = by from many (range-more (from + 1) many)
  where
    by : (from many : ℕ) → range_with_len (from + 1) (many + 1) ≡ range_with_len (from + 1) many ++ (from + 1 + many) ∷ [] → range_with_len from (suc many + 1) ≡ (from ∷ range_with_len (from + 1) many) ++ (from + suc many) ∷ []
    by from many rest =
        let one : suc many + 1 ≡ suc (many + 1) = omega arith in
        let two : from + suc many ≡ from + 1 + many = omega arith in
        rw (one, two) (ap (λ l. from ∷ l) rest)

-- what stands at a place that is not marked
abbrev pub unmarked_at : StoreState → List Bool → ℕ → Option ℕ
unmarked_at s marks place = if is_marked marks place then None else id_at s place

-- one place more
pub unmarked-more : (s : StoreState) (marks : List Bool) (place : ℕ) → unmarked_ids s marks (place + 1) ≡ unmarked_ids s marks place ++ option_to_list (unmarked_at s marks place)
unmarked-more s marks place =
    ap (filter_map (unmarked_at s marks)) (range-more 0 place)
    ∙ filter_map-append (unmarked_at s marks) (range_with_len 0 place) ((0 + place) ∷ [])
    ∙ ap (λ l. unmarked_ids s marks place ++ l) (one (unmarked_at s marks (0 + place)) ∙ ap (λ n. option_to_list (unmarked_at s marks n)) (none-more place))
  where
    one : (o : Option ℕ) → cons_option o [] ≡ option_to_list o
    one None = refl
    one (Some n) = refl

    none-more : (n : ℕ) → 0 + n ≡ n
    none-more n = omega arith

-- a value that stands at such a place goes last
pub unmarked-next : (s : StoreState) (marks : List Bool) (place : ℕ) (old new : List ValueId) (id : Option ValueId) → is_marked marks place ≡ false → option_map (λ v. v.0) id ≡ id_at s place
    → new ≡ old ++ option_to_list id → numbers_of old ≡ unmarked_ids s marks place → numbers_of new ≡ unmarked_ids s marks (place + 1)
unmarked-next s marks place old new id free at is before =
    ap numbers_of is ∙ map-append (λ (v : ValueId). v.0) old (option_to_list id) ∙ ap (λ l. l ++ numbers_of (option_to_list id)) before
    ∙ ap (λ l. unmarked_ids s marks place ++ l) (listed id ∙ ap option_to_list (at ∙ sym (ap (λ b. if b then None else id_at s place) free)))
    ∙ sym (unmarked-more s marks place)
  where
    listed : (o : Option ValueId) → numbers_of (option_to_list o) ≡ option_to_list (option_map (λ v. v.0) o)
    listed None = refl
    listed (Some v) = refl

pub unmarked-same : (s : StoreState) (marks : List Bool) (place : ℕ) → is_marked marks place ≡ true → unmarked_ids s marks (place + 1) ≡ unmarked_ids s marks place
unmarked-same s marks place marked =
    unmarked-more s marks place ∙ ap (λ o. unmarked_ids s marks place ++ option_to_list o) (ap (λ b. if b then None else id_at s place) marked) ∙ nothing (unmarked_ids s marks place)
  where
    nothing : (l : List ℕ) → l ++ [] ≡ l
    nothing [] = refl
    nothing (n ∷ l) = ap (λ m. n ∷ m) (nothing l)

-- places that are marked add nothing
pub unmarked-over : (s : StoreState) (marks : List Bool) (from to : ℕ) → from ≤ to → ((place : ℕ) → from ≤ place → place < to → is_marked marks place ≡ true) → unmarked_ids s marks to ≡ unmarked_ids s marks from
unmarked-over s marks from to low all =
    let end : from + (to - from) ≡ to = omega arith in
    subst (λ n. unmarked_ids s marks n ≡ unmarked_ids s marks from) end (by (to - from) (λ place above below. all place above (omega arith)))
  where
    by : (many : ℕ) → ((place : ℕ) → from ≤ place → place < from + many → is_marked marks place ≡ true) → unmarked_ids s marks (from + many) ≡ unmarked_ids s marks from
    by zero all = let e : from + 0 ≡ from = omega arith in ap (unmarked_ids s marks) e
    by (suc many) all =
        let e : from + suc many ≡ from + many + 1 = omega arith in
        ap (unmarked_ids s marks) e ∙ unmarked-same s marks (from + many) (all (from + many) (omega arith) (omega arith)) ∙ by many (λ place above below. all place above (omega arith))

-- COUNTED
-- from a number on two functions agree
agree-range : (f g : ℕ → Option ℕ) (from many : ℕ) → ((q : ℕ) → from ≤ q → f q ≡ g q) → filter_map f (range_with_len from many) ≡ filter_map g (range_with_len from many)
agree-range f g from zero same = refl
agree-range f g from (suc many) same =
    ap (λ o. cons_option o (filter_map f (range_with_len (from + 1) many))) (same from (omega arith))
    ∙ ap (cons_option (g from)) (agree-range f g (from + 1) many (λ q low. same q (omega arith)))

-- they agree but at one place, where only the first gives a number
one-fewer : (f g : ℕ → Option ℕ) (place id : ℕ) → f place ≡ Some id → g place ≡ None → ((q : ℕ) → q ≢ place → f q ≡ g q) → (from many : ℕ) → from ≤ place → place < from + many
    → length (filter_map g (range_with_len from many)) + 1 ≡ length (filter_map f (range_with_len from many))
one-fewer f g place id is none same from zero low high = absurd (omega arith)
one-fewer f g place id is none same from (suc many) low high = by (λ above. one-fewer f g place id is none same (from + 1) many above (omega arith)) (cases_eq from place)
  where
    rest-f : List ℕ
    rest-f = filter_map f (range_with_len (from + 1) many)

    rest-g : List ℕ
    rest-g = filter_map g (range_with_len (from + 1) many)

    other : (o : Option ℕ) → length rest-g + 1 ≡ length rest-f → length (cons_option o rest-g) + 1 ≡ length (cons_option o rest-f)
    other None h = h
    other (Some n) h = omega (arith, h)

    by : (from + 1 ≤ place → length rest-g + 1 ≡ length rest-f) → (from ≡ place) ⊎ (from ≡ place → ⊥) → length (cons_option (g from) rest-g) + 1 ≡ length (cons_option (f from) rest-f)
    by later (inl here) =
        let rest : rest-f ≡ rest-g = agree-range f g (from + 1) many (λ q low. same q (λ e. absurd (omega arith))) in
        let first : length (cons_option (f from) rest-f) ≡ suc (length rest-f) = ap (λ o. length (cons_option o rest-f)) (ap f here ∙ is) in
        let last : length rest-f + 1 ≡ suc (length rest-f) = omega arith in
        ap (λ o. length (cons_option o rest-g) + 1) (ap g here ∙ none) ∙ ap (λ l. length l + 1) (sym rest) ∙ last ∙ sym first
    by later (inr apart) = ap (λ o. length (cons_option o rest-g) + 1) (sym (same from apart)) ∙ other (f from) (later (omega arith))

-- a mark at the place of a value takes it away
pub unmarked-set : (s : StoreState) (marks : List Bool) (place id : ℕ) → place < length marks → is_marked marks place ≡ false → id_at s place ≡ Some id → unmarked_count s (set marks place true) + 1 ≡ unmarked_count s marks
unmarked-set s marks place id less free at =
    ap (λ many. length (unmarked_ids s (set marks place true) many) + 1) (length-set marks place true)
    ∙ one-fewer (unmarked_at s marks) (unmarked_at s (set marks place true)) place id
    (ap (λ b. if b then None else id_at s place) free ∙ at) (ap (λ b. if b then None else id_at s place) (get_or-set_same marks place true false less))
    (λ q apart. ap (λ b. if b then None else id_at s q) (sym (get_or-set_other marks place q true false apart))) 0 (length marks) (omega arith) (omega arith)

-- LIVE
-- the number of the value at one of these places
abbrev id_among : List (Option Stored) → ℕ → Option ℕ
id_among ps place = option_map (λ x. x.id) (slice_index_or ps place None)

-- the same numbers, one place later
shifted : (f g : ℕ → Option ℕ) → ((q : ℕ) → f (q + 1) ≡ g q) → (from next many : ℕ) → from + 1 ≡ next → filter_map f (range_with_len next many) ≡ filter_map g (range_with_len from many)
shifted f g same from next zero e = refl
shifted f g same from next (suc many) e =
    ap (λ o. cons_option o (filter_map f (range_with_len (next + 1) many))) (ap f (sym e) ∙ same from)
    ∙ ap (cons_option (g from)) (shifted f g same (from + 1) (next + 1) many (omega arith))

-- each value that stands at a place is found there
all-standing : (ps : List (Option Stored)) → length (filter_map (id_among ps) (range_with_len 0 (length ps))) ≡ length (filter_map (λ place. place) ps)
all-standing [] = refl
all-standing (x ∷ ps) =
    ap (λ l. length (cons_option (option_map (λ (s : Stored). s.id) x) l)) (shifted (id_among (x ∷ ps)) (id_among ps) later 0 1 (length ps) refl) ∙ by x (all-standing ps)
  where
    later : (q : ℕ) → id_among (x ∷ ps) (q + 1) ≡ id_among ps q
    later q = rw add-one refl

    by : (o : Option Stored) → length (filter_map (id_among ps) (range_with_len 0 (length ps))) ≡ length (filter_map (λ place. place) ps)
        → length (cons_option (option_map (λ (s : Stored). s.id) o) (filter_map (id_among ps) (range_with_len 0 (length ps)))) ≡ length (cons_option o (filter_map (λ place. place) ps))
    by None h = h
    by (Some y) h = omega (arith, h)

-- where no value is marked, all live values are counted
pub unmarked-none : (s : StoreState) (marks : List Bool) → length marks ≡ length s.places → NoneIsMarked s marks → unmarked_count s marks ≡ length (live s)
unmarked-none s marks size none =
    ap (λ many. length (unmarked_ids s marks many)) size
    ∙ ap length (agree-range (unmarked_at s marks) (id_at s) 0 (length s.places) (λ q low. by q (is_marked marks q) refl))
    ∙ all-standing s.places
  where
    by : (q : ℕ) (b : Bool) → is_marked marks q ≡ b → (if b then None else id_at s q) ≡ id_at s q
    by q true marked = sym (none q marked)
    by q false free = refl

-- of the marks that are set where no value stands, none is a value's
pub vacant-unmarked : (s : StoreState) (marks : List Bool) → marks ≡ map (λ place. not (is_some place)) s.places → NoneIsMarked s marks
vacant-unmarked s marks is = λ place marked. by place (cases_lt place (length s.places)) marked
  where
    none : (o : Option Stored) → not (is_some o) ≡ true → option_map (λ (x : Stored). x.id) o ≡ None
    none None h = refl
    none (Some x) h = cc

    by : (place : ℕ) → (place < length s.places) ⊎ (length s.places ≤ place) → is_marked marks place ≡ true → id_at s place ≡ None
    by place (inl within) marked =
        none (slice_index_or s.places place None)
        (sym (ap (λ l. is_marked l place) is ∙ get_or-map (λ place. not (is_some place)) s.places place None false within) ∙ marked)
    by place (inr past) marked = ap (option_map (λ (x : Stored). x.id)) (get_or_past s.places place None past)
