-- What changes of the roots of thread-safe functions.
use Rattle.std.proofs.Common.{◌≡◌, ◌∙◌, ℕ, zero, suc, ◌+◌, ◌<◌, ◌==◌, ◌&&◌, Bool, true, false, not, cond, List, [], ◌∷◌, ◌++◌, length, map, filter, slice_index_or, Ok, Err, inl, inr, refl, ap, sym, subst, arith, eq-eqb}
use Rattle.std.proofs.Math.ListN.{set, length-set}
use Rattle.std.specs.List.{All}
use Rattle.std.specs.List.Sorted.{IsSearchInRange, IsBinarySearchResult}
use Rattle.std.specs.Ordering.{nat_cmp}
use Rattle.std.proofs.lemmas.Bool.{cases_lt}
use Rattle.std.proofs.lemmas.List.{get_or_default, length-append, length-map, map-append}
use Rattle.std.proofs.lemmas.List.Elements.{All-nil, All-cons, All-head, All-tail, All-weaker, filter-append}
use Rattle.napi_types.specs.plain.Lists.{singleton, as_map}
use Rattle.napi_types.specs.parts.Graph.{StoreState, IsLive, number_in}
use Rattle.napi_types.specs.environment.Environment.{TsfnRoot}
use Rattle.napi_types.proofs.plain.Found.{IsRising, same-tells, apart-below, apart-above, passing, map-rising, rising-map, rising-changed, as_map-with_record, as_map-kept}
use Rattle.napi_types.proofs.plain.Maps.{filter_all, map-filter, with_record-last}
use Rattle.handle_scope.specs.Marks.{Rises}
use Rattle.handle_scope.proofs.HandleNumbers.{search-found, search-lacks}
use Rattle.env_values.specs.SeenValues.{KeepsValues}
use Rattle.env_core.specs.declared.tsfn_roots.RootRow.{RootRow}
use Rattle.env_core.specs.TsfnRooting.{root_of_row, kept_roots, is_of_another, AreRising, IsKeptAt, AreRootRows, root_seen, tsfn_roots_seen, RootsAreLive}

abbrev pub row_number : RootRow → ℕ
row_number r = r.function.0

abbrev pub is_row_kept : RootRow → Bool
is_row_kept r = r.kept

-- the roots that are not of the function are all
abbrev pub AreOfOthers : ℕ → List TsfnRoot → Type 0
AreOfOthers n roots = All (λ r. is_of_another n r ≡ true) roots

-- NUMBERS THAT RISE
-- where the last is below a number, so are all
above-all : (n : ℕ) (rows : List RootRow) (k : ℕ) (d : RootRow)
    → IsRising row_number rows → k + 1 ≡ length rows → row_number (slice_index_or rows k d) < n → All (λ r. r.function.0 < n) rows
above-all n [] k d rises last below = absurd (omega (arith, last))
above-all n (r ∷ []) zero d rises last below =
    let P : RootRow → Type 0 = λ q. q.function.0 < n in
    All-cons P r [] below (All-nil P)
above-all n (r ∷ []) (suc k) d rises last below = absurd (omega (arith, last))
above-all n (r ∷ q ∷ qs) zero d rises last below = absurd (omega (arith, last))
above-all n (r ∷ q ∷ qs) (suc k) d rises last below =
    let here : row_number r < row_number (slice_index_or (q ∷ qs) k d) = rises.0 k d (omega (arith, last)) in
    let others : All (λ p. p.function.0 < n) (q ∷ qs) = above-all n (q ∷ qs) k d rises.1 (omega (arith, last)) below in
    All-cons (λ (p : RootRow). p.function.0 < n) r (q ∷ qs) (omega (arith, here, below)) others

pub above-newest : (n : ℕ) (rows : List RootRow) (k : ℕ) (d : RootRow)
    → AreRising rows → k + 1 ≡ length rows → row_number (slice_index_or rows k d) < n → All (λ r. r.function.0 < n) rows
above-newest n rows k d rising last below = above-all n rows k d (map-rising row_number rows rising) last below

-- a later row has a higher number
rising-at : (rows : List RootRow) (i j : ℕ) (d : RootRow) → IsRising row_number rows → i < j → j < length rows
    → row_number (slice_index_or rows i d) < row_number (slice_index_or rows j d)
rising-at [] i j d rises less inside = absurd (omega (arith, inside))
rising-at (r ∷ rs) i zero d rises less inside = absurd (omega (arith, less))
rising-at (r ∷ rs) zero (suc j) d rises less inside = rises.0 j d (omega (arith, inside))
rising-at (r ∷ rs) (suc i) (suc j) d rises less inside = rising-at rs i j d rises.1 (omega (arith, less)) (omega (arith, inside))

rows-rise : (rows : List RootRow) → AreRising rows → Rises row_number rows
rows-rise rows rising = record { rise = λ i j d less inside. rising-at rows i j d (map-rising row_number rows rising) less inside }

-- THE ROW OF A FUNCTION
-- the row that a search finds, where it is kept
pub search-kept : (n at count : ℕ) (rows : List RootRow) (r : RootRow) → count ≡ length rows → IsSearchInRange (Ok at) count
    → IsBinarySearchResult (λ q. nat_cmp (row_number q) n) rows (Ok at) → r ≡ slice_index_or rows at r → r.kept ≡ true → IsKeptAt rows n at
search-kept n at count rows r all within position there kept =
    let found = search-found row_number rows n at (subst (IsSearchInRange (Ok at)) all within) position in
    record {
      inside = found.inside;
      kept = λ d. ap is_row_kept (get_or_default rows at d r found.inside ∙ sym there) ∙ kept;
      same = found.same;
    }

-- no row that is kept is of a function where none of its rows is
none-kept : (n : ℕ) (rows : List RootRow) → ((i : ℕ) (d : RootRow) → i < length rows → row_number (slice_index_or rows i d) ≡ n → is_row_kept (slice_index_or rows i d) ≡ false)
    → AreOfOthers n (kept_roots rows)
none-kept n [] none = All-nil (λ (r : TsfnRoot). is_of_another n r ≡ true)
none-kept n (r ∷ rs) none = by r.kept refl (none-kept n rs (λ i d inside. none (suc i) d (omega (arith, inside))))
  where
    apart : (a : Bool) → (row_number r == n) ≡ a → r.kept ≡ true → not a ≡ true
    apart true same kept = let no : ⊥ = let gone = none 0 r (omega arith) (same-tells (row_number r) n same) in cc in absurd no
    apart false same kept = refl

    by : (b : Bool) → r.kept ≡ b → AreOfOthers n (kept_roots rs) → AreOfOthers n (map root_of_row (cond b (r ∷ filter is_row_kept rs) (filter is_row_kept rs)))
    by true kept rest = All-cons (λ (q : TsfnRoot). is_of_another n q ≡ true) (root_of_row r) (kept_roots rs) (apart (row_number r == n) refl kept) rest
    by false kept rest = rest

-- the one row of a function, where it is not kept
pub search-gone : (n at count : ℕ) (rows : List RootRow) (r : RootRow) → AreRising rows → count ≡ length rows → IsSearchInRange (Ok at) count
    → IsBinarySearchResult (λ q. nat_cmp (row_number q) n) rows (Ok at) → r ≡ slice_index_or rows at r → r.kept ≡ false → AreOfOthers n (kept_roots rows)
search-gone n at count rows r rising all within position there gone =
    let found = search-found row_number rows n at (subst (IsSearchInRange (Ok at)) all within) position in
    let rises = rows-rise rows rising in
    none-kept n rows (λ i d inside same.
    let here : row_number (slice_index_or rows at d) ≡ n = found.same d in
    elim (cases_lt i at) [
      | inl before ↦
          let less : row_number (slice_index_or rows i d) < row_number (slice_index_or rows at d) = rises.rise i at d before found.inside in
          absurd (omega (arith, less, here, same))
      | inr from ↦
          elim (cases_lt at i) [
            | inl after ↦
                let more : row_number (slice_index_or rows at d) < row_number (slice_index_or rows i d) = rises.rise at i d after inside in
                absurd (omega (arith, more, here, same))
            | inr to ↦
                let one_place : i ≡ at = omega (arith, from, to) in
                ap (λ k. is_row_kept (slice_index_or rows k d)) one_place ∙ ap is_row_kept (get_or_default rows at d r found.inside ∙ sym there) ∙ gone
          ]
    ])

-- where there is none
pub search-none : (n gap count : ℕ) (rows : List RootRow) → AreRising rows → count ≡ length rows → IsSearchInRange (Err gap) count
    → IsBinarySearchResult (λ q. nat_cmp (row_number q) n) rows (Err gap) → AreOfOthers n (kept_roots rows)
search-none n gap count rows rising all within position =
    let lacks = search-lacks row_number rows n gap (rows-rise rows rising) (subst (IsSearchInRange (Err gap)) all within) position in
    none-kept n rows (λ i d inside same. absurd (lacks.at i d inside same))

-- ONE ROW MORE
pub kept-pushed : (rows : List RootRow) (r : RootRow) → r.kept ≡ true → kept_roots (rows ++ r ∷ []) ≡ kept_roots rows ++ singleton (root_of_row r)
kept-pushed rows r kept =
    ap (map root_of_row) (filter-append is_row_kept rows (r ∷ []) ∙ ap (λ b. filter is_row_kept rows ++ cond b (r ∷ []) []) kept)
    ∙ map-append root_of_row (filter is_row_kept rows) (r ∷ [])

rising-pushed : (rows : List RootRow) (r : RootRow) → AreRising rows → All (λ q. q.function.0 < r.function.0) rows → AreRising (rows ++ r ∷ [])
rising-pushed rows r rising below =
    subst (λ (l : List RootRow). as_map row_number l ≡ l) (with_record-last row_number r rows below) (as_map-with_record row_number r rows rising)

pub rows-pushed : (rows : List RootRow) (r : RootRow) (dropped : ℕ) (old new : Bool) → AreRootRows rows dropped old → r.kept ≡ true
    → (new ≡ true → (old ≡ true) × All (λ q. q.function.0 < r.function.0) rows) → AreRootRows (rows ++ r ∷ []) dropped new
rows-pushed rows r dropped old new were kept above = record {
  counted = omega (
    arith,
    were.counted,
    ap length (kept-pushed rows r kept),
    length-append (kept_roots rows) (singleton (root_of_row r)),
    length-append rows
        (r ∷ []),
  );
  few = omega (arith, were.few, length-append rows (r ∷ []));
  rising = λ rises. let facts = above rises in rising-pushed rows r (were.rising facts.0) facts.1;
}

-- FEWER ROWS
-- where rows go, all that stay are kept
gone-counted : (rows : List RootRow) → filter is_row_kept rows ≡ rows → length (kept_roots rows) + 0 ≡ length rows
gone-counted rows all = let same : length (kept_roots rows) ≡ length rows = length-map (filter is_row_kept rows) root_of_row ∙ ap length all in omega (arith, same)

all-kept : (rows : List RootRow) → filter is_row_kept (filter is_row_kept rows) ≡ filter is_row_kept rows
all-kept rows = filter_all is_row_kept (filter is_row_kept rows) (passing row_number is_row_kept rows)

pub closed-kept : (rows : List RootRow) → kept_roots (filter is_row_kept rows) ≡ kept_roots rows
closed-kept rows = ap (map root_of_row) (all-kept rows)

pub rows-closed : (rows : List RootRow) (rises : Bool) → (rises ≡ true → AreRising rows) → AreRootRows (filter is_row_kept rows) 0 rises
rows-closed rows rises rising = record {
  counted = gone-counted (filter is_row_kept rows) (all-kept rows);
  few = omega arith;
  rising = λ is. as_map-kept row_number is_row_kept rows (rising is);
}

-- of the rows those stay that are kept and of another function
abbrev pub is_left_row : ℕ → RootRow → Bool
is_left_row n r = r.kept && not (r.function.0 == n)

pub left-kept : (n : ℕ) (rows : List RootRow) → kept_roots (filter (is_left_row n) rows) ≡ filter (is_of_another n) (kept_roots rows)
left-kept n [] = refl
left-kept n (r ∷ rs) = by r.kept (not (row_number r == n)) refl refl (left-kept n rs)
  where
    by : (a b : Bool) → r.kept ≡ a → not (row_number r == n) ≡ b → kept_roots (filter (is_left_row n) rs) ≡ filter (is_of_another n) (kept_roots rs)
        → kept_roots (cond (a && b) (r ∷ filter (is_left_row n) rs) (filter (is_left_row n) rs)) ≡ filter (is_of_another n) (map root_of_row (cond a (r ∷ filter is_row_kept rs) (filter is_row_kept rs)))
    by true true kept other rest =
        ap (λ c. map root_of_row (cond c (r ∷ filter is_row_kept (filter (is_left_row n) rs)) (filter is_row_kept (filter (is_left_row n) rs)))) kept
        ∙ ap (λ l. root_of_row r ∷ l) rest
        ∙ sym (ap (λ c. cond c (root_of_row r ∷ filter (is_of_another n) (kept_roots rs)) (filter (is_of_another n) (kept_roots rs))) other)
    by true false kept other rest = rest ∙ sym (ap (λ c. cond c (root_of_row r ∷ filter (is_of_another n) (kept_roots rs)) (filter (is_of_another n) (kept_roots rs))) other)
    by false b kept other rest = rest

pub rows-left : (n : ℕ) (rows : List RootRow) (rises : Bool) → rises ≡ false → AreRootRows (filter (is_left_row n) rows) 0 rises
rows-left n rows rises falls = record {
  counted = gone-counted (filter (is_left_row n) rows) (filter_all is_row_kept (filter (is_left_row n) rows) (λ k d inside. kept (slice_index_or (filter (is_left_row n) rows) k d) (passing row_number (is_left_row n) rows k d inside)));
  few = omega arith;
  rising = λ is. let no : ⊥ = cc in absurd no;
}
  where
    kept : (r : RootRow) → is_left_row n r ≡ true → r.kept ≡ true
    kept r is = by r.kept is
      where
        by : (a : Bool) → (a && not (row_number r == n)) ≡ true → a ≡ true
        by true is = refl
        by false is = is

-- A ROOT THAT IS DROPPED
-- the row of a function is no longer kept
abbrev dropped_of : ℕ → RootRow → RootRow
dropped_of n r = cond (r.function.0 == n) (record r { kept = false }) r

others-stay : (n : ℕ) (rows : List RootRow) → All (λ q. n < q.function.0) rows → map (dropped_of n) rows ≡ rows
others-stay n [] above = refl
others-stay n (r ∷ rs) above =
    let P : RootRow → Type 0 = λ q. n < q.function.0 in
    ap (λ b. cond b (record r { kept = false }) r ∷ map (dropped_of n) rs) (apart-above n (row_number r) (All-head P r rs above))
    ∙ ap (λ l. r ∷ l) (others-stay n rs (All-tail P r rs above))

set-dropped : (n at : ℕ) (rows : List RootRow) (x : RootRow) → IsRising row_number rows → IsKeptAt rows n at → x ≡ slice_index_or rows at x
    → set rows at (record x { kept = false }) ≡ map (dropped_of n) rows
set-dropped n at [] x rises is there = absurd (omega (arith, is.inside))
set-dropped n zero (r ∷ rs) x rises is there =
    let same : row_number r ≡ n = is.same r in
    ap (λ (q : RootRow). record q { kept = false } ∷ rs) there
    ∙ ap (λ l. record r { kept = false } ∷ l) (sym (others-stay n rs (subst (λ k. All (λ q. k < q.function.0) rs) same rises.0)))
    ∙ ap (λ b. cond b (record r { kept = false }) r ∷ map (dropped_of n) rs) (sym (eq-eqb (row_number r) n same))
set-dropped n (suc at) (r ∷ rs) x rises is there =
    let inside : at < length rs = omega (arith, is.inside) in
    let later : row_number r < row_number (slice_index_or rs at r) = rises.0 at r inside in
    let same : row_number (slice_index_or rs at r) ≡ n = is.same r in
    ap (λ l. r ∷ l) (set-dropped n at rs x rises.1 (record { inside = inside; kept = is.kept; same = is.same }) there)
    ∙ ap (λ b. cond b (record r { kept = false }) r ∷ map (dropped_of n) rs) (sym (apart-below (row_number r) n (omega (arith, later, same))))

roots-dropped : (n : ℕ) (rows : List RootRow) → kept_roots (map (dropped_of n) rows) ≡ filter (is_of_another n) (kept_roots rows)
roots-dropped n [] = refl
roots-dropped n (r ∷ rs) = by (row_number r == n) r.kept refl refl (roots-dropped n rs)
  where
    by : (a b : Bool) → (row_number r == n) ≡ a → r.kept ≡ b → kept_roots (map (dropped_of n) rs) ≡ filter (is_of_another n) (kept_roots rs)
        → kept_roots (cond a (record r { kept = false }) r ∷ map (dropped_of n) rs) ≡ filter (is_of_another n) (map root_of_row (cond b (r ∷ filter is_row_kept rs) (filter is_row_kept rs)))
    by true true same kept rest =
        rest ∙ sym (ap (λ c. cond (not c) (root_of_row r ∷ filter (is_of_another n) (kept_roots rs)) (filter (is_of_another n) (kept_roots rs))) same)
    by true false same kept rest = rest
    by false true same kept rest =
        ap (λ c. map root_of_row (cond c (r ∷ filter is_row_kept (map (dropped_of n) rs)) (filter is_row_kept (map (dropped_of n) rs)))) kept
        ∙ ap (λ l. root_of_row r ∷ l) rest
        ∙ sym (ap (λ c. cond (not c) (root_of_row r ∷ filter (is_of_another n) (kept_roots rs)) (filter (is_of_another n) (kept_roots rs))) same)
    by false false same kept rest =
        ap (λ c. map root_of_row (cond c (r ∷ filter is_row_kept (map (dropped_of n) rs)) (filter is_row_kept (map (dropped_of n) rs)))) kept ∙ rest

count-dropped : (at : ℕ) (rows : List RootRow) (x : RootRow) → at < length rows → x ≡ slice_index_or rows at x → x.kept ≡ true
    → length (kept_roots (set rows at (record x { kept = false }))) + 1 ≡ length (kept_roots rows)
count-dropped at [] x inside there kept = absurd (omega (arith, inside))
count-dropped zero (r ∷ rs) x inside there kept =
    let one_more : length (kept_roots (r ∷ rs)) ≡ suc (length (kept_roots rs)) =
    ap (λ c. length (map root_of_row (cond c (r ∷ filter is_row_kept rs) (filter is_row_kept rs)))) (ap is_row_kept (sym there) ∙ kept) in
    omega (arith, one_more)
count-dropped (suc at) (r ∷ rs) x inside there kept = by r.kept (count-dropped at rs x (omega (arith, inside)) there kept)
  where
    by : (b : Bool) → length (kept_roots (set rs at (record x { kept = false }))) + 1 ≡ length (kept_roots rs)
        → length (map root_of_row (cond b (r ∷ filter is_row_kept (set rs at (record x { kept = false }))) (filter is_row_kept (set rs at (record x { kept = false }))))) + 1
        ≡ length (map root_of_row (cond b (r ∷ filter is_row_kept rs) (filter is_row_kept rs)))
    by true rest = omega (arith, rest)
    by false rest = rest

-- what is true once the root of a function is dropped, before its row goes
pub record IsDropped (rows new : List RootRow) (n dropped : ℕ) : Type 0 where
  pub roots : kept_roots new ≡ filter (is_of_another n) (kept_roots rows)
  pub counted : length (kept_roots new) + (dropped + 1) ≡ length new
  pub rising : AreRising new

pub root-dropped : (n at : ℕ) (rows : List RootRow) (x : RootRow) (dropped : ℕ) (rises : Bool) → AreRootRows rows dropped rises → rises ≡ true → IsKeptAt rows n at
    → x ≡ slice_index_or rows at x → IsDropped rows (set rows at (record x { kept = false })) n dropped
root-dropped n at rows x dropped rises were is row there =
    let rising = map-rising row_number rows (were.rising is) in
    let new : set rows at (record x { kept = false }) ≡ map (dropped_of n) rows = set-dropped n at rows x rising row there in
    record {
      roots = ap kept_roots new ∙ roots-dropped n rows;
      counted =
          omega (
            arith,
            were.counted,
            count-dropped at rows x row.inside there (ap is_row_kept there ∙ row.kept x),
            length-set rows at (record x { kept = false }),
          );
      rising = subst AreRising (sym new) (rising-map row_number (map (dropped_of n) rows) (rising-changed row_number (dropped_of n) numbered rows rising));
    }
  where
    numbered : (r : RootRow) → row_number (dropped_of n r) ≡ row_number r
    numbered r = by (row_number r == n)
      where
        by : (b : Bool) → row_number (cond b (record r { kept = false }) r) ≡ row_number r
        by true = refl
        by false = refl

-- the values of rows
pub row-values : (rows : List RootRow) → map (λ (r : RootRow). r.value.0) rows ≡ map (λ (r : TsfnRoot). r.value) (map root_of_row rows)
row-values [] = refl
row-values (r ∷ rs) = ap (λ l. r.value.0 ∷ l) (row-values rs)

-- WHAT THE MACHINE SEES
-- where values stay live under their numbers, so do those of the roots
pub roots-live : (s t : StoreState) (roots : List TsfnRoot) → KeepsValues s t → RootsAreLive s roots → RootsAreLive t roots
roots-live s t roots kept live =
    All-weaker (λ (r : TsfnRoot). IsLive s r.value) (λ r. IsLive t r.value) (λ r h. kept.live r.value h) roots live

pub roots-kept : (s t : StoreState) (roots : List TsfnRoot) → KeepsValues s t → RootsAreLive s roots → tsfn_roots_seen t roots ≡ tsfn_roots_seen s roots
roots-kept s t [] kept live = refl
roots-kept s t (r ∷ rs) kept live =
    let L : TsfnRoot → Type 0 = λ q. IsLive s q.value in
    let first : root_seen t r ≡ root_seen s r = ap (λ v. record r { value = v }) (kept.numbers r.value (All-head L r rs live)) in
    ap (λ q. q ∷ map (root_seen t) rs) first ∙ ap (λ l. root_seen s r ∷ l) (roots-kept s t rs kept (All-tail L r rs live))

-- fewer roots
pub seen-dropped : (s : StoreState) (n : ℕ) (roots : List TsfnRoot)
    → tsfn_roots_seen s (filter (is_of_another n) roots) ≡ filter (is_of_another n) (tsfn_roots_seen s roots)
seen-dropped s n roots = map-filter (root_seen s) (is_of_another n) (is_of_another n) (λ r. refl) roots

-- the values of the roots, as they are seen
pub values-seen : (s : StoreState) (roots : List TsfnRoot)
    → map (λ (r : TsfnRoot). r.value) (tsfn_roots_seen s roots) ≡ map (number_in s) (map (λ (r : TsfnRoot). r.value) roots)
values-seen s [] = refl
values-seen s (r ∷ rs) = ap (λ l. number_in s r.value ∷ l) (values-seen s rs)
