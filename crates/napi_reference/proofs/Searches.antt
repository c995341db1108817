-- Whether a value is among others, as it is looked for.
use Rattle.std.proofs.Common.{◌≡◌, ◌∙◌, ℕ, ◌≤◌, ◌==◌, ◌||◌, ◌∷◌, true, List, [], length, map, get_or, Result, Ok, Err, is_ok, refl, ap, sym, arith, inl, inr}
use Rattle.std.specs.List.{list_any, AllAdjacentBelow}
use Rattle.std.specs.List.Sorted.{IsNonDecreasingBy, IsSearchInRange, IsBinarySearchResult}
use Rattle.std.specs.Ordering.{nat_cmp, ordering_index, is_le}
use Rattle.std.proofs.lemmas.Cmp.{ranked}
use Rattle.std.proofs.lemmas.Bool.{cases_lt, eq-eqb}
use Rattle.std.proofs.lemmas.Bool.Decides.{nat_tests}
use Rattle.std.proofs.lemmas.List.Folds.{list_any_at, list_any_none}
use Rattle.std.proofs.lemmas.List.Sorted.{IsNonDecreasingBy-from_all_adjacent}
use Rattle.std.proofs.lemmas.Map.Keys.{le_from_is_le}
use Rattle.napi_types.specs.declared.ids.ValueId.{ValueId}
use Rattle.napi_types.specs.plain.Lists.{has_number}
use Rattle.napi_types.proofs.plain.Found.{apart-above, apart-below}

comparisons-rise : (xs : List ValueId) (k : ℕ) → IsNonDecreasingBy (λ v. v.0) xs → IsNonDecreasingBy (λ v. ordering_index (nat_cmp v.0 k)) xs
comparisons-rise xs k rises = λ i j d le inside.
    let up : (get_or xs i d).0 ≤ (get_or xs j d).0 = rises i j d le inside in
    grind (arith, nat_tests)

-- a value is among others where one has its number
pub among-any : (xs : List ValueId) (k : ℕ) → list_any (λ v. v.0 == k) xs ≡ has_number k (map (λ v. v.0) xs)
among-any [] k = refl
among-any (x ∷ xs) k = ap (λ b. (x.0 == k) || b) (among-any xs k)

-- a binary search for a number finds a value exactly where one has it
pub among-search : (xs : List ValueId) (k : ℕ) (r : Result ℕ ℕ) → IsNonDecreasingBy (λ v. v.0) xs → IsSearchInRange r (length xs)
    → IsBinarySearchResult (λ v. nat_cmp v.0 k) xs r → is_ok r ≡ has_number k (map (λ v. v.0) xs)
among-search xs k (Ok at) rises inside equal =
    let d : ValueId = record { 0 = 0 } in
    let here : (get_or xs at d).0 ≡ k = ranked _ k _ (sym (equal d)) in
    sym (list_any_at (λ (v : ValueId). v.0 == k) xs at d inside (eq-eqb (get_or xs at d).0 k here)) ∙ among-any xs k
among-search xs k (Err gap) rises inside parted =
    sym (list_any_none (λ (v : ValueId). v.0 == k) xs (λ i d within. elim (cases_lt i gap) [
      | inl below ↦ apart-below _ k (ranked _ k _ (sym ((parted (comparisons-rise xs k rises)).0 i d (omega arith) below)))
      | inr above ↦ apart-above k _ (ranked _ k _ (sym ((parted (comparisons-rise xs k rises)).1 i d above within)))
    ])) ∙ among-any xs k

-- numbers that do not fall from one to the next rise
pub rise-adjacent : (xs : List ValueId) → AllAdjacentBelow (λ x y. true ≡ is_le (nat_cmp x.0 y.0)) xs (length xs) → IsNonDecreasingBy (λ v. v.0) xs
rise-adjacent xs adjacent = IsNonDecreasingBy-from_all_adjacent (λ (v : ValueId). v.0) xs (λ k d inside. le_from_is_le _ _ (sym (adjacent k d inside)))
