-- Which numbers are live, as values are made and changed.
use Rattle.std.proofs.Common.{◌≡◌, arith, ℕ, ◌+◌, ◌==◌, ◌||◌, Bool, true, false, cond, List, [], ◌∷◌, ◌++◌, length, map, refl, ◌∙◌, ap, subst, Some}
use Rattle.std.specs.List.{All, filter_map, range_with_len}
use Rattle.std.proofs.lemmas.Bool.{eq-eqb, or_left, or_right}
use Rattle.std.proofs.lemmas.List.{map-append}
use Rattle.std.proofs.lemmas.List.Elements.{All-nil, All-cons, All-head, All-tail, All-weaker}
use Rattle.std.proofs.lemmas.List.Folds.{list_any-append}
use Rattle.napi_types.specs.declared.body.Body.{Body}
use Rattle.napi_types.specs.plain.Lists.{has_number}
use Rattle.napi_types.specs.parts.NewValues.{made_after}
use Rattle.napi_types.specs.parts.Reach.{numbers}
use Rattle.napi_types.specs.parts.Values.{Value, value_changed}
use Rattle.napi_types.proofs.plain.Maps.{all-among}
use Rattle.napi_types.proofs.plain.Tallies.{tally-append}
use Rattle.machine_laws.specs.Consistency.{IsLiveAmong}
use Rattle.machine_laws.proofs.Children.{OfChildren, KeepsChildren}
use Rattle.machine_laws.proofs.Counting.{Within, within-map}

-- VALUES THAT ARE MADE
live-append : (n : ℕ) (vs ws : List Value) → has_number n (numbers (vs ++ ws)) ≡ (has_number n (numbers vs) || has_number n (numbers ws))
live-append n vs ws = ap (has_number n) (map-append (λ (v : Value). v.number) vs ws) ∙ list_any-append (λ m. m == n) (numbers vs) (numbers ws)

-- what was live is, ..
pub live-more : (n : ℕ) (vs ws : List Value) → IsLiveAmong vs n → IsLiveAmong (vs ++ ws) n
live-more n vs ws h = live-append n vs ws ∙ or_left (has_number n (numbers vs)) (has_number n (numbers ws)) h

-- .. and so is what was made
pub live-made : (n : ℕ) (vs ws : List Value) → IsLiveAmong ws n → IsLiveAmong (vs ++ ws) n
live-made n vs ws h = live-append n vs ws ∙ or_right (has_number n (numbers vs)) (has_number n (numbers ws)) h

pub live-pushed : (vs : List Value) (v : Value) → IsLiveAmong (vs ++ v ∷ []) v.number
live-pushed vs v = live-made v.number vs (v ∷ []) (or_left (v.number == v.number) false (eq-eqb v.number v.number refl))

pub within-pushed : (vs : List Value) (v : Value) (n : ℕ) → v.number ≡ n → Within (numbers (vs ++ v ∷ [])) (numbers vs) (n ∷ [])
within-pushed vs v n same =
    let w : Within (vs ++ v ∷ []) vs (v ∷ []) = λ p. omega (arith, tally-append p vs (v ∷ [])) in
    subst (λ k. Within (numbers (vs ++ v ∷ [])) (numbers vs) (k ∷ [])) same (within-map (λ w. w.number) (vs ++ v ∷ []) vs (v ∷ []) w)

-- the numbers of a list are all in it
pub all-there : (ns : List ℕ) → All (λ n. has_number n ns ≡ true) ns
all-there ns = all-among (λ n. has_number n ns ≡ true) ns (λ n here. here)

numbers-made : (n : ℕ) (bs : List Body) → numbers (made_after n bs) ≡ range_with_len (n + 1) (length bs)
numbers-made n [] = refl
numbers-made n (b ∷ bs) = ap (λ ns. (n + 1) ∷ ns) (numbers-made (n + 1) bs)

-- values that are made one after another are live
pub all-made : (vs : List Value) (n : ℕ) (bs : List Body) → All (IsLiveAmong (vs ++ made_after n bs)) (range_with_len (n + 1) (length bs))
all-made vs n bs =
    let ws : List Value = made_after n bs in
    let there : All (IsLiveAmong ws) (range_with_len (n + 1) (length bs)) = subst (λ ns. All (IsLiveAmong ws) ns) (numbers-made n bs) (all-there (numbers ws)) in
    All-weaker (IsLiveAmong ws) (IsLiveAmong (vs ++ ws)) (λ k h. live-made k vs ws h) (range_with_len (n + 1) (length bs)) there

-- VALUES THAT ARE CHANGED
pub numbers-changed : (P : ℕ → Type 0) (k : ℕ) (change : Value → Value) (vs : List Value) → KeepsChildren P change → numbers (value_changed k change vs) ≡ numbers vs
numbers-changed P k change [] keeps = refl
numbers-changed P k change (v ∷ vs) keeps = here (v.number == k) (numbers-changed P k change vs keeps)
  where
    here : (b : Bool) → numbers (value_changed k change vs) ≡ numbers vs → numbers (cond b (change v) v ∷ value_changed k change vs) ≡ numbers (v ∷ vs)
    here true later = rw (keeps.number v, later) refl
    here false later = rw later refl

pub children-changed : (P : ℕ → Type 0) (k : ℕ) (change : Value → Value) (vs : List Value) → KeepsChildren P change → All (OfChildren P) vs
    → All (OfChildren P) (value_changed k change vs)
children-changed P k change [] keeps all = All-nil (OfChildren P)
children-changed P k change (v ∷ vs) keeps all =
    All-cons (OfChildren P) (cond (v.number == k) (change v) v) (value_changed k change vs) (here (v.number == k))
    (children-changed P k change vs keeps (All-tail (OfChildren P) v vs all))
  where
    here : (b : Bool) → OfChildren P (cond b (change v) v)
    here true = keeps.children v (All-head (OfChildren P) v vs all)
    here false = All-head (OfChildren P) v vs all

-- the elements of an array of such values
pub filter_map-Some : (ns : List ℕ) → filter_map (λ e. e) (map Some ns) ≡ ns
filter_map-Some [] = refl
filter_map-Some (n ∷ ns) = ap (λ ms. n ∷ ms) (filter_map-Some ns)
