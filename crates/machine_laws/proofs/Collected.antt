-- Good heaps stay good as values are collected.
use Rattle.std.proofs.Common.{◌≡◌, ◌≤◌, arith, ℕ, ◌+◌, ◌==◌, nat_eq, Bool, true, false, cond, not, List, [], ◌∷◌, ◌++◌, map, filter, refl, ◌∙◌, ap, Option, Some, None, option_to_list, slice_index_or}
use Rattle.std.specs.List.{All, AllByRecursion, IsDistinct, count_by}
use Rattle.std.specs.Option.{IfSome}
use Rattle.std.proofs.lemmas.Bool.{eq-eqb, or_left, or_right}
use Rattle.std.proofs.lemmas.List.Elements.{All-nil, All-cons, All-filter, All-map, All-weaker, filter_passes}
use Rattle.std.proofs.lemmas.Map.Keys.{IsDistinct-head, IsDistinct-tail}
use Rattle.napi_types.specs.plain.Lists.{has_number}
use Rattle.napi_types.specs.parts.Promises.{promise_roots}
use Rattle.napi_types.specs.parts.Reach.{numbers, children_at}
use Rattle.napi_types.specs.parts.References.{Reference, strong_values, value_left}
use Rattle.napi_types.specs.parts.Values.{Value, children, value_at, starting_values, those_of}
use Rattle.napi_types.specs.environment.Collection.{collected}
use Rattle.napi_types.specs.environment.Environment.{Environment, TsfnRoot}
use Rattle.napi_types.specs.environment.Roots.{roots, reach}
use Rattle.napi_types.proofs.plain.Maps.{has-left, has-right}
use Rattle.napi_types.proofs.parts.Reaching.{reach-roots, reach-closed, numbers-kept}
use Rattle.machine_laws.specs.Consistency.{values_of_handles, IsLiveAmong}
use Rattle.machine_laws.proofs.Children.{OfChildren}
use Rattle.machine_laws.proofs.Counting.{Within, within-map, count-cons, issued-fewer}
use Rattle.machine_laws.proofs.ConsistentHeaps.{IsConsistentHeap}
use Rattle.machine_laws.proofs.LiveNumbers.{all-there}

-- a test that does not fail passes
pub passes-stay : (b : Bool) → not (not b) ≡ true → b ≡ true
passes-stay true is = refl
passes-stay false is = cc

pub passes-twice : (b : Bool) → b ≡ true → not (not b) ≡ true
passes-twice true is = refl
passes-twice false is = cc

-- LISTS
pub within-filter : {A : Type 0} (p : A → Bool) (xs : List A) → Within (filter p xs) xs []
within-filter p [] q = omega arith
within-filter p (x ∷ xs) q = by (p x) (within-filter p xs q)
  where
    by : (b : Bool) → count_by q (filter p xs) ≤ count_by q xs + 0 → count_by q (cond b (x ∷ filter p xs) (filter p xs)) ≤ count_by q (x ∷ xs) + 0
    by true less = omega (arith, less, count-cons q x (filter p xs), count-cons q x xs)
    by false less = omega (arith, less, count-cons q x xs)

-- a value is found by its number where no number stands twice
pub of-each : {A : Type 0} (P : ℕ → Type 0) (f : A → ℕ) (xs : List A) → AllByRecursion P (map f xs) → All (λ x. P (f x)) xs
of-each P f [] all = All-nil (λ x. P (f x))
of-each P f (x ∷ xs) all = All-cons (λ x. P (f x)) x xs all.0 (of-each P f xs all.1)

later-found : (v x : Value) (vs : List Value) → nat_eq v.number x.number ≡ false → value_at vs x.number ≡ Some x → value_at (v ∷ vs) x.number ≡ Some x
later-found v x vs other found = rw other found

each-found : (vs : List Value) → IsDistinct nat_eq (numbers vs) → All (λ v. value_at vs v.number ≡ Some v) vs
each-found [] apart = All-nil (λ v. value_at [] v.number ≡ Some v)
each-found (v ∷ vs) apart =
    let P : ℕ → Type 0 = λ n. nat_eq v.number n ≡ false in
    let others : All (λ x. P x.number) vs = of-each P (λ (x : Value). x.number) vs (IsDistinct-head nat_eq v.number (numbers vs) apart) in
    let later : All (λ x. value_at vs x.number ≡ Some x) vs = each-found vs (IsDistinct-tail nat_eq v.number (numbers vs) apart) in
    All-cons (λ x. value_at (v ∷ vs) x.number ≡ Some x) v vs (rw (eq-eqb v.number v.number refl) refl)
    (λ k d below. later-found v (slice_index_or vs k d) vs (others k d below) (later k d below))

-- ROOTS
-- those in their order
abbrev held_roots : Environment → List ℕ
held_roots e = values_of_handles e.heap.scopes

abbrev function_values : Environment → List ℕ
function_values e = map (λ r. r.value) e.tsfn_roots

abbrev early_roots : Environment → List ℕ
early_roots e = numbers starting_values ++ held_roots e ++ strong_values e.references

-- all but the promises
abbrev pub other_roots : Environment → List ℕ
other_roots e = early_roots e ++ function_values e ++ option_to_list e.pending

root-other : (e : Environment) (n : ℕ) → has_number n (other_roots e) ≡ true → has_number n (roots e) ≡ true
root-other e n h = has-left n (other_roots e) (promise_roots e.promises) h

-- each of the first three kinds is a root
root-early : (e : Environment) (n : ℕ) → has_number n (early_roots e) ≡ true → has_number n (roots e) ≡ true
root-early e n h =
    root-other e n (has-left n (early_roots e ++ function_values e) (option_to_list e.pending) (has-left n (early_roots e) (function_values e) h))

-- a starting value, the value of a handle that is held, what a thread-safe function keeps alive, and the pending exception are roots
root-starting : (e : Environment) (n : ℕ) → has_number n (numbers starting_values) ≡ true → has_number n (roots e) ≡ true
root-starting e n h =
    root-early e n
    (has-left n (numbers starting_values ++ held_roots e) (strong_values e.references) (has-left n (numbers starting_values) (held_roots e) h))

root-held : (e : Environment) (n : ℕ) → has_number n (held_roots e) ≡ true → has_number n (roots e) ≡ true
root-held e n h =
    root-early e n
    (has-left n (numbers starting_values ++ held_roots e) (strong_values e.references) (has-right n (numbers starting_values) (held_roots e) h))

root-function : (e : Environment) (n : ℕ) → has_number n (function_values e) ≡ true → has_number n (roots e) ≡ true
root-function e n h =
    root-other e n (has-left n (early_roots e ++ function_values e) (option_to_list e.pending) (has-right n (early_roots e) (function_values e) h))

root-pending : (e : Environment) (n : ℕ) → has_number n (option_to_list e.pending) ≡ true → has_number n (roots e) ≡ true
root-pending e n h = root-other e n (has-right n (early_roots e ++ function_values e) (option_to_list e.pending) h)

-- WHAT IS KEPT
-- the values after a collection
abbrev pub kept : Environment → List Value
kept e = those_of (reach e) e.heap.values

pub live-reached : (e : Environment) (n : ℕ) → has_number n (reach e) ≡ true → IsLiveAmong (kept e) n
live-reached e n h = ap (has_number n) (numbers-kept e.heap.values (roots e)) ∙ h

live-root : (e : Environment) (n : ℕ) → IsLiveAmong e.heap.values n → has_number n (roots e) ≡ true → IsLiveAmong (kept e) n
live-root e n live root = live-reached e n (reach-roots e.heap.values (roots e) n live root)

live-child : (e : Environment) (v : Value) → value_at e.heap.values v.number ≡ Some v → OfChildren (IsLiveAmong e.heap.values) v
    → has_number v.number (reach e) ≡ true → OfChildren (IsLiveAmong (kept e)) v
live-child e v found all reached k d below =
    let m : ℕ = slice_index_or (children v) k d in
    let child : has_number m (children_at e.heap.values v.number) ≡ true = rw found (all-there (children v) k d below) in
    live-reached e m (reach-closed e.heap.values (roots e) v.number m reached child (all k d below))

pub pending-kept : (e : Environment) (o : Option ℕ) → e.pending ≡ o → IfSome o (IsLiveAmong e.heap.values) → IfSome o (IsLiveAmong (kept e))
pending-kept e None is live = tt
pending-kept e (Some n) is live =
    let here : has_number n (option_to_list e.pending) ≡ true = rw is (or_left (n == n) false (eq-eqb n n refl)) in
    live-root e n live (root-pending e n here)

-- what a thread-safe function keeps alive is kept
there-roots : (rs : List TsfnRoot) → All (λ r. has_number r.value (map (λ (x : TsfnRoot). x.value) rs) ≡ true) rs
there-roots [] = All-nil (λ (r : TsfnRoot). has_number r.value [] ≡ true)
there-roots (x ∷ rs) =
    let P : TsfnRoot → Type 0 = λ r. has_number r.value (map (λ (x : TsfnRoot). x.value) (x ∷ rs)) ≡ true in
    All-cons P x rs (or_left (x.value == x.value) (has_number x.value (map (λ (r : TsfnRoot). r.value) rs)) (eq-eqb x.value x.value refl))
    (All-weaker (λ r. has_number r.value (map (λ (x : TsfnRoot). x.value) rs) ≡ true) P
    (λ r h. or_right (x.value == r.value) (has_number r.value (map (λ (x : TsfnRoot). x.value) rs)) h) rs (there-roots rs))

pub rooted-kept : (e : Environment) → All (λ (r : TsfnRoot). IsLiveAmong e.heap.values r.value) e.tsfn_roots
    → All (λ (r : TsfnRoot). IsLiveAmong (kept e) r.value) e.tsfn_roots
rooted-kept e live k d below =
    let n : ℕ = (slice_index_or e.tsfn_roots k d).value in
    live-root e n (live k d below) (root-function e n (there-roots e.tsfn_roots k d below))

left-live : (e : Environment) (o : Option ℕ) → IfSome (value_left (λ v. not (has_number v (reach e))) o) (IsLiveAmong (kept e))
left-live e None = tt
left-live e (Some n) = by (has_number n (reach e)) refl
  where
    by : (b : Bool) → has_number n (reach e) ≡ b → IfSome (cond (not b) None (Some n)) (IsLiveAmong (kept e))
    by true h = live-reached e n h
    by false h = tt

pub referred-kept : (e : Environment) → All (λ (r : Reference). IfSome r.value (IsLiveAmong (kept e))) (collected (reach e) e).references.rows
referred-kept e =
    let empty : Reference → Reference = λ r. record r { value = value_left (λ v. not (has_number v (reach e))) r.value } in
    let rows : List Reference = e.references.rows in
    All-map (λ (r : Reference). IfSome r.value (IsLiveAmong (kept e))) empty rows (λ k d below. left-live e (slice_index_or rows k d).value)

pub heap-kept : (e : Environment) → IsConsistentHeap e.heap → IsConsistentHeap (collected (reach e) e).heap
heap-kept e g =
    let vs : List Value = e.heap.values in
    let hs : List ℕ = values_of_handles e.heap.scopes in
    let ns : List ℕ = numbers starting_values in
    let P : Value → Type 0 = λ v. has_number v.number (reach e) ≡ true → OfChildren (IsLiveAmong (kept e)) v in
    let test : Value → Bool = λ v. has_number v.number (reach e) in
    let found : All (λ v. value_at vs v.number ≡ Some v) vs = each-found vs g.values.apart in
    let closed : All P vs = λ k d below. live-child e (slice_index_or vs k d) (found k d below) (g.children k d below) in
    record {
      handles = g.handles;
      values = issued-fewer e.heap.made (numbers (kept e)) (numbers vs) (within-map (λ (v : Value). v.number) (kept e) vs [] (within-filter test vs)) g.values;
      held = λ k d below. live-root e (slice_index_or hs k d) (g.held k d below) (root-held e (slice_index_or hs k d) (all-there hs k d below));
      children = λ k d below. All-filter test P vs closed k d below (filter_passes test vs k d below);
      starting = λ k d below. live-root e (slice_index_or ns k d) (g.starting k d below) (root-starting e (slice_index_or ns k d) (all-there ns k d below));
    }
