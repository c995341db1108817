-- What holds of the value of each reference holds wherever a call leaves it, and of what is told.
use Rattle.std.proofs.Common.{ℕ, ◌==◌, ◌∷◌, not, Bool, true, false, cond, List, [], map, Option, Some, None, IfSome, option_map}
use Rattle.std.specs.List.{All, filter_map, cons_option}
use Rattle.std.specs.Option.{unwrap_or}
use Rattle.std.proofs.lemmas.List.Elements.{All-nil, All-cons, All-head, All-tail, All-filter}
use Rattle.napi_types.specs.plain.Lists.{found}
use Rattle.napi_types.specs.parts.References.{Reference, ReferenceMap, no_references, with_reference, without_reference, with_count, referred_value, value_left, emptied, strong_value, strong_values}
use Rattle.napi_types.proofs.plain.Maps.{All-with_record}
use Rattle.napi_reference.specs.ReferencePlaces.{AllValues}

pub AllValues-no_references : (P : ℕ → Type 0) → AllValues P no_references
AllValues-no_references P = All-nil (λ (r : Reference). IfSome r.value P)

pub AllValues-with_reference : (P : ℕ → Type 0) (n value count : ℕ) (m : ReferenceMap) → P value → AllValues P m → AllValues P (with_reference n value count m)
AllValues-with_reference P n value count m one all =
    let r : Reference = record { number = n; value = Some value; count = count } in
    All-with_record (λ (q : Reference). q.number) r (λ (q : Reference). IfSome q.value P) m.rows one all

pub AllValues-without_reference : (P : ℕ → Type 0) (n : ℕ) (m : ReferenceMap) → AllValues P m → AllValues P (without_reference n m)
AllValues-without_reference P n m all = All-filter (λ r. not (r.number == n)) (λ (r : Reference). IfSome r.value P) m.rows all

-- references are changed one by one, and each keeps a value of which P holds
each-changed : (P : ℕ → Type 0) (change : Reference → Reference) → ((r : Reference) → IfSome r.value P → IfSome (change r).value P) → (rs : List Reference)
    → All (λ r. IfSome r.value P) rs → All (λ r. IfSome r.value P) (map change rs)
each-changed P change keeps [] all = all
each-changed P change keeps (r ∷ rs) all =
    All-cons (λ (r : Reference). IfSome r.value P) (change r) (map change rs) (keeps r (All-head (λ (r : Reference). IfSome r.value P) r rs all))
    (each-changed P change keeps rs (All-tail (λ (r : Reference). IfSome r.value P) r rs all))

pub AllValues-with_count : (P : ℕ → Type 0) (n count : ℕ) (m : ReferenceMap) → AllValues P m → AllValues P (with_count n count m)
AllValues-with_count P n count m all = each-changed P (λ r. cond (r.number == n) (record r { count = count }) r) (λ r here. by r (r.number == n) here) m.rows all
  where
    by : (r : Reference) (b : Bool) → IfSome r.value P → let q : Reference = cond b (record r { count = count }) r in IfSome q.value P
    by r true here = here
    by r false here = here

value_left-keeps : (P : ℕ → Type 0) (collected : ℕ → Bool) (value : Option ℕ) → IfSome value P → IfSome (value_left collected value) P
value_left-keeps P collected None here = here
value_left-keeps P collected (Some v) here = by (collected v)
  where
    by : (b : Bool) → IfSome (cond b None (Some v)) P
    by true = tt
    by false = here

pub AllValues-emptied : (P : ℕ → Type 0) (collected : ℕ → Bool) (m : ReferenceMap) → AllValues P m → AllValues P (emptied collected m)
AllValues-emptied P collected m all = each-changed P (λ r. record r { value = value_left collected r.value }) (λ r here. value_left-keeps P collected r.value here) m.rows all

-- WHAT IS TOLD
value-found : (P : ℕ → Type 0) (n : ℕ) (rs : List Reference) → All (λ r. IfSome r.value P) rs → IfSome (unwrap_or (option_map (λ r. r.value) (found (λ r. r.number) n rs)) None) P
value-found P n [] all = tt
value-found P n (r ∷ rs) all = by (r.number == n) (value-found P n rs (All-tail (λ (q : Reference). IfSome q.value P) r rs all))
  where
    by : (b : Bool) → IfSome (unwrap_or (option_map (λ (q : Reference). q.value) (found (λ q. q.number) n rs)) None) P → IfSome (unwrap_or (option_map (λ (q : Reference). q.value) (cond b (Some r) (found (λ q. q.number) n rs))) None) P
    by true rest = All-head (λ (q : Reference). IfSome q.value P) r rs all
    by false rest = rest

-- the value of a reference is one of which P holds
pub referred_value-AllValues : (P : ℕ → Type 0) (m : ReferenceMap) (n : ℕ) → AllValues P m → IfSome (referred_value m n) P
referred_value-AllValues P m n all = value-found P n m.rows all

strong-holds : (P : ℕ → Type 0) (r : Reference) → IfSome r.value P → IfSome (strong_value r) P
strong-holds P r here = by (r.count == 0)
  where
    by : (b : Bool) → IfSome (cond b None r.value) P
    by true = tt
    by false = here

one_more : (P : ℕ → Type 0) (o : Option ℕ) (vs : List ℕ) → IfSome o P → All P vs → All P (cons_option o vs)
one_more P None vs here all = all
one_more P (Some v) vs here all = All-cons P v vs here all

strong-listed : (P : ℕ → Type 0) (rs : List Reference) → All (λ r. IfSome r.value P) rs → All P (filter_map strong_value rs)
strong-listed P [] all = All-nil P
strong-listed P (r ∷ rs) all =
    one_more P (strong_value r) (filter_map strong_value rs) (strong-holds P r (All-head (λ (q : Reference). IfSome q.value P) r rs all))
    (strong-listed P rs (All-tail (λ (q : Reference). IfSome q.value P) r rs all))

-- and so is each value that a strong reference keeps
pub strong_values-AllValues : (P : ℕ → Type 0) (m : ReferenceMap) → AllValues P m → All P (strong_values m)
strong_values-AllValues P m all = strong-listed P m.rows all
