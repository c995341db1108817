-- What keeps a promise from being collected.
use Rattle.std.proofs.Common.{◌≡◌, ◌<◌, ◌≤◌, ◌∙◌, ◌||◌, arith, ℕ, ◌==◌, Bool, true, false, not, cond, List, [], ◌∷◌, map, filter, find, refl, ap, sym, subst, Option, Some, None, option_map, slice_index_or}
use Rattle.std.specs.List.{All}
use Rattle.std.specs.Option.{unwrap_or}
use Rattle.std.proofs.lemmas.Bool.{or_from, or_left, or_right}
use Rattle.std.proofs.lemmas.List.Elements.{All-nil, All-cons, All-head, All-tail, All-filter, All-map, filter_passes, recursion_from_All}
use Rattle.std.proofs.lemmas.List.Folds.{list_any-append}
use Rattle.napi_types.specs.plain.Lists.{found, has_number, is_empty}
use Rattle.napi_types.specs.parts.Promises.{Promise, Deferred, Promises, is_reaction_of, reactions_of, promise_roots}
use Rattle.napi_types.specs.environment.Collection.{is_freed}
use Rattle.napi_types.specs.environment.Environment.{Environment}
use Rattle.napi_types.specs.environment.Roots.{roots, reach}
use Rattle.napi_types.proofs.parts.Reaching.{reach-roots}
use Rattle.napi_types.proofs.plain.Found.{IsRising, apart-above, found-All, found-filter, found-number, same-self, same-tells}
use Rattle.napi_types.proofs.plain.Lists.{unempty}
use Rattle.napi_types.proofs.plain.Maps.{filter_all, has-left, has-right}
use Rattle.machine_laws.specs.Consistency.{IsConsistent, IsLiveAmong, reactions_in}
use Rattle.machine_laws.specs.PromiseLaws.{PendingPromisesAreRoots, CollectionsKeepDeferreds, SettledPromisesAreNoRoots}
use Rattle.machine_laws.specs.PromiseLaws.{ReactedPromisesAreRoots, CollectionsKeepReactions, ReactionsAreOfOnePromise}
use Rattle.machine_laws.proofs.Collected.{of-each, other_roots, passes-twice}
use Rattle.machine_laws.proofs.Counting.{count-cons, distinct-times, one_when, times}
use Rattle.machine_laws.proofs.LiveNumbers.{all-there}
use Rattle.machine_laws.proofs.PromiseMaps.{promised_value, deferred_number, deferred_value, settled_promise, of_other_numbers, others-apart}
use Rattle.machine_laws.proofs.Reactions.{times-cons, times_in}

-- A PROMISE THAT IS PENDING
abbrev reacted_values : Promises → List ℕ
reacted_values p = map promised_value (filter (λ r. not (is_empty r.reactions)) p.promises)

-- the promise of each deferred is among those of all
each-there : (ds : List Deferred) → All (λ d. has_number d.promise (map deferred_value ds) ≡ true) ds
each-there ds =
    let P : ℕ → Type 0 = λ n. has_number n (map deferred_value ds) ≡ true in
    of-each P deferred_value ds (recursion_from_All P (map deferred_value ds) (all-there (map deferred_value ds)))

root-deferred : (e : Environment) (v : ℕ) → has_number v (map deferred_value e.promises.deferreds) ≡ true → has_number v (roots e) ≡ true
root-deferred e v there =
    has-right v (other_roots e) (promise_roots e.promises) (has-left v (map deferred_value e.promises.deferreds) (reacted_values e.promises) there)

pub pending-roots : PendingPromisesAreRoots
pending-roots e n v is = root-deferred e v (by (found deferred_number n e.promises.deferreds) refl is)
  where
    IsThere : ℕ → Type 0
    IsThere k = has_number k (map deferred_value e.promises.deferreds) ≡ true

    by : (o : Option Deferred) → found deferred_number n e.promises.deferreds ≡ o → option_map deferred_value o ≡ Some v → IsThere v
    by None here told = cc
    by (Some d) here told =
        let it : d.promise ≡ v = cc in
        subst IsThere it (found-All deferred_number (λ x. IsThere x.promise) n e.promises.deferreds d (each-there e.promises.deferreds) here)

pub deferreds-kept : CollectionsKeepDeferreds
deferreds-kept e c =
    filter_all (λ (d : Deferred). not (not (has_number d.promise (reach e)))) e.promises.deferreds
    (λ k d below.
    let root = root-deferred e _ (each-there e.promises.deferreds k d below) in
    passes-twice _ (reach-roots e.heap.values (roots e) _ (c.promises.deferred k d below) root))

-- ONE WITH REACTIONS
abbrev reactions_among : List Promise → ℕ → List ℕ
reactions_among rs v = unwrap_or (option_map (λ (r : Promise). r.reactions) (found promised_value v rs)) []

abbrev has_reaction : Promise → Bool
has_reaction r = not (is_empty r.reactions)

among-reacted : (v ticket : ℕ) (rs : List Promise) → has_number ticket (reactions_among rs v) ≡ true
    → has_number v (map promised_value (filter has_reaction rs)) ≡ true
among-reacted v ticket [] here = cc
among-reacted v ticket (r ∷ rs) here = by (r.value == v) refl here (among-reacted v ticket rs)
  where
    rest : List ℕ
    rest = map promised_value (filter has_reaction rs)

    later : (b : Bool) → has_number v rest ≡ true → has_number v (map promised_value (cond b (r ∷ filter has_reaction rs) (filter has_reaction rs))) ≡ true
    later true is = or_right (r.value == v) (has_number v rest) is
    later false is = is

    by : (b : Bool) → (r.value == v) ≡ b
        → has_number ticket (unwrap_or (option_map (λ (x : Promise). x.reactions) (cond b (Some r) (found promised_value v rs))) []) ≡ true
        → (has_number ticket (reactions_among rs v) ≡ true → has_number v rest ≡ true)
        → has_number v (map promised_value (filter has_reaction (r ∷ rs))) ≡ true
    by true same is then = rw (unempty ticket r.reactions is) (or_left (r.value == v) (has_number v rest) same)
    by false other is then = later (has_reaction r) (then is)

pub reacted-roots : ReactedPromisesAreRoots
reacted-roots e v ticket is =
    has-right v (other_roots e) (promise_roots e.promises)
    (has-right v (map deferred_value e.promises.deferreds) (reacted_values e.promises) (among-reacted v ticket e.promises.promises is))

-- a promise that a collection does not keep has none
reactions-live : (e : Environment) (v ticket : ℕ) → IsConsistent e → is_reaction_of e.promises v ticket ≡ true → has_number v (reach e) ≡ true
reactions-live e v ticket c is = by (found promised_value v e.promises.promises) refl is
  where
    Live : ℕ → Type 0
    Live = IsLiveAmong e.heap.values

    by : (o : Option Promise) → found promised_value v e.promises.promises ≡ o
        → has_number ticket (unwrap_or (option_map (λ (r : Promise). r.reactions) o) []) ≡ true → has_number v (reach e) ≡ true
    by None here told = cc
    by (Some r) here told =
        let live : Live r.value = found-All promised_value (λ x. Live x.value) v e.promises.promises r c.promises.live here in
        let at : r.value ≡ v = found-number promised_value v e.promises.promises r here in
        reach-roots e.heap.values (roots e) v (subst Live at live) (reacted-roots e v ticket is)

pub reactions-kept : CollectionsKeepReactions
reactions-kept e v c =
    ap of-promise (found-filter promised_value (λ m. not (is_freed (reach e) m)) v e.promises.promises) ∙ by (has_number v (reach e)) refl
  where
    of-promise : Option Promise → List ℕ
    of-promise o = unwrap_or (option_map (λ (r : Promise). r.reactions) o) []

    none : (ns : List ℕ) → reactions_of e.promises v ≡ ns → has_number v (reach e) ≡ false → [] ≡ ns
    none [] is gone = refl
    none (t ∷ ns) is gone =
        let there : is_reaction_of e.promises v t ≡ true = ap (has_number t) is ∙ or_left (t == t) (has_number t ns) (same-self t) in
        let no : true ≡ false = sym (reactions-live e v t c there) ∙ gone in
        cc

    by : (b : Bool) → has_number v (reach e) ≡ b
        → of-promise (cond (not (is_freed (reach e) v)) (found promised_value v e.promises.promises) None)
        ≡ of-promise (found promised_value v e.promises.promises)
    by true stays = rw stays refl
    by false gone = rw gone (none (reactions_of e.promises v) refl gone)

-- ONE PROMISE FOR EACH
-- where a ticket is a reaction of a promise, and none is one twice, the first promise that has it is that one
abbrev first_with : ℕ → List Promise → Option ℕ
first_with ticket rs = option_map promised_value (find (λ r. has_number ticket r.reactions) rs)

has-times : (n : ℕ) (ns : List ℕ) → has_number n ns ≡ true → 1 ≤ times n ns
has-times n [] here = cc
has-times n (m ∷ ns) here = by (m == n) refl here (has-times n ns)
  where
    by : (b : Bool) → (m == n) ≡ b → b || has_number n ns ≡ true → (has_number n ns ≡ true → 1 ≤ times n ns) → 1 ≤ times n (m ∷ ns)
    by true same it later = omega (arith, count-cons (λ k. k == n) m ns, ap one_when same)
    by false other it later = omega (arith, count-cons (λ k. k == n) m ns, later it)

reacted-times : (v ticket : ℕ) (rs : List Promise) → has_number ticket (reactions_among rs v) ≡ true → 1 ≤ times_in ticket rs
reacted-times v ticket [] here = cc
reacted-times v ticket (r ∷ rs) here = by (r.value == v) here (reacted-times v ticket rs)
  where
    by : (b : Bool) → has_number ticket (unwrap_or (option_map (λ (x : Promise). x.reactions) (cond b (Some r) (found promised_value v rs))) []) ≡ true
        → (has_number ticket (reactions_among rs v) ≡ true → 1 ≤ times_in ticket rs) → 1 ≤ times_in ticket (r ∷ rs)
    by true is later = omega (arith, times-cons ticket r rs, has-times ticket r.reactions is)
    by false is later = omega (arith, times-cons ticket r rs, later is)

first-own : (v ticket : ℕ) (rs : List Promise) → times_in ticket rs ≤ 1 → has_number ticket (reactions_among rs v) ≡ true → first_with ticket rs ≡ Some v
first-own v ticket [] once here = cc
first-own v ticket (r ∷ rs) once here =
    by (r.value == v) (has_number ticket r.reactions) refl refl here (first-own v ticket rs (omega (arith, times-cons ticket r rs, once)))
  where
    by : (b c : Bool) → (r.value == v) ≡ b → has_number ticket r.reactions ≡ c
        → has_number ticket (unwrap_or (option_map (λ (x : Promise). x.reactions) (cond b (Some r) (found promised_value v rs))) []) ≡ true
        → (has_number ticket (reactions_among rs v) ≡ true → first_with ticket rs ≡ Some v) → first_with ticket (r ∷ rs) ≡ Some v
    by true c same has is later = rw is (ap Some (same-tells r.value v same))
    by false true other has is later =
        absurd (omega (arith, once, times-cons ticket r rs, has-times ticket r.reactions has, reacted-times v ticket rs is))
    by false false other has is later = rw has (later is)

pub reactions-own : ReactionsAreOfOnePromise
reactions-own e v ticket c is =
    first-own v ticket e.promises.promises (distinct-times ticket (reactions_in e.promises.promises) c.promises.rows.once) is

-- ONE THAT IS SETTLED
-- a number that none of the records has is not among their numbers
none-has : {A : Type 0} (f : A → ℕ) (v : ℕ) (xs : List A) → All (λ x. (f x == v) ≡ false) xs → has_number v (map f xs) ≡ false
none-has f v [] all = refl
none-has f v (x ∷ xs) all =
    or_from (f x == v) (has_number v (map f xs)) (All-head (λ y. (f y == v) ≡ false) x xs all) (none-has f v xs (All-tail (λ y. (f y == v) ≡ false) x xs all))

-- the promise of a value has no reactions
abbrev HasNone : ℕ → Promise → Type 0
HasNone v r = (r.value == v) ≡ true → is_empty r.reactions ≡ true

each-none : (v : ℕ) (rs : List Promise) → IsRising promised_value rs → reactions_among rs v ≡ [] → All (HasNone v) rs
each-none v [] rises is = All-nil (HasNone v)
each-none v (r ∷ rs) rises is = by (r.value == v) refl is (each-none v rs rises.1)
  where
    by : (b : Bool) → (r.value == v) ≡ b → unwrap_or (option_map (λ (x : Promise). x.reactions) (cond b (Some r) (found promised_value v rs))) [] ≡ []
        → (reactions_among rs v ≡ [] → All (HasNone v) rs) → All (HasNone v) (r ∷ rs)
    by true here none later =
        let at : r.value ≡ v = same-tells r.value v here in
        All-cons (HasNone v) r rs (λ same. ap is_empty none)
        (λ k d below same.
        let above : v < _ = omega (arith, at, rises.0 k d below) in
        let no : true ≡ false = sym same ∙ apart-above v _ above in cc)
    by false here none later = All-cons (HasNone v) r rs (λ same. let no : true ≡ false = sym same ∙ here in cc) (later none)

settled-has : (v state : ℕ) (r : Promise) → HasNone v r → HasNone v (settled_promise v state r)
settled-has v state r none = by (r.value == v)
  where
    by : (b : Bool) → HasNone v (cond b (record r { state = state }) r)
    by true = none
    by false = none

other-value : (v : ℕ) (r : Promise) (b : Bool) → (r.value == v) ≡ b → HasNone v r → not (is_empty r.reactions) ≡ true → b ≡ false
other-value v r false is none some = refl
other-value v r true is none some = let no : true ≡ false = sym some ∙ ap not (none is) in cc

pub settled-none : SettledPromisesAreNoRoots
settled-none e n v state c is none =
    let p : Promises = e.promises in
    let test : Promise → Bool = λ r. not (is_empty r.reactions) in
    let rs : List Promise = map (settled_promise v state) p.promises in
    let before : All (HasNone v) p.promises = each-none v p.promises c.promises.rows.promises none in
    let after : All (HasNone v) rs = All-map (HasNone v) (settled_promise v state) p.promises (λ k d below. settled-has v state _ (before k d below)) in
    let left : All (HasNone v) (filter test rs) = All-filter test (HasNone v) rs after in
    let others : All (λ r. (r.value == v) ≡ false) (filter test rs) =
    λ k d below. other-value v (slice_index_or (filter test rs) k d) _ refl (left k d below) (filter_passes test rs k d below) in
    list_any-append (λ m. m == v) (map deferred_value (of_other_numbers n p.deferreds)) (map promised_value (filter test rs))
    ∙ or_from (has_number v (map deferred_value (of_other_numbers n p.deferreds))) (has_number v (map promised_value (filter test rs)))
    (none-has deferred_value v (of_other_numbers n p.deferreds) (others-apart n v p.deferreds c.promises.rows.apart is))
    (none-has promised_value v (filter test rs) others)
