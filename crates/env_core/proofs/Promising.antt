-- Promises as the machine sees them, and what the calls on them answer.
use Rattle.std.proofs.Common.{◌≡◌, ◌∙◌, ℕ, ◌+◌, ◌==◌, ◌&&◌, ◌||◌, Bool, true, false, not, cond, List, [], ◌∷◌, ◌++◌, map, filter, get_or, Option, Some, None, IsSome, option_map, refl, ap, sym, subst, arith}
use Rattle.std.specs.List.{All}
use Rattle.std.specs.Option.{unwrap_or}
use Rattle.std.proofs.lemmas.List.{map-append}
use Rattle.std.proofs.lemmas.List.Folds.{list_any-append}
use Rattle.std.proofs.lemmas.List.Elements.{All-head, All-tail, All-nil, All-filter, All-map, All-append}
use Rattle.std.proofs.lemmas.Bool.{or_from}
use Rattle.napi_types.specs.declared.body.Body.TheVariants as body
use Rattle.napi_types.specs.declared.entry.Duty.{Duty}
use Rattle.napi_types.specs.declared.entry.Duty.TheVariants as duty
use Rattle.napi_types.specs.plain.Lists.{found, has, has_number, as_map, with_record, with_number, HaveSameNumbers, is_empty}
use Rattle.napi_types.specs.parts.Bodies.{promise_tag}
use Rattle.napi_types.specs.parts.Graph.{StoreState, IsSoundStore, IsLive, value_of, number_in}
use Rattle.napi_types.specs.parts.Promises.{Promise, Deferred, Promises, no_promises, promise_at, promise_state, reactions_of, deferred_promise, promise_roots, with_promise, with_settled, with_reaction}
use Rattle.napi_types.specs.parts.Values.{Value}
use Rattle.napi_types.specs.environment.Ends.{reaction_ended}
use Rattle.napi_types.proofs.plain.Found.{same-tells, found-same, found-as_map, found-map, rising-as_map, rising-changed, map-rising}
use Rattle.napi_types.proofs.plain.Maps.{All-with_record, map-filter, map-with_record}
use Rattle.deferred.specs.KeptPromises.{AreMaps}
use Rattle.env_values.specs.SeenValues.{IsPromiseIn, KeepsValues}
use Rattle.env_core.specs.Promising.{seen_promise, seen_deferred, promises_seen, PromisesAreLive}
use Rattle.env_core.proofs.Attaching.{number-apart, listed-kept}
use Rattle.env_core.proofs.Renaming.{found-seen, any-filter, same-renamed, seen-with_record, listed-filter, list_any-seen}

-- WHAT HOLDS
-- a value that is a promise is live
pub promise-in-live : (s : StoreState) (id : ℕ) → IsPromiseIn s id → IsLive s id
promise-in-live s id is = by (value_of s id) is
  where
    by : (o : Option Value) → option_map (λ (v : Value). v.body) o ≡ Some (body.Linked promise_tag None) → IsSome o
    by None at = cc
    by (Some v) at = refl

-- so is the promise of each deferred
pub deferreds-live : (s : StoreState) (ds : List Deferred) → All (λ d. IsPromiseIn s d.promise) ds → All (λ d. IsLive s d.promise) ds
deferreds-live s ds all = λ k d inside. promise-in-live s (get_or ds k d).promise (all k d inside)

pub promised-new : (s : StoreState) → PromisesAreLive s no_promises
promised-new s = record { promises = All-nil (λ (r : Promise). IsLive s r.value); deferreds = All-nil (λ (d : Deferred). IsPromiseIn s d.promise) }

pub promised-made : (s : StoreState) (p : Promises) (v n : ℕ) → PromisesAreLive s p → IsPromiseIn s v → PromisesAreLive s (with_promise v n p)
promised-made s p v n i is = record {
  promises = All-with_record (λ (r : Promise). r.value) (record { value = v; state = 0; reactions = [] }) (λ r. IsLive s r.value) p.promises (promise-in-live s v is)
      i.promises;
  deferreds = All-with_record (λ (d : Deferred). d.number) (record { number = n; promise = v }) (λ d. IsPromiseIn s d.promise)
      (filter (λ d. not (d.promise == v)) p.deferreds) is (All-filter (λ (d : Deferred). not (d.promise == v)) (λ d. IsPromiseIn s d.promise) p.deferreds i.deferreds);
}

-- a change of promises that keeps whose each is
abbrev KeepsValue : (Promise → Promise) → Type 0
KeepsValue change = (r : Promise) → (change r).value ≡ r.value

-- one promise changes so
abbrev changed : (Promise → Promise) → ℕ → Promise → Promise
changed change v r = cond (r.value == v) (change r) r

changed-value : (change : Promise → Promise) → KeepsValue change → (v : ℕ) (r : Promise) → (changed change v r).value ≡ r.value
changed-value change keeps v r = by (r.value == v)
  where
    by : (b : Bool) → (cond b (change r) r).value ≡ r.value
    by true = keeps r
    by false = refl

promised-changed : (s : StoreState) (change : Promise → Promise) → KeepsValue change → (v : ℕ) (rs : List Promise) → All (λ r. IsLive s r.value) rs
    → All (λ r. IsLive s r.value) (map (changed change v) rs)
promised-changed s change keeps v rs all =
    All-map (λ (r : Promise). IsLive s r.value) (changed change v) rs
    (λ k d inside. subst (IsLive s) (sym (changed-value change keeps v (get_or rs k d))) (all k d inside))

-- it is settled, or has a reaction more
abbrev settles : ℕ → Promise → Promise
settles state r = record r { state = state }

abbrev reacts : ℕ → Promise → Promise
reacts ticket r = record r { reactions = r.reactions ++ ticket ∷ [] }

pub promised-settled : (s : StoreState) (p : Promises) (n v state : ℕ) → PromisesAreLive s p → PromisesAreLive s (with_settled n v state p)
promised-settled s p n v state i = record {
  promises = promised-changed s (settles state) (λ r. refl) v p.promises i.promises;
  deferreds = All-filter (λ (d : Deferred). not (d.number == n)) (λ d. IsPromiseIn s d.promise) p.deferreds i.deferreds;
}

pub promised-reacting : (s : StoreState) (p : Promises) (v ticket : ℕ) → PromisesAreLive s p → PromisesAreLive s (with_reaction v ticket p)
promised-reacting s p v ticket i = record { promises = promised-changed s (reacts ticket) (λ r. refl) v p.promises i.promises; deferreds = i.deferreds }

-- a reaction has ended
abbrev ends : ℕ → Promise → Promise
ends ticket r = record r { reactions = filter (λ m. not (m == ticket)) r.reactions }

pub promised-ended : (s : StoreState) (p : Promises) (d : Duty) → PromisesAreLive s p → PromisesAreLive s (reaction_ended (Some d) p)
promised-ended s p (duty.Ticket t) i = record { promises = All-map (λ (r : Promise). IsLive s r.value) (ends t.0) p.promises i.promises; deferreds = i.deferreds }
promised-ended s p _ i = i

-- VALUES THAT STAY
module _ (s t : StoreState) (kept : KeepsValues s t) where
  pub promised-kept : (p : Promises) → PromisesAreLive s p → PromisesAreLive t p
  promised-kept p i = record {
    promises = λ k r inside. kept.live (get_or p.promises k r).value (i.promises k r inside);
    deferreds = λ k d inside.
        let v : ℕ = (get_or p.deferreds k d).promise in
        kept.bodies v (promise-in-live s v (i.deferreds k d inside)) ∙ i.deferreds k d inside;
  }

  pub promises-kept : (p : Promises) → PromisesAreLive s p → promises_seen t p ≡ promises_seen s p
  promises-kept p i =
      let promises : map (seen_promise t) p.promises ≡ map (seen_promise s) p.promises =
      listed-kept s t kept (λ (r : Promise). r.value) (seen_promise s) (seen_promise t) p.promises (λ r same. ap (λ n. record r { value = n }) same) i.promises in
      let deferreds : map (seen_deferred t) p.deferreds ≡ map (seen_deferred s) p.deferreds =
      listed-kept s t kept (λ (d : Deferred). d.promise) (seen_deferred s) (seen_deferred t) p.deferreds (λ d same. ap (λ n. record d { promise = n }) same)
      (deferreds-live s p.deferreds i.deferreds) in
      ap (λ l. record { promises = as_map (λ (r : Promise). r.value) l; deferreds = map (seen_deferred t) p.deferreds; issued = p.issued }) promises
      ∙ ap (λ l. record { promises = as_map (λ (r : Promise). r.value) (map (seen_promise s) p.promises); deferreds = l; issued = p.issued }) deferreds

-- WHAT IS READ
deferreds-found : (s : StoreState) (ds : List Deferred) (n : ℕ)
    → found (λ d. d.number) n (map (seen_deferred s) ds) ≡ option_map (seen_deferred s) (found (λ d. d.number) n ds)
deferreds-found s ds n = found-map (λ (d : Deferred). d.number) (seen_deferred s) (λ d. refl) n ds

pub seen-deferred : (s : StoreState) (p : Promises) (n : ℕ) → deferred_promise (promises_seen s p) n ≡ option_map (number_in s) (deferred_promise p n)
seen-deferred s p n = ap (option_map (λ (d : Deferred). d.promise)) (deferreds-found s p.deferreds n) ∙ by (found (λ d. d.number) n p.deferreds)
  where
    by : (o : Option Deferred) → option_map (λ (d : Deferred). d.promise) (option_map (seen_deferred s) o) ≡ option_map (number_in s) (option_map (λ d. d.promise) o)
    by None = refl
    by (Some d) = refl

-- CHANGES
-- records of a map that change and keep their values are a map
mapped-map : (f : Promise → Promise) → KeepsValue f → (rs : List Promise) → as_map (λ r. r.value) (map f rs) ≡ map f (as_map (λ r. r.value) rs)
mapped-map f keeps rs =
    found-same (λ (r : Promise). r.value) (as_map (λ r. r.value) (map f rs)) (map f (as_map (λ r. r.value) rs)) (rising-as_map (λ (r : Promise). r.value) (map f rs))
    (rising-changed (λ (r : Promise). r.value) f keeps (as_map (λ r. r.value) rs) (rising-as_map (λ (r : Promise). r.value) rs))
    (λ n. found-as_map (λ (r : Promise). r.value) n (map f rs)
    ∙ found-map (λ (r : Promise). r.value) f keeps n rs
    ∙ ap (option_map f) (sym (found-as_map (λ (r : Promise). r.value) n rs))
    ∙ sym (found-map (λ (r : Promise). r.value) f keeps n (as_map (λ r. r.value) rs)))

-- a reaction has ended
ended-seen : (s : StoreState) (ticket : ℕ) (rs : List Promise) → map (seen_promise s) (map (ends ticket) rs) ≡ map (ends ticket) (map (seen_promise s) rs)
ended-seen s ticket [] = refl
ended-seen s ticket (r ∷ rs) = ap (λ xs. ends ticket (seen_promise s r) ∷ xs) (ended-seen s ticket rs)

pub seen-ended : (s : StoreState) (p : Promises) (d : Duty) → promises_seen s (reaction_ended (Some d) p) ≡ reaction_ended (Some d) (promises_seen s p)
seen-ended s p (duty.Ticket t) =
    ap (λ l. record { promises = l; deferreds = map (seen_deferred s) p.deferreds; issued = p.issued })
    (ap (as_map (λ (r : Promise). r.value)) (ended-seen s t.0 p.promises) ∙ mapped-map (ends t.0) (λ r. refl) (map (seen_promise s) p.promises))
seen-ended s p (duty.Work n) = refl
seen-ended s p (duty.Item f n) = refl
seen-ended s p (duty.Function f) = refl

module _ (s : StoreState) (sound : IsSoundStore s) where
  -- a value that no promise is becomes one
  unlike : (v : ℕ) → IsLive s v → (ds : List Deferred) → All (λ d. IsLive s d.promise) ds
      → map (seen_deferred s) (filter (λ d. not (d.promise == v)) ds) ≡ filter (λ d. not (d.promise == number_in s v)) (map (seen_deferred s) ds)
  unlike v live ds all =
      listed-filter (λ (d : Deferred). d.promise) (number_in s) (seen_deferred s) (λ d. refl) (IsLive s) (number-apart s sound) (seen_deferred s) (λ n. not (n == v))
      (λ n. not (n == number_in s v)) ds
      (λ k d inside. ap not (same-renamed (λ (x : Deferred). x.promise) (number_in s) (seen_deferred s) (λ x. refl) (IsLive s) (number-apart s sound)
      (get_or ds k d).promise v (all k d inside) live))
      (λ k d inside passes. refl)

  pub seen-with_promise : (p : Promises) (v n : ℕ) → IsLive s v → PromisesAreLive s p → as_map (λ r. r.value) p.promises ≡ p.promises
      → has (λ r. r.value) v p.promises ≡ false
      → promises_seen s (with_promise v n p) ≡ with_promise (number_in s v) n (promises_seen s p)
  seen-with_promise p v n live i once absent =
      let promises = seen-with_record (λ (r : Promise). r.value) (number_in s) (seen_promise s) (λ r. refl) (IsLive s) (number-apart s sound)
      (record { value = v; state = 0; reactions = [] }) p.promises live i.promises once absent in
      let left : List Deferred = filter (λ d. not (d.promise == v)) p.deferreds in
      let made : Deferred = record { number = n; promise = v } in
      let deferreds : map (seen_deferred s) (with_record (λ d. d.number) made left)
      ≡ with_record (λ d. d.number) (seen_deferred s made) (filter (λ d. not (d.promise == number_in s v)) (map (seen_deferred s) p.deferreds)) =
      map-with_record (λ (d : Deferred). d.number) (seen_deferred s) (λ d. refl) made left
      ∙ ap (with_record (λ d. d.number) (seen_deferred s made)) (unlike v live p.deferreds (deferreds-live s p.deferreds i.deferreds)) in
      ap (λ l. record { promises = l; deferreds = map (seen_deferred s) (with_record (λ d. d.number) made left); issued = with_number n p.issued }) promises
      ∙ ap (λ l. record {
        promises = with_record (λ (r : Promise). r.value) (record { value = number_in s v; state = 0; reactions = [] }) (as_map (λ r. r.value) (map (seen_promise s) p.promises));
        deferreds = l;
        issued = with_number n p.issued;
      }) deferreds

  -- one promise changes, whose value is not named by the change
  changed-seen : (change : Promise → Promise) → ((r : Promise) → seen_promise s (change r) ≡ change (seen_promise s r)) → (v : ℕ) → IsLive s v → (rs : List Promise)
      → All (λ r. IsLive s r.value) rs → map (seen_promise s) (map (changed change v) rs) ≡ map (changed change (number_in s v)) (map (seen_promise s) rs)
  changed-seen change seen v live [] all = refl
  changed-seen change seen v live (r ∷ rs) all =
      let test : (number_in s r.value == number_in s v) ≡ (r.value == v) =
      same-renamed (λ (x : Promise). x.value) (number_in s) (seen_promise s) (λ x. refl) (IsLive s) (number-apart s sound) r.value v
      (All-head (λ (x : Promise). IsLive s x.value) r rs all) live in
      ap (λ x. x ∷ map (seen_promise s) (map (changed change v) rs))
      (by (r.value == v) ∙ ap (λ b. cond b (change (seen_promise s r)) (seen_promise s r)) (sym test))
      ∙ ap (λ xs. changed change (number_in s v) (seen_promise s r) ∷ xs) (changed-seen change seen v live rs (All-tail (λ (x : Promise). IsLive s x.value) r rs all))
    where
      by : (b : Bool) → seen_promise s (cond b (change r) r) ≡ cond b (change (seen_promise s r)) (seen_promise s r)
      by true = seen r
      by false = refl

  seen-changed : (change : Promise → Promise) → KeepsValue change → ((r : Promise) → seen_promise s (change r) ≡ change (seen_promise s r)) → (v : ℕ) → IsLive s v
      → (rs : List Promise) → All (λ r. IsLive s r.value) rs
      → as_map (λ r. r.value) (map (seen_promise s) (map (changed change v) rs)) ≡ map (changed change (number_in s v)) (as_map (λ r. r.value) (map (seen_promise s) rs))
  seen-changed change keeps seen v live rs all =
      ap (as_map (λ (r : Promise). r.value)) (changed-seen change seen v live rs all)
      ∙ mapped-map (changed change (number_in s v)) (changed-value change keeps (number_in s v)) (map (seen_promise s) rs)

  -- a deferred is settled
  pub seen-with_settled : (p : Promises) (n v state : ℕ) → IsLive s v → PromisesAreLive s p
      → promises_seen s (with_settled n v state p) ≡ with_settled n (number_in s v) state (promises_seen s p)
  seen-with_settled p n v state live i =
      let deferreds : map (seen_deferred s) (filter (λ d. not (d.number == n)) p.deferreds) ≡ filter (λ d. not (d.number == n)) (map (seen_deferred s) p.deferreds) =
      listed-filter (λ (d : Deferred). d.number) (λ k. k) (seen_deferred s) (λ d. refl) (λ k. k ≡ k) (λ m k one other same. same) (seen_deferred s) (λ k. not (k == n))
      (λ k. not (k == n)) p.deferreds (λ k d inside. refl) (λ k d inside passes. refl) in
      ap (λ l. record { promises = l; deferreds = map (seen_deferred s) (filter (λ d. not (d.number == n)) p.deferreds); issued = p.issued })
      (seen-changed (settles state) (λ r. refl) (λ r. refl) v live p.promises i.promises)
      ∙ ap (λ l. record {
        promises = map (changed (settles state) (number_in s v)) (as_map (λ (r : Promise). r.value) (map (seen_promise s) p.promises));
        deferreds = l;
        issued = p.issued;
      }) deferreds

  -- a reaction is added
  pub seen-with_reaction : (p : Promises) (v ticket : ℕ) → IsLive s v → PromisesAreLive s p
      → promises_seen s (with_reaction v ticket p) ≡ with_reaction (number_in s v) ticket (promises_seen s p)
  seen-with_reaction p v ticket live i =
      ap (λ l. record { promises = l; deferreds = map (seen_deferred s) p.deferreds; issued = p.issued })
      (seen-changed (reacts ticket) (λ r. refl) (λ r. refl) v live p.promises i.promises)

  -- WHAT IS READ OF ONE
  pub seen-promise : (p : Promises) (v : ℕ) → IsLive s v → PromisesAreLive s p → promise_at (promises_seen s p) (number_in s v) ≡ option_map (seen_promise s) (promise_at p v)
  seen-promise p v live i =
      found-seen (λ (r : Promise). r.value) (number_in s) (seen_promise s) (λ r. refl) (IsLive s) (number-apart s sound) v p.promises live i.promises

  -- its state, and its reactions
  pub seen-state : (p : Promises) (v : ℕ) → IsLive s v → PromisesAreLive s p → promise_state (promises_seen s p) (number_in s v) ≡ promise_state p v
  seen-state p v live i = ap (option_map (λ (r : Promise). r.state)) (seen-promise p v live i) ∙ by (promise_at p v)
    where
      by : (o : Option Promise) → option_map (λ (r : Promise). r.state) (option_map (seen_promise s) o) ≡ option_map (λ r. r.state) o
      by None = refl
      by (Some r) = refl

  pub seen-reactions : (p : Promises) (v : ℕ) → IsLive s v → PromisesAreLive s p → reactions_of (promises_seen s p) (number_in s v) ≡ reactions_of p v
  seen-reactions p v live i = ap (λ o. unwrap_or (option_map (λ (r : Promise). r.reactions) o) []) (seen-promise p v live i) ∙ by (promise_at p v)
    where
      by : (o : Option Promise) → unwrap_or (option_map (λ (r : Promise). r.reactions) (option_map (seen_promise s) o)) [] ≡ unwrap_or (option_map (λ r. r.reactions) o) []
      by None = refl
      by (Some r) = refl

-- THE ROOTS
-- a promise with a reaction
abbrev keeps_reaction : Promise → Bool
keeps_reaction r = not (is_empty r.reactions)

-- the values of promises as they are seen, and those of deferreds
values-seen : (s : StoreState) (rs : List Promise) → map (number_in s) (map (λ r. r.value) rs) ≡ map (λ r. r.value) (map (seen_promise s) rs)
values-seen s [] = refl
values-seen s (r ∷ rs) = ap (λ l. number_in s r.value ∷ l) (values-seen s rs)

deferring-seen : (s : StoreState) (ds : List Deferred) → map (number_in s) (map (λ d. d.promise) ds) ≡ map (λ d. d.promise) (map (seen_deferred s) ds)
deferring-seen s [] = refl
deferring-seen s (d ∷ ds) = ap (λ l. number_in s d.promise ∷ l) (deferring-seen s ds)

-- the promises that are kept are seen as those that the machine keeps, in any order
module _ (s : StoreState) (sound : IsSoundStore s) (p : Promises) (i : PromisesAreLive s p) (maps : AreMaps p) where
  reacting-seen : (n : ℕ) → has_number n (map (number_in s) (map (λ r. r.value) (filter keeps_reaction p.promises)))
      ≡ has_number n (map (λ r. r.value) (filter keeps_reaction (promises_seen s p).promises))
  reacting-seen n =
      ap (has_number n) (values-seen s (filter keeps_reaction p.promises)
      ∙ ap (map (λ (r : Promise). r.value)) (map-filter (seen_promise s) keeps_reaction keeps_reaction (λ r. refl) p.promises))
      ∙ any-filter (λ m. m == n) (λ (r : Promise). r.value) keeps_reaction (map (seen_promise s) p.promises)
      ∙ sym (list_any-seen (λ (r : Promise). r.value) (number_in s) (seen_promise s) (λ r. refl) (IsLive s) (number-apart s sound)
      (λ r. keeps_reaction r && (r.value == n)) p.promises i.promises (map-rising (λ (r : Promise). r.value) p.promises maps.promises))
      ∙ sym (any-filter (λ m. m == n) (λ (r : Promise). r.value) keeps_reaction (promises_seen s p).promises)

  pub promise_roots-seen : HaveSameNumbers (map (number_in s) (promise_roots p)) (promise_roots (promises_seen s p))
  promise_roots-seen n =
      let first : List ℕ = map (λ (d : Deferred). d.promise) p.deferreds in
      let second : List ℕ = map (λ (r : Promise). r.value) (filter keeps_reaction p.promises) in
      let seen : List ℕ = map (λ (d : Deferred). d.promise) (map (seen_deferred s) p.deferreds) in
      let others : List ℕ = map (λ (r : Promise). r.value) (filter keeps_reaction (promises_seen s p).promises) in
      let deferring : map (number_in s) first ≡ seen = deferring-seen s p.deferreds in
      ap (has_number n) (map-append (number_in s) first second) ∙ list_any-append (λ m. m == n) (map (number_in s) first) (map (number_in s) second)
      ∙ ap (λ l. has_number n l || has_number n (map (number_in s) second)) deferring
      ∙ ap (λ b. has_number n seen || b) (reacting-seen n)
      ∙ sym (list_any-append (λ m. m == n) seen others)

-- each of them is live
pub promise_roots-live : (s : StoreState) (p : Promises) → PromisesAreLive s p → All (IsLive s) (promise_roots p)
promise_roots-live s p i =
    All-append (IsLive s) (map (λ (d : Deferred). d.promise) p.deferreds) (map (λ (r : Promise). r.value) (filter keeps_reaction p.promises))
    (All-map (IsLive s) (λ (d : Deferred). d.promise) p.deferreds (deferreds-live s p.deferreds i.deferreds))
    (All-map (IsLive s) (λ (r : Promise). r.value) (filter keeps_reaction p.promises) (All-filter keeps_reaction (λ r. IsLive s r.value) p.promises i.promises))

-- A NEW PROMISE
-- no promise is of a value whose number comes later
pub promise-absent : (s t : StoreState) (kept : KeepsValues s t) → IsSoundStore s → (p : Promises) → PromisesAreLive s p → (v : ℕ) → number_in t v ≡ s.made + 1
    → has (λ r. r.value) v p.promises ≡ false
promise-absent s t kept sound p i v number = none p.promises i.promises
  where
    other : (w : ℕ) → IsLive s w → (b : Bool) → (w == v) ≡ b → b ≡ false
    other w live false is = refl
    other w live true is =
        let same : w ≡ v = same-tells w v is in
        let here : number_in s w ≡ s.made + 1 = sym (kept.numbers w live) ∙ ap (number_in t) same ∙ number in
        absurd (later w live here)
      where
        later : (w : ℕ) → IsLive s w → number_in s w ≡ s.made + 1 → ⊥
        later w live here = by (value_of s w) refl live here
          where
            by : (o : Option Value) → value_of s w ≡ o → IsSome o → unwrap_or (option_map (λ (x : Value). x.number) o) 0 ≡ s.made + 1 → ⊥
            by None is some here = cc
            by (Some x) is some here = omega (arith, here, (sound.counted w x is).1)

    none : (rs : List Promise) → All (λ r. IsLive s r.value) rs → has (λ r. r.value) v rs ≡ false
    none [] all = refl
    none (r ∷ rs) all =
        or_from (r.value == v) (has (λ (x : Promise). x.value) v rs) (other r.value (All-head (λ (x : Promise). IsLive s x.value) r rs all) (r.value == v) refl)
        (none rs (All-tail (λ (x : Promise). IsLive s x.value) r rs all))
