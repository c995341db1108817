-- The promise of which a frame is a reaction, and the value that settled it.
use Rattle.std.proofs.Common.{◌≡◌, ◌∙◌, ◌↔◌, ℕ, ◌<◌, ◌==◌, Bool, true, false, cond, List, [], ◌∷◌, ◌++◌, map, filter_map, find, Option, Some, None, IfSome, option_map, refl, ap, sym, subst, arith}
use Rattle.std.specs.List.{All}
use Rattle.std.specs.Option.{IsSomeAnd, unwrap_or, option_and_then, option_to_list}
use Rattle.std.proofs.lemmas.List.Elements.{All-nil, All-cons, All-head}
use Rattle.std.proofs.lemmas.Option.{same_Some}
use Rattle.napi_types.specs.declared.entry.Cause.TheVariants as cause
use Rattle.napi_types.specs.declared.ids.ValueId.{ValueId}
use Rattle.napi_types.specs.plain.Lists.{found, has_number}
use Rattle.napi_types.specs.parts.Book.{new_ticket}
use Rattle.napi_types.specs.parts.Frames.{Frame, duty_of, ticket_of}
use Rattle.napi_types.specs.parts.Graph.{StoreState, IsSoundStore, IsLive, value_of, number_in, renamed, graph_of}
use Rattle.napi_types.specs.parts.Promises.{Promise, Promises, promise_at, is_reaction_of, reaction_promise}
use Rattle.napi_types.specs.parts.Values.{Value, value_at, link_of}
use Rattle.napi_types.specs.environment.Environment.{Environment}
use Rattle.napi_types.specs.environment.Hooked.{IsHooked}
use Rattle.napi_types.proofs.plain.Found.{IsRising, apart-below, same-tells, same-self, found-All, found-as_map, found-first, found-later, found-number, rising-as_map}
use Rattle.napi_types.proofs.plain.Lists.{find-passes, All-right}
use Rattle.napi_types.proofs.parts.Moved.{BeginsFor, IsUnder, under, registration-within}
use Rattle.napi_types.proofs.environment.HookedSteps.{reactions-of}
use Rattle.env_core.specs.Promising.{seen_promise, promises_seen, PromisesAreLive, settler_seen, IsReactedTo}
use Rattle.env_core.proofs.Promising.{seen-reactions}

-- ONE AMONG MANY
-- where no record passes a test, each fails it
none-passes : {A : Type 0} (test : A → Bool) (xs : List A) → find test xs ≡ None → All (λ x. test x ≡ false) xs
none-passes test [] none = All-nil (λ x. test x ≡ false)
none-passes test (x ∷ xs) none = by (test x) refl none (none-passes test xs)
  where
    by : (b : Bool) → test x ≡ b → cond b (Some x) (find test xs) ≡ None → (find test xs ≡ None → All (λ y. test y ≡ false) xs) → All (λ y. test y ≡ false) (x ∷ xs)
    by true is none later = let no : ⊥ = cc in absurd no
    by false is none later = All-cons (λ y. test y ≡ false) x xs is (later none)

-- of rising records, one that passes a test is found by its number
found-itself : {A : Type 0} (number : A → ℕ) (test : A → Bool) (xs : List A) (x : A) → IsRising number xs → find test xs ≡ Some x
    → found number (number x) xs ≡ Some x
found-itself number test [] x rises is = let no : ⊥ = cc in absurd no
found-itself {A} number test (y ∷ ys) x rises is = by (test y) is (found-itself number test ys x rises.1)
  where
    by : (b : Bool) → cond b (Some y) (find test ys) ≡ Some x → (find test ys ≡ Some x → found number (number x) ys ≡ Some x)
        → found number (number x) (y ∷ ys) ≡ Some x
    by true here later = let same : y ≡ x = same_Some y x here in subst (λ (z : A). found number (number z) (y ∷ ys) ≡ Some z) same (found-first number y ys)
    by false here later =
        let there : found number (number x) ys ≡ Some x = later here in
        let below : number y < number x = found-All number (λ z. number y < number z) (number x) ys x rises.0 there in
        found-later number (number x) y ys (apart-below (number y) (number x) below) ∙ there

-- the promise whose reaction has the ticket
reaction-promise : (p : Promises) (t : ℕ) (o : Option ℕ) → IsRising (λ r. r.value) p.promises → ((v : ℕ) → (o ≡ Some v) ↔ (is_reaction_of p v t ≡ true)) → o ≡ reaction_promise p t
reaction-promise p t o rises its = by (find test p.promises) refl
  where
    test : Promise → Bool
    test r = has_number t r.reactions

    -- that of a promise that is found
    of-found : (v : ℕ) (q : Option Promise) → promise_at p v ≡ q → All (λ r. test r ≡ false) p.promises
        → has_number t (unwrap_or (option_map (λ (r : Promise). r.reactions) q) []) ≡ true → ⊥
    of-found v None at none is = cc
    of-found v (Some r) at none is =
        let no : true ≡ false = sym is ∙ found-All (λ (x : Promise). x.value) (λ x. test x ≡ false) v p.promises r none at in cc

    none-is : All (λ r. test r ≡ false) p.promises → (q : Option ℕ) → o ≡ q → o ≡ None
    none-is none None is = is
    none-is none (Some v) is = absurd (of-found v (promise_at p v) refl none ((its v).0 is))

    by : (q : Option Promise) → find test p.promises ≡ q → o ≡ option_map (λ (r : Promise). r.value) q
    by None is = none-is (none-passes test p.promises is) o refl
    by (Some r) is =
        let at : promise_at p r.value ≡ Some r = found-itself (λ (x : Promise). x.value) test p.promises r rises is in
        (its r.value).1
        (ap (λ q. has_number t (unwrap_or (option_map (λ (x : Promise). x.reactions) q) [])) at ∙ find-passes test p.promises r is)

-- AS THE MACHINE SEES IT
-- a value that is a promise is live
promise-live : (s : StoreState) (p : Promises) → PromisesAreLive s p → (v : ℕ) (r : Promise) → promise_at p v ≡ Some r → IsLive s v
promise-live s p i v r at =
    subst (IsLive s) (found-number (λ (x : Promise). x.value) v p.promises r at) (found-All (λ (x : Promise). x.value) (λ x. IsLive s x.value) v p.promises r i.promises at)

-- so is one that has a reaction
reacting-live : (s : StoreState) (p : Promises) → PromisesAreLive s p → (v t : ℕ) → is_reaction_of p v t ≡ true → IsLive s v
reacting-live s p i v t is = by (promise_at p v) refl is
  where
    by : (o : Option Promise) → promise_at p v ≡ o → has_number t (unwrap_or (option_map (λ (r : Promise). r.reactions) o) []) ≡ true → IsLive s v
    by None at is = let no : ⊥ = cc in absurd no
    by (Some r) at is = promise-live s p i v r at

-- what is found under a number that is seen is what was found under the store's
record IsSeenAs (s : StoreState) (n : ℕ) (rs : List Promise) (x : Promise) : Type 0 where
  pub promise : Promise
  pub number : number_in s promise.value ≡ n
  pub there : found (λ r. r.value) promise.value rs ≡ Some promise
  pub same : x ≡ seen_promise s promise

seen-from : (s : StoreState) (n : ℕ) (rs : List Promise) (x : Promise) → found (λ r. r.value) n (map (seen_promise s) rs) ≡ Some x → IsSeenAs s n rs x
seen-from s n [] x is = let no : ⊥ = cc in absurd no
seen-from s n (r ∷ rs) x is = by (number_in s r.value == n) refl is (seen-from s n rs x)
  where
    by : (b : Bool) → (number_in s r.value == n) ≡ b → cond b (Some (seen_promise s r)) (found (λ q. q.value) n (map (seen_promise s) rs)) ≡ Some x
        → (found (λ q. q.value) n (map (seen_promise s) rs) ≡ Some x → IsSeenAs s n rs x) → IsSeenAs s n (r ∷ rs) x
    by true same here later = record {
      promise = r;
      number = same-tells (number_in s r.value) n same;
      there = found-first (λ (q : Promise). q.value) r rs;
      same = sym (same_Some (seen_promise s r) x here);
    }
    by false other there later =
        let k : IsSeenAs s n rs x = later there in
        record { promise = k.promise; number = k.number; there = past k (r.value == k.promise.value) refl; same = k.same }
      where
        past : (k : IsSeenAs s n rs x) (b : Bool) → (r.value == k.promise.value) ≡ b → found (λ q. q.value) k.promise.value (r ∷ rs) ≡ Some k.promise
        past k true same =
            let no : true ≡ false =
            sym (ap (λ m. m == n) (ap (number_in s) (same-tells r.value k.promise.value same) ∙ k.number) ∙ same-self n) ∙ other in
            cc
        past k false apart = found-later (λ (q : Promise). q.value) k.promise.value r rs apart ∙ k.there

module _ (s : StoreState) (sound : IsSoundStore s) (p : Promises) (i : PromisesAreLive s p) where
  pub seen-reaction : (v t : ℕ) → IsLive s v → is_reaction_of (promises_seen s p) (number_in s v) t ≡ is_reaction_of p v t
  seen-reaction v t live = ap (has_number t) (seen-reactions s sound p v live i)

  -- a promise that is seen with a reaction is one that has it
  from-seen : (n t : ℕ) → is_reaction_of (promises_seen s p) n t ≡ true → (v : ℕ) × (number_in s v ≡ n) × (is_reaction_of p v t ≡ true)
  from-seen n t is =
      by (found (λ (r : Promise). r.value) n (map (seen_promise s) p.promises)) refl
      (ap has (sym (found-as_map (λ (r : Promise). r.value) n (map (seen_promise s) p.promises))) ∙ is)
    where
      has : Option Promise → Bool
      has o = has_number t (unwrap_or (option_map (λ (r : Promise). r.reactions) o) [])

      by : (o : Option Promise) → found (λ (r : Promise). r.value) n (map (seen_promise s) p.promises) ≡ o → has o ≡ true
          → (v : ℕ) × (number_in s v ≡ n) × (is_reaction_of p v t ≡ true)
      by None at is = let no : ⊥ = cc in absurd no
      by (Some x) at is =
          let k : IsSeenAs s n p.promises x = seen-from s n p.promises x at in
          (k.promise.value, k.number, ap has k.there ∙ sym (ap (λ (r : Promise). has_number t r.reactions) k.same) ∙ is)

  -- the promise of a ticket
  told-seen : (t : ℕ) (o : Option ℕ) → ((v : ℕ) → (o ≡ Some v) ↔ (is_reaction_of p v t ≡ true)) → option_map (number_in s) o ≡ reaction_promise (promises_seen s p) t
  told-seen t o its =
      reaction-promise (promises_seen s p) t (option_map (number_in s) o) (rising-as_map (λ (r : Promise). r.value) (map (seen_promise s) p.promises)) (λ n. (to n o refl, from n))
    where
      to : (n : ℕ) (q : Option ℕ) → o ≡ q → option_map (number_in s) q ≡ Some n → is_reaction_of (promises_seen s p) n t ≡ true
      to n None at is = cc
      to n (Some v) at is =
          let its_own : is_reaction_of p v t ≡ true = (its v).0 at in
          let number : number_in s v ≡ n = same_Some (number_in s v) n is in
          ap (λ m. is_reaction_of (promises_seen s p) m t) (sym number) ∙ seen-reaction v t (reacting-live s p i v t its_own) ∙ its_own

      from : (n : ℕ) → is_reaction_of (promises_seen s p) n t ≡ true → option_map (number_in s) o ≡ Some n
      from n is =
          let k : (v : ℕ) × (number_in s v ≡ n) × (is_reaction_of p v t ≡ true) = from-seen n t is in
          ap (option_map (number_in s)) ((its k.0).1 k.2) ∙ ap Some k.1

  -- the promise of which the innermost frame is a reaction
  pub reacted-seen : (fs : List Frame) (o : Option ℕ) → ((v : ℕ) → (o ≡ Some v) ↔ IsReactedTo fs p v)
      → option_map (number_in s) o ≡ option_and_then (reaction_promise (promises_seen s p)) (ticket_of (duty_of fs))
  reacted-seen fs o its = by (ticket_of (duty_of fs)) its
    where
      none : (q : Option ℕ) → ((v : ℕ) → (q ≡ Some v) ↔ ⊥) → option_map (number_in s) q ≡ None
      none None never = refl
      none (Some v) never = absurd ((never v).0 refl)

      by : (t : Option ℕ) → ((v : ℕ) → (o ≡ Some v) ↔ IsSomeAnd t (λ m. is_reaction_of p v m ≡ true))
          → option_map (number_in s) o ≡ option_and_then (reaction_promise (promises_seen s p)) t
      by None its = none o its
      by (Some t) its = told-seen t o its

  -- a promise of which the innermost frame is a reaction is live
  pub reacted-live : (fs : List Frame) (v : ℕ) → IsReactedTo fs p v → IsLive s v
  reacted-live fs v is = by (ticket_of (duty_of fs)) is
    where
      by : (t : Option ℕ) → IsSomeAnd t (λ m. is_reaction_of p v m ≡ true) → IsLive s v
      by None is = absurd is
      by (Some t) is = reacting-live s p i v t is

-- the next ticket is that of no reaction
pub no-reaction : (s : StoreState) → IsSoundStore s → (p : Promises) → PromisesAreLive s p → (e : Environment) → e.promises ≡ promises_seen s p → IsHooked e → (v : ℕ)
    → is_reaction_of p v (new_ticket e.book) ≡ false
no-reaction s sound p i e seen h v = by (is_reaction_of p v t) refl
  where
    t : ℕ
    t = new_ticket e.book

    by : (b : Bool) → is_reaction_of p v t ≡ b → b ≡ false
    by false is = refl
    by true is =
        let here : is_reaction_of e.promises (number_in s v) t ≡ true =
        ap (λ (q : Promises). is_reaction_of q (number_in s v) t) seen ∙ seen-reaction s sound p i v t (reacting-live s p i v t is) ∙ is in
        let u : IsUnder (BeginsFor cause.Reaction) e.book t = under e.book t cause.Reaction (reactions-of e.book e.promises (number_in s v) t h.reactions here) in
        let within : t < t = registration-within e.book t u.registration u.there in
        absurd (omega (arith, within))

-- THE VALUE
-- the link of a value, as the machine sees it
pub link-seen : (s : StoreState) (w : ℕ) → value_at (graph_of s) (number_in s w) ≡ option_map (renamed s) (value_of s w) → (o : Option Value) → value_of s w ≡ o
    → link_of (graph_of s) (number_in s w) ≡ option_map (number_in s) (option_and_then (λ v. v.link) o)
link-seen s w graph o is = ap (option_and_then (λ (v : Value). v.link)) (graph ∙ ap (option_map (renamed s)) is) ∙ by o
  where
    by : (o : Option Value) → option_and_then (λ (v : Value). v.link) (option_map (renamed s) o) ≡ option_map (number_in s) (option_and_then (λ v. v.link) o)
    by None = refl
    by (Some v) = refl

-- it is live
pub link-live : (s : StoreState) → IsSoundStore s → (w : ℕ) (v : Value) → value_of s w ≡ Some v → (to : ℕ) → v.link ≡ Some to → IsLive s to
link-live s sound w v at to is =
    let named : List ℕ = map (λ p. p.value) v.properties ++ filter_map (λ e. e) v.elements in
    let all : All (λ m. IsLive s m) (option_to_list v.link) = All-right (λ m. IsLive s m) named (option_to_list v.link) (sound.closed w v at) in
    All-head (λ m. IsLive s m) to [] (subst (λ (o : Option ℕ). All (λ m. IsLive s m) (option_to_list o)) is all)

-- the value that a call gives is the machine's, and is live
module _ (s : StoreState) (sound : IsSoundStore s) (p : Promises) (i : PromisesAreLive s p) (fs : List Frame) (o : Option ℕ)
    (its : (v : ℕ) → (o ≡ Some v) ↔ IsReactedTo fs p v) where
  settler-by : (q : Option ℕ) → o ≡ q → settler_seen s (promises_seen s p) fs ≡ option_and_then (link_of (graph_of s)) (option_map (number_in s) q)
  settler-by q is = ap (option_and_then (link_of (graph_of s))) (sym (reacted-seen s sound p i fs o its) ∙ ap (option_map (number_in s)) is)

  -- of no promise
  pub settler-none : (r : Option ValueId) → r ≡ None → o ≡ None → option_map (λ v. number_in s v.0) r ≡ settler_seen s (promises_seen s p) fs
  settler-none r none is = ap (option_map (λ (v : ValueId). number_in s v.0)) none ∙ sym (settler-by None is)

  -- of one
  pub settler-of : (w : ℕ) → o ≡ Some w → value_at (graph_of s) (number_in s w) ≡ option_map (renamed s) (value_of s w) → (x : Option Value) → value_of s w ≡ x
      → (r : Option ValueId) → option_map (λ v. v.0) r ≡ option_and_then (λ v. v.link) x
      → option_map (λ v. number_in s v.0) r ≡ settler_seen s (promises_seen s p) fs
  settler-of w is graph x at r link = by r ∙ ap (option_map (number_in s)) link ∙ sym (settler-by (Some w) is ∙ link-seen s w graph x at)
    where
      by : (r : Option ValueId) → option_map (λ (v : ValueId). number_in s v.0) r ≡ option_map (number_in s) (option_map (λ v. v.0) r)
      by None = refl
      by (Some v) = refl

pub link-told : (s : StoreState) → IsSoundStore s → (w : ℕ) (x : Value) → value_of s w ≡ Some x → (r : Option ValueId) → option_map (λ v. v.0) r ≡ x.link
    → IfSome r (λ v. IsLive s v.0)
link-told s sound w x at None is = tt
link-told s sound w x at (Some v) is = link-live s sound w x at v.0 (sym is)
