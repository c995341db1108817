-- What was told of promises is what an environment holds of them: every change keeps it.
use Rattle.std.proofs.Common.{◌≡◌, ◌∙◌, ◌<◌, ◌≤◌, ℕ, ◌+◌, ◌==◌, Bool, true, false, not, cond, List, [], ◌∷◌, ◌++◌, map, filter, Option, Some, None, is_some, option_map, inl, inr, refl, ap, sym, subst, arith}
use Rattle.std.specs.List.{All}
use Rattle.std.specs.Option.{option_and_then, unwrap_or}
use Rattle.std.proofs.lemmas.Bool.{eqb-true, or_left, or_right, or_from}
use Rattle.std.proofs.lemmas.List.Elements.{All-nil, All-head, All-tail, All-cons, All-push, All-weaker, All-filter}
use Rattle.std.proofs.lemmas.List.Folds.{list_any-append}
use Rattle.napi_types.specs.declared.entry.Cause.TheVariants as cause
use Rattle.napi_types.specs.declared.entry.Phase.{Phase}
use Rattle.napi_types.specs.plain.Lists.{found, has, has_number}
use Rattle.napi_types.specs.parts.Bodies.{promise_tag}
use Rattle.napi_types.specs.parts.Book.{Book, Registration, TicketState, Due, is_owed, registration_at, cause_at, TicketsRise}
use Rattle.napi_types.specs.parts.Promises.{Promise, Deferred, Promises, promise_at, is_reaction_of, with_promise}
use Rattle.napi_types.specs.parts.Values.{Value, value_at, link_of, linked_value}
use Rattle.napi_types.specs.environment.Environment.{Environment}
use Rattle.napi_types.specs.environment.Hooked.{is_from_finals_on}
use Rattle.napi_types.specs.environment.PromiseCalls.{reaction_state}
use Rattle.napi_types.specs.all_runs.SettledPromises.{MadeDeferred, SettledDeferred, AddedReaction}
use Rattle.napi_types.proofs.plain.Conditions.{true-or-false}
use Rattle.napi_types.proofs.plain.Found.{found-with_record, found-number, found-All, has-found, apart-below, apart-above, same-self, has-with_number}
use Rattle.napi_types.proofs.plain.Maps.{All-with_record}
use Rattle.napi_types.proofs.all_runs.PromiseBooks.{StaysUnder, SameReactions, KeepsEachLink, more-links}
use Rattle.napi_types.proofs.all_runs.PromiseHistory.{History, settlement_by, state_by, value_by, IsFoundIn, found-of, unfound, has-of, found-still, found-push, settlement-more}

-- WHAT IS HELD
-- what of an environment has to do with promises
pub record PromiseView : Type 0 where
  pub phase : Phase
  pub made : ℕ
  pub values : List Value
  pub promises : Promises
  pub book : Book

abbrev pub view : Environment → PromiseView
view e = record { phase = e.phase; made = e.heap.made; values = e.heap.values; promises = e.promises; book = e.book }

-- how far the ticket of a reaction has come that waits, by whether `finals` came and by the state of its promise
abbrev pub waiting : Bool → ℕ → TicketState
waiting true state = Due
waiting false state = reaction_state state

-- it waits so, with the state of its promise as its hint, and its promise has it
pub record Waits (late : Bool) (given : ℕ) (ps : Promises) (a : AddedReaction) (r : Registration) : Type 0 where
  pub hint : r.hint ≡ given
  pub state : r.state ≡ waiting late given
  pub among : is_reaction_of ps a.promise a.ticket ≡ true

-- a reaction that was added is registered, and waits until it begins
pub record IsTold (h : History) (late : Bool) (ps : Promises) (book : Book) (a : AddedReaction) : Type 0 where
  pub under : found (λ (b : AddedReaction). b.ticket) a.ticket h.added ≡ Some a
  pub made : has (λ (m : MadeDeferred). m.promise) a.promise h.made ≡ true
  pub registration : Registration
  pub there : registration_at book a.ticket ≡ Some registration
  pub cause : registration.cause ≡ cause.Reaction
  pub owed : is_owed registration.state ≡ not (has_number a.ticket h.begun)
  pub waits : is_owed registration.state ≡ true → Waits late (state_by h.made h.settled a.promise) ps a registration

-- the promise to which the reaction of a ticket was added
abbrev pub added_under : List AddedReaction → ℕ → Option ℕ
added_under added t = option_map (λ (a : AddedReaction). a.promise) (found (λ (a : AddedReaction). a.ticket) t added)

-- a promise was made, and has the state and the value with which it was settled; its reactions were added to it
pub record IsKnown (h : History) (vs : List Value) (r : Promise) : Type 0 where
  pub there : is_some (value_at vs r.value) ≡ true
  pub made : has (λ (m : MadeDeferred). m.promise) r.value h.made ≡ true
  pub state : r.state ≡ state_by h.made h.settled r.value
  pub value : link_of vs r.value ≡ value_by h.made h.settled r.value
  pub reactions : All (λ t. added_under h.added t ≡ Some r.value) r.reactions

abbrev pub made_of : ℕ → ℕ → MadeDeferred
made_of d p = record { deferred = d; promise = p }

-- a deferred that is not settled was made with its promise
pub record IsOpen (h : History) (d : Deferred) : Type 0 where
  pub made : found (λ (m : MadeDeferred). m.deferred) d.number h.made ≡ Some (made_of d.number d.promise)
  pub unsettled : has (λ (s : SettledDeferred). s.deferred) d.number h.settled ≡ false

abbrev pub IsIssued : Promises → ℕ → Type 0
IsIssued p n = has_number n p.issued ≡ true

pub record IsHistoryOf (h : History) (v : PromiseView) : Type 0 where
  -- promises and deferreds that were made
  pub below : All (λ m. m.promise ≤ v.made) h.made
  pub issued : All (λ m. IsIssued v.promises m.deferred) h.made
  pub settled : All (λ s. IsIssued v.promises s.deferred) h.settled
  pub apart : All (IsFoundIn h.made) h.made
  -- what no value was made for has no link
  pub unlinked : (n : ℕ) → v.made < n → link_of v.values n ≡ None
  -- the deferreds and the promises that are held
  pub deferreds : All (IsOpen h) v.promises.deferreds
  pub known : All (IsKnown h v.values) v.promises.promises
  -- the reactions that were added, which are those of the book, and those that began
  pub rise : TicketsRise (map (λ (a : AddedReaction). a.ticket) h.added)
  pub told : All (IsTold h (is_from_finals_on v.phase) v.promises v.book) h.added
  pub others : (n : ℕ) → cause_at v.book n ≡ Some cause.Reaction → has (λ (a : AddedReaction). a.ticket) n h.added ≡ true
  pub begun : All (λ t. has (λ (a : AddedReaction). a.ticket) t h.added ≡ true) h.begun
  pub late : is_from_finals_on v.phase ≡ h.finals

-- WORDS
pub has-none : {A : Type 0} (number : A → ℕ) (n : ℕ) (xs : List A) → All (λ x. (number x == n) ≡ false) xs → has number n xs ≡ false
has-none number n [] all = refl
has-none number n (x ∷ xs) all =
    or_from (number x == n) (has number n xs) (All-head (λ y. (number y == n) ≡ false) x xs all)
    (has-none number n xs (All-tail (λ y. (number y == n) ≡ false) x xs all))

-- a number that lacks something has another one than what has it
pub other-number : (P : ℕ → Type 0) (m n : ℕ) → P m → (P n → ⊥) → (m == n) ≡ false
other-number P m n holds lacks = by (m == n) refl
  where
    by : (b : Bool) → (m == n) ≡ b → (m == n) ≡ false
    by false is = is
    by true is = absurd (lacks (subst P (eqb-true m n is) holds))

-- a promise that was made is one of the first values
pub made-below : (h : History) (v : PromiseView) → IsHistoryOf h v → (p : ℕ) → has (λ (m : MadeDeferred). m.promise) p h.made ≡ true → p ≤ v.made
made-below h v k p is =
    let it = found-of (λ (m : MadeDeferred). m.promise) p h.made is in
    subst (λ n. n ≤ v.made) (found-number (λ (m : MadeDeferred). m.promise) p h.made it.0 it.1) (found-All (λ (m : MadeDeferred). m.promise) (λ m. m.promise ≤ v.made) p h.made it.0 k.below it.1)

-- what is told of a ticket's promise is still told
pub under-still : (xs ys : List AddedReaction) (t p : ℕ) → added_under xs t ≡ Some p → added_under (xs ++ ys) t ≡ Some p
under-still xs ys t p is = by (found (λ (a : AddedReaction). a.ticket) t xs) refl is
  where
    by : (o : Option AddedReaction) → found (λ (a : AddedReaction). a.ticket) t xs ≡ o → option_map (λ (a : AddedReaction). a.promise) o ≡ Some p → added_under (xs ++ ys) t ≡ Some p
    by None there is = let no : ⊥ = cc in absurd no
    by (Some a) there is = ap (option_map (λ (a : AddedReaction). a.promise)) (found-still (λ (a : AddedReaction). a.ticket) t xs ys a there) ∙ is

-- a reaction that is told is told of by its ticket
pub told-at : (h : History) (v : PromiseView) → IsHistoryOf h v → (t : ℕ) → has (λ (a : AddedReaction). a.ticket) t h.added ≡ true
    → (a : AddedReaction) × (a.ticket ≡ t) × (IsTold h (is_from_finals_on v.phase) v.promises v.book a)
told-at h v k t is =
    let it = found-of (λ (a : AddedReaction). a.ticket) t h.added is in (
      it.0,
      found-number (λ (a : AddedReaction). a.ticket) t h.added it.0 it.1,
      found-All (λ (a : AddedReaction). a.ticket) (IsTold h (is_from_finals_on v.phase) v.promises v.book) t h.added it.0 k.told it.1,
    )

-- NOTHING IS TOLD
-- the book, the values and how many were made change
pub told-book : (h : History) (late : Bool) (ps : Promises) (b c : Book) (a : AddedReaction) → SameReactions b c → IsTold h late ps b a → IsTold h late ps c a
told-book h late ps b c a same t =
    let s : StaysUnder c a.ticket t.registration = same.forth a.ticket t.registration t.there t.cause in
    record {
      under = t.under;
      made = t.made;
      registration = s.registration;
      there = s.there;
      cause = s.cause;
      owed = s.owed ∙ t.owed;
      waits = λ is.
          let was : is_owed t.registration.state ≡ true = sym s.owed ∙ is in
          subst (Waits late (state_by h.made h.settled a.promise) ps a) (sym (s.same was)) (t.waits was);
    }

pub known-values : (h : History) (m n : ℕ) (vs ws : List Value) (r : Promise) → KeepsEachLink m n vs ws → r.value ≤ m → IsKnown h vs r → IsKnown h ws r
known-values h m n vs ws r links old k = record {
  there = links.stays r.value k.there;
  made = k.made;
  state = k.state;
  value = links.links r.value (inl old) ∙ k.value;
  reactions = k.reactions;
}

pub kept-quiet : (h : History) (v : PromiseView) (made : ℕ) (values : List Value) (book : Book) → v.made ≤ made → KeepsEachLink v.made made v.values values → SameReactions v.book book
    → IsHistoryOf h v → IsHistoryOf h (record v { made = made; values = values; book = book })
kept-quiet h v made values book grows links same k = record {
  below = All-weaker (λ (m : MadeDeferred). m.promise ≤ v.made) (λ m. m.promise ≤ made) (λ m is. omega (arith, is, grows)) h.made k.below;
  issued = k.issued;
  settled = k.settled;
  apart = k.apart;
  unlinked = λ n above. links.links n (inr above) ∙ k.unlinked n (omega (arith, above, grows));
  deferreds = k.deferreds;
  known = All-weaker (IsKnown h v.values) (IsKnown h values)
      (λ r is. known-values h v.made made v.values values r links (made-below h v k r.value is.made) is) v.promises.promises k.known;
  rise = k.rise;
  told = All-weaker (IsTold h (is_from_finals_on v.phase) v.promises v.book) (IsTold h (is_from_finals_on v.phase) v.promises book)
      (λ a is. told-book h (is_from_finals_on v.phase) v.promises v.book book a same is) h.added k.told;
  others = λ n is. k.others n (same.back n is);
  begun = k.begun;
  late = k.late;
}

-- A PROMISE IS MADE
module _ (h : History) (v : PromiseView) (n : ℕ) (k : IsHistoryOf h v) (fresh : has_number n v.promises.issued ≡ false) where
  abbrev p : ℕ
  p = v.made + 1

  abbrev now : History
  now = record h { made = h.made ++ made_of n p ∷ [] }

  abbrev then : PromiseView
  then = record v { made = p; values = v.values ++ linked_value p promise_tag None ∷ []; promises = with_promise p n v.promises }

  pub new-promise : has (λ (m : MadeDeferred). m.promise) p h.made ≡ false
  new-promise = has-none (λ (m : MadeDeferred). m.promise) p h.made
      (All-weaker (λ (m : MadeDeferred). m.promise ≤ v.made) (λ m. (m.promise == p) ≡ false) (λ m is. apart-below m.promise p (omega (arith, is))) h.made k.below)

  pub new-deferred : has (λ (m : MadeDeferred). m.deferred) n h.made ≡ false
  new-deferred = has-none (λ (m : MadeDeferred). m.deferred) n h.made
      (All-weaker (λ (m : MadeDeferred). IsIssued v.promises m.deferred) (λ m. (m.deferred == n) ≡ false)
      (λ m is. other-number (IsIssued v.promises) m.deferred n is (λ its. true-or-false _ its fresh)) h.made k.issued)

  new-settled : has (λ (s : SettledDeferred). s.deferred) n h.settled ≡ false
  new-settled = has-none (λ (s : SettledDeferred). s.deferred) n h.settled
      (All-weaker (λ (s : SettledDeferred). IsIssued v.promises s.deferred) (λ s. (s.deferred == n) ≡ false)
      (λ s is. other-number (IsIssued v.promises) s.deferred n is (λ its. true-or-false _ its fresh)) h.settled k.settled)

  still-issued : (d : ℕ) → IsIssued v.promises d → IsIssued then.promises d
  still-issued d is = has-with_number d n v.promises.issued ∙ or_right (n == d) (has_number d v.promises.issued) is

  here : IsFoundIn now.made (made_of n p)
  here = record {
    deferred = found-push (λ (m : MadeDeferred). m.deferred) h.made (made_of n p) new-deferred;
    promise = found-push (λ (m : MadeDeferred). m.promise) h.made (made_of n p) new-promise;
  }

  links : KeepsEachLink v.made v.made v.values then.values
  links = more-links v.values (linked_value p promise_tag None ∷ []) (All-cons (λ (w : Value). w.link ≡ None) _ [] refl (All-nil (λ (w : Value). w.link ≡ None)))

  more-made : (q : ℕ) → has (λ (m : MadeDeferred). m.promise) q h.made ≡ true → has (λ (m : MadeDeferred). m.promise) q now.made ≡ true
  more-made q is = list_any-append (λ (m : MadeDeferred). m.promise == q) h.made (made_of n p ∷ []) ∙ or_left (has (λ (m : MadeDeferred). m.promise) q h.made) _ is

  same-settlement : (q : ℕ) → has (λ (m : MadeDeferred). m.promise) q h.made ≡ true → settlement_by now.made now.settled q ≡ settlement_by h.made h.settled q
  same-settlement q is = settlement-more h.made (made_of n p ∷ []) h.settled q is

  no-settlement : settlement_by now.made now.settled p ≡ None
  no-settlement =
      ap (option_and_then (λ (m : MadeDeferred). found (λ (s : SettledDeferred). s.deferred) m.deferred h.settled)) here.promise
      ∙ unfound (λ (s : SettledDeferred). s.deferred) n h.settled new-settled

  old-known : (r : Promise) → IsKnown h v.values r → IsKnown now then.values r
  old-known r it = record {
    there = links.stays r.value it.there;
    made = more-made r.value it.made;
    state = it.state ∙ sym (ap (λ o. unwrap_or (option_map (λ (s : SettledDeferred). s.state) o) 0) (same-settlement r.value it.made));
    value = links.links r.value (inl (made-below h v k r.value it.made)) ∙ it.value ∙ sym (ap (option_map (λ (s : SettledDeferred). s.value)) (same-settlement r.value it.made));
    reactions = it.reactions;
  }

  new-known : IsKnown now then.values (record { value = p; state = 0; reactions = [] })
  new-known = record {
    there = sym (has-found (λ (w : Value). w.number) p then.values) ∙ list_any-append (λ (w : Value). w.number == p) v.values (linked_value p promise_tag None ∷ [])
        ∙ or_right (has (λ (w : Value). w.number) p v.values) _ (or_left (p == p) false (same-self p));
    made = has-of (λ (m : MadeDeferred). m.promise) p now.made (made_of n p) here.promise;
    state = sym (ap (λ o. unwrap_or (option_map (λ (s : SettledDeferred). s.state) o) 0) no-settlement);
    value = links.links p (inr (omega arith)) ∙ k.unlinked p (omega arith) ∙ sym (ap (option_map (λ (s : SettledDeferred). s.value)) no-settlement);
    reactions = All-nil (λ t. added_under h.added t ≡ Some p);
  }

  old-told : (a : AddedReaction) → IsTold h (is_from_finals_on v.phase) v.promises v.book a → IsTold now (is_from_finals_on v.phase) then.promises v.book a
  old-told a it =
      let apart : (p == a.promise) ≡ false = apart-above a.promise p (omega (arith, made-below h v k a.promise it.made)) in
      let at : promise_at then.promises a.promise ≡ promise_at v.promises a.promise =
      found-with_record (λ (r : Promise). r.value) a.promise (record { value = p; state = 0; reactions = [] }) v.promises.promises
      ∙ ap (λ b. cond b (Some (record { value = p; state = 0; reactions = [] })) (promise_at v.promises a.promise)) apart in
      let state : state_by h.made h.settled a.promise ≡ state_by now.made now.settled a.promise =
      sym (ap (λ o. unwrap_or (option_map (λ (s : SettledDeferred). s.state) o) 0) (same-settlement a.promise it.made)) in
      record {
        under = it.under;
        made = more-made a.promise it.made;
        registration = it.registration;
        there = it.there;
        cause = it.cause;
        owed = it.owed;
        waits = λ is. let w : Waits (is_from_finals_on v.phase) (state_by h.made h.settled a.promise) v.promises a it.registration = it.waits is in
            record {
              hint = w.hint ∙ state;
              state = w.state ∙ ap (waiting (is_from_finals_on v.phase)) state;
              among = ap (λ (o : Option Promise). has_number a.ticket (unwrap_or (option_map (λ (r : Promise). r.reactions) o) [])) at ∙ w.among;
            };
      }

  pub kept-makes : IsHistoryOf now then
  kept-makes = record {
    below = All-push (λ (m : MadeDeferred). m.promise ≤ p) h.made (made_of n p)
        (All-weaker (λ (m : MadeDeferred). m.promise ≤ v.made) (λ m. m.promise ≤ p) (λ m is. omega (arith, is)) h.made k.below) (omega arith);
    issued = All-push (λ (m : MadeDeferred). IsIssued then.promises m.deferred) h.made (made_of n p)
        (All-weaker (λ (m : MadeDeferred). IsIssued v.promises m.deferred) (λ m. IsIssued then.promises m.deferred) (λ m is. still-issued m.deferred is) h.made k.issued)
        (has-with_number n n v.promises.issued ∙ or_left (n == n) (has_number n v.promises.issued) (same-self n));
    settled = All-weaker (λ (s : SettledDeferred). IsIssued v.promises s.deferred) (λ s. IsIssued then.promises s.deferred) (λ s is. still-issued s.deferred is)
        h.settled k.settled;
    apart = All-push (IsFoundIn now.made) h.made (made_of n p)
        (All-weaker (IsFoundIn h.made) (IsFoundIn now.made) (λ m is. record {
          deferred = found-still (λ (m : MadeDeferred). m.deferred) m.deferred h.made (made_of n p ∷ []) m is.deferred;
          promise = found-still (λ (m : MadeDeferred). m.promise) m.promise h.made (made_of n p ∷ []) m is.promise;
        }) h.made k.apart) here;
    unlinked = λ m above. links.links m (inr (omega (arith, above))) ∙ k.unlinked m (omega (arith, above));
    deferreds = All-with_record (λ (d : Deferred). d.number) (record { number = n; promise = p }) (IsOpen now) (filter (λ d. not (d.promise == p)) v.promises.deferreds)
        (record { made = here.deferred; unsettled = new-settled })
        (All-filter (λ (d : Deferred). not (d.promise == p)) (IsOpen now) v.promises.deferreds
        (All-weaker (IsOpen h) (IsOpen now) (λ d is. record {
          made = found-still (λ (m : MadeDeferred). m.deferred) d.number h.made (made_of n p ∷ []) (made_of d.number d.promise) is.made;
          unsettled = is.unsettled;
        }) v.promises.deferreds k.deferreds));
    known = All-with_record (λ (r : Promise). r.value) (record { value = p; state = 0; reactions = [] }) (IsKnown now then.values) v.promises.promises new-known
        (All-weaker (IsKnown h v.values) (IsKnown now then.values) old-known v.promises.promises k.known);
    rise = k.rise;
    told = All-weaker (IsTold h (is_from_finals_on v.phase) v.promises v.book) (IsTold now (is_from_finals_on v.phase) then.promises v.book) old-told h.added k.told;
    others = k.others;
    begun = k.begun;
    late = k.late;
  }
