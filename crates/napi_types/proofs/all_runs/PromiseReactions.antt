-- What is told of promises where a reaction is added, begins or ends, where `finals` comes, and where values are collected.
use Rattle.std.proofs.Common.{◌≡◌, ◌∙◌, ◌<◌, ℕ, zero, suc, ◌==◌, Bool, true, false, not, ◌&&◌, ◌||◌, cond, List, [], ◌∷◌, ◌++◌, map, filter, Option, Some, None, is_some, option_map, ⊎_elim, refl, ap, sym, subst}
use Rattle.std.specs.List.{All}
use Rattle.std.specs.Option.{option_and_then, unwrap_or}
use Rattle.std.proofs.lemmas.Bool.{eqb-true, or_left, or_right}
use Rattle.std.proofs.lemmas.List.{map-append}
use Rattle.std.proofs.lemmas.List.Elements.{All-push, All-map, All-weaker, All-filter, filter_passes}
use Rattle.std.proofs.lemmas.List.Folds.{list_any-append}
use Rattle.std.proofs.lemmas.Option.{same_Some}
use Rattle.napi_types.specs.declared.entry.Cause.TheVariants as cause
use Rattle.napi_types.specs.declared.entry.Phase.{Phase}
use Rattle.napi_types.specs.declared.entry.Phase.TheVariants as phase
use Rattle.napi_types.specs.plain.Lists.{found, has, has_number}
use Rattle.napi_types.specs.parts.Book.{Book, Registration, Due, is_owed, is_at, made_due, made_begun, moved, moved_at, all_due, new_ticket, with_registration, registration_at, TicketsRise}
use Rattle.napi_types.specs.parts.Promises.{Promise, Deferred, Promises, promise_at, is_reaction_of, with_reaction, without_reaction, promises_left}
use Rattle.napi_types.specs.parts.Values.{Value, value_at, link_of, those_of}
use Rattle.napi_types.specs.environment.Collection.{is_freed}
use Rattle.napi_types.specs.environment.Hooked.{is_from_finals_on}
use Rattle.napi_types.specs.environment.PromiseCalls.{reaction_state}
use Rattle.napi_types.specs.all_runs.SettledPromises.{MadeDeferred, SettledDeferred, AddedReaction}
use Rattle.napi_types.proofs.plain.Conditions.{true-or-false}
use Rattle.napi_types.proofs.plain.Found.{found-map, found-filter, found-number, found-All, apart-below, same-self, turned}
use Rattle.napi_types.proofs.plain.Maps.{among-holds}
use Rattle.napi_types.proofs.parts.Books.{due-keeps}
use Rattle.napi_types.proofs.parts.Moved.{IsUnder, BeginsFor, under, at-state, at-cause, registration-within, registration_at-changed_where, cause_at-changed_where, registration_at-before, registration_at-new, registration_at-either}
use Rattle.napi_types.proofs.parts.Reaching.{has_number-filter}
use Rattle.napi_types.proofs.environment.AnswersKeep.{reaction-owed}
use Rattle.napi_types.proofs.environment.HookedBooks.{rise-push}
use Rattle.napi_types.proofs.all_runs.PromiseBooks.{SameReactions, those-same, those-none}
use Rattle.napi_types.proofs.all_runs.PromiseHistory.{History, state_by, found-still, found-push}
use Rattle.napi_types.proofs.all_runs.PromiseStates.{PromiseView, waiting, Waits, IsTold, added_under, IsKnown, IsOpen, IsHistoryOf, has-none, under-still, told-book}
use Rattle.napi_types.proofs.all_runs.PromiseChanges.{more-reactions, new-reaction}

-- A REACTION IS ADDED
module _ (h : History) (v : PromiseView) (x : ℕ) (q : Promise) (r : Registration) (k : IsHistoryOf h v) (at : promise_at v.promises x ≡ Some q)
    (early : is_from_finals_on v.phase ≡ false) (why : r.cause ≡ cause.Reaction) (hint : r.hint ≡ q.state) (far : r.state ≡ reaction_state q.state) where
  abbrev t : ℕ
  t = new_ticket v.book

  abbrev a : AddedReaction
  a = record { ticket = t; promise = x }

  abbrev added_now : History
  added_now = record h { added = h.added ++ a ∷ [] }

  abbrev added_then : PromiseView
  added_then = record v { promises = with_reaction x t v.promises; book = with_registration r v.book }

  its : IsKnown h v.values q
  its = found-All (λ (r : Promise). r.value) (IsKnown h v.values) x v.promises.promises q k.known at

  same : q.value ≡ x
  same = found-number (λ (r : Promise). r.value) x v.promises.promises q at

  pub promise-made : has (λ (m : MadeDeferred). m.promise) x h.made ≡ true
  promise-made = ap (λ p. has (λ (m : MadeDeferred). m.promise) p h.made) (sym same) ∙ its.made

  below : All (λ (b : AddedReaction). b.ticket < t) h.added
  below = All-weaker (IsTold h (is_from_finals_on v.phase) v.promises v.book) (λ (b : AddedReaction). b.ticket < t)
      (λ b it. registration-within v.book b.ticket it.registration it.there) h.added k.told

  pub ticket-new : has (λ (b : AddedReaction). b.ticket) t h.added ≡ false
  ticket-new = has-none (λ (b : AddedReaction). b.ticket) t h.added
      (All-weaker (λ (b : AddedReaction). b.ticket < t) (λ b. (b.ticket == t) ≡ false) (λ b is. apart-below b.ticket t is) h.added below)

  unbegun : has_number t h.begun ≡ false
  unbegun = by (has_number t h.begun) refl
    where
      by : (b : Bool) → has_number t h.begun ≡ b → b ≡ false
      by false is = refl
      by true is = absurd (true-or-false _ (among-holds (λ m. has (λ (b : AddedReaction). b.ticket) m h.added ≡ true) h.begun t k.begun is) ticket-new)

  more-added : (m : ℕ) → has (λ (b : AddedReaction). b.ticket) m h.added ≡ true → has (λ (b : AddedReaction). b.ticket) m added_now.added ≡ true
  more-added m is = list_any-append (λ (b : AddedReaction). b.ticket == m) h.added (a ∷ []) ∙ or_left (has (λ (b : AddedReaction). b.ticket) m h.added) _ is

  added-known : (r : Promise) → IsKnown h v.values r → (b : Bool) → (r.value == x) ≡ b
      → IsKnown added_now v.values (cond b (record r { reactions = r.reactions ++ t ∷ [] }) r)
  added-known r it b is = record {
    there = ap (λ n. is_some (value_at v.values n)) (value b) ∙ it.there;
    made = ap (λ n. has (λ (m : MadeDeferred). m.promise) n h.made) (value b) ∙ it.made;
    state = state b ∙ it.state ∙ sym (ap (state_by h.made h.settled) (value b));
    value = ap (link_of v.values) (value b) ∙ it.value ∙ sym (ap (λ n. value_of n) (value b));
    reactions = reactions b is;
  }
    where
      value_of : ℕ → Option ℕ
      value_of n = option_map (λ (s : SettledDeferred). s.value) (option_and_then (λ (m : MadeDeferred). found (λ (s : SettledDeferred). s.deferred) m.deferred h.settled) (found (λ (m : MadeDeferred). m.promise) n h.made))

      value : (b : Bool) → (cond b (record r { reactions = r.reactions ++ t ∷ [] }) r).value ≡ r.value
      value true = refl
      value false = refl

      state : (b : Bool) → (cond b (record r { reactions = r.reactions ++ t ∷ [] }) r).state ≡ r.state
      state true = refl
      state false = refl

      old : All (λ m. added_under added_now.added m ≡ Some r.value) r.reactions
      old = All-weaker (λ m. added_under h.added m ≡ Some r.value) (λ m. added_under added_now.added m ≡ Some r.value)
          (λ m is. under-still h.added (a ∷ []) m r.value is) r.reactions it.reactions

      reactions : (b : Bool) → (r.value == x) ≡ b
          → All (λ m. added_under added_now.added m ≡ Some (cond b (record r { reactions = r.reactions ++ t ∷ [] }) r).value)
          (cond b (record r { reactions = r.reactions ++ t ∷ [] }) r).reactions
      reactions true is = All-push (λ m. added_under added_now.added m ≡ Some r.value) r.reactions t old
          (ap (option_map (λ (b : AddedReaction). b.promise)) (found-push (λ (b : AddedReaction). b.ticket) h.added a ticket-new) ∙ ap Some (sym (eqb-true r.value x is)))
      reactions false is = old

  added-told : (b : AddedReaction) → IsTold h (is_from_finals_on v.phase) v.promises v.book b
      → IsTold added_now (is_from_finals_on v.phase) added_then.promises added_then.book b
  added-told b it = record {
    under = found-still (λ (b : AddedReaction). b.ticket) b.ticket h.added (a ∷ []) b it.under;
    made = it.made;
    registration = it.registration;
    there = registration_at-before v.book r b.ticket it.registration it.there;
    cause = it.cause;
    owed = it.owed;
    waits = λ is. let w : Waits (is_from_finals_on v.phase) (state_by h.made h.settled b.promise) v.promises b it.registration = it.waits is in
        record { hint = w.hint; state = w.state; among = more-reactions x t v.promises b.promise b.ticket w.among };
  }

  new-told : IsTold added_now (is_from_finals_on v.phase) added_then.promises added_then.book a
  new-told =
      let state : q.state ≡ state_by h.made h.settled x = its.state ∙ ap (state_by h.made h.settled) same in
      record {
        under = found-push (λ (b : AddedReaction). b.ticket) h.added a ticket-new;
        made = promise-made;
        registration = r;
        there = registration_at-new v.book r;
        cause = why;
        owed = ap is_owed far ∙ reaction-owed q.state ∙ sym (ap not unbegun);
        waits = λ is. record {
          hint = hint ∙ state;
          state = far ∙ ap reaction_state state ∙ sym (ap (λ b. waiting b (state_by h.made h.settled x)) early);
          among = new-reaction x t v.promises q at;
        };
      }

  pub kept-adds : IsHistoryOf added_now added_then
  kept-adds = record {
    below = k.below;
    issued = k.issued;
    settled = k.settled;
    apart = k.apart;
    unlinked = k.unlinked;
    deferreds = All-weaker (IsOpen h) (IsOpen added_now) (λ d is. record { made = is.made; unsettled = is.unsettled }) v.promises.deferreds k.deferreds;
    known = All-map (IsKnown added_now v.values) (λ (r : Promise). cond (r.value == x) (record r { reactions = r.reactions ++ t ∷ [] }) r) v.promises.promises
        (All-weaker (IsKnown h v.values) (λ r. IsKnown added_now v.values (cond (r.value == x) (record r { reactions = r.reactions ++ t ∷ [] }) r))
        (λ r it. added-known r it (r.value == x) refl) v.promises.promises k.known);
    rise = subst TicketsRise (sym (map-append (λ (b : AddedReaction). b.ticket) h.added (a ∷ [])))
        (rise-push (map (λ (b : AddedReaction). b.ticket) h.added) t (All-map (λ m. m < t) (λ (b : AddedReaction). b.ticket) h.added below) k.rise);
    told = All-push (IsTold added_now (is_from_finals_on v.phase) added_then.promises added_then.book) h.added a
        (All-weaker (IsTold h (is_from_finals_on v.phase) v.promises v.book) (IsTold added_now (is_from_finals_on v.phase) added_then.promises added_then.book)
        added-told h.added k.told) new-told;
    others = λ m is.
        let u : IsUnder (BeginsFor cause.Reaction) (with_registration r v.book) m = under (with_registration r v.book) m cause.Reaction is in
        ⊎_elim (λ old. more-added m (k.others m (at-cause v.book m u.registration old ∙ ap Some u.holds)))
        (λ new. list_any-append (λ (b : AddedReaction). b.ticket == m) h.added (a ∷ [])
        ∙ or_right (has (λ (b : AddedReaction). b.ticket) m h.added) _ (or_left (t == m) false (ap (λ n. t == n) new.0 ∙ same-self t)))
        (registration_at-either v.book r m u.registration u.there);
    begun = All-weaker (λ t. has (λ (b : AddedReaction). b.ticket) t h.added ≡ true) (λ t. has (λ (b : AddedReaction). b.ticket) t added_now.added ≡ true) more-added h.begun k.begun;
    late = k.late;
  }

-- THE PHASE GOES ON
pub kept-phase : (h : History) (v : PromiseView) (p : Phase) → is_from_finals_on p ≡ is_from_finals_on v.phase → IsHistoryOf h v → IsHistoryOf h (record v { phase = p })
kept-phase h v p same k = record {
  below = k.below;
  issued = k.issued;
  settled = k.settled;
  apart = k.apart;
  unlinked = k.unlinked;
  deferreds = k.deferreds;
  known = k.known;
  rise = k.rise;
  told = subst (λ b. All (IsTold h b v.promises v.book) h.added) (sym same) k.told;
  others = k.others;
  begun = k.begun;
  late = same ∙ k.late;
}

-- all that waits falls due
pub kept-finals : (h : History) (v : PromiseView) → is_from_finals_on v.phase ≡ false → IsHistoryOf h v
    → IsHistoryOf (record h { finals = true }) (record v { phase = phase.Finals; book = all_due v.book })
kept-finals h v early k = record {
  below = k.below;
  issued = k.issued;
  settled = k.settled;
  apart = k.apart;
  unlinked = k.unlinked;
  deferreds = All-weaker (IsOpen h) (IsOpen (record h { finals = true })) (λ d is. record { made = is.made; unsettled = is.unsettled }) v.promises.deferreds k.deferreds;
  known = All-weaker (IsKnown h v.values) (IsKnown (record h { finals = true }) v.values)
      (λ r is. record { there = is.there; made = is.made; state = is.state; value = is.value; reactions = is.reactions }) v.promises.promises k.known;
  rise = k.rise;
  told = All-weaker (IsTold h (is_from_finals_on v.phase) v.promises v.book) (IsTold (record h { finals = true }) true v.promises (all_due v.book)) told h.added k.told;
  others = λ n is. k.others n (sym (cause_at-changed_where (moved made_due) (λ r. refl) (λ m. true) v.book n) ∙ is);
  begun = k.begun;
  late = refl;
}
  where
    falls : (state : ℕ) → made_due (waiting false state) ≡ Due
    falls zero = refl
    falls (suc n) = refl

    told : (a : AddedReaction) → IsTold h (is_from_finals_on v.phase) v.promises v.book a → IsTold (record h { finals = true }) true v.promises (all_due v.book) a
    told a it = record {
      under = it.under;
      made = it.made;
      registration = moved made_due it.registration;
      there = registration_at-changed_where (moved made_due) (λ m. true) v.book a.ticket ∙ ap (option_map (moved made_due)) it.there;
      cause = it.cause;
      owed = due-keeps it.registration.state ∙ it.owed;
      waits = λ is.
          let w : Waits (is_from_finals_on v.phase) (state_by h.made h.settled a.promise) v.promises a it.registration = it.waits (sym (due-keeps it.registration.state) ∙ is) in
          record {
            hint = w.hint;
            state = ap made_due (w.state ∙ ap (λ b. waiting b (state_by h.made h.settled a.promise)) early) ∙ falls (state_by h.made h.settled a.promise);
            among = w.among;
          };
    }

-- A REACTION BEGINS
module _ (h : History) (v : PromiseView) (n : ℕ) (r : Registration) (k : IsHistoryOf h v) (there : registration_at v.book n ≡ Some r) (why : r.cause ≡ cause.Reaction)
    (due : r.state ≡ Due) where
  abbrev begun_now : History
  begun_now = record h { begun = h.begun ++ n ∷ [] }

  pub was-added : has (λ (b : AddedReaction). b.ticket) n h.added ≡ true
  was-added = k.others n (at-cause v.book n r there ∙ ap Some why)

  began : (a : AddedReaction) → IsTold h (is_from_finals_on v.phase) v.promises v.book a → (b : Bool) → (a.ticket == n) ≡ b
      → IsTold begun_now (is_from_finals_on v.phase) v.promises (moved_at made_begun n v.book) a
  began a it true is =
      let one : r ≡ it.registration = same_Some r it.registration (sym there ∙ ap (registration_at v.book) (sym (eqb-true a.ticket n is)) ∙ it.there) in
      let gone : is_owed (made_begun it.registration.state) ≡ false = ap (λ (q : Registration). is_owed (made_begun q.state)) (sym one) ∙ ap (λ s. is_owed (made_begun s)) due in
      record {
        under = it.under;
        made = it.made;
        registration = moved made_begun it.registration;
        there = registration_at-changed_where (moved made_begun) (λ m. m == n) v.book a.ticket
            ∙ ap (option_map (λ (q : Registration). cond (a.ticket == n) (moved made_begun q) q)) it.there
            ∙ ap (λ b. Some (cond b (moved made_begun it.registration) it.registration)) is;
        cause = it.cause;
        owed = gone ∙ sym (ap not (list_any-append (λ m. m == a.ticket) h.begun (n ∷ [])
            ∙ or_right (has_number a.ticket h.begun) _ (or_left (n == a.ticket) false (turned n a.ticket ∙ is))));
        waits = λ is. absurd (true-or-false _ is gone);
      }
  began a it false is = record {
    under = it.under;
    made = it.made;
    registration = it.registration;
    there = registration_at-changed_where (moved made_begun) (λ m. m == n) v.book a.ticket
        ∙ ap (option_map (λ (q : Registration). cond (a.ticket == n) (moved made_begun q) q)) it.there
        ∙ ap (λ b. Some (cond b (moved made_begun it.registration) it.registration)) is;
    cause = it.cause;
    owed = it.owed ∙ sym (ap not (list_any-append (λ m. m == a.ticket) h.begun (n ∷ [])
        ∙ ap (λ b. has_number a.ticket h.begun || (b || false)) (turned n a.ticket ∙ is) ∙ or-none (has_number a.ticket h.begun)));
    waits = it.waits;
  }
    where
      or-none : (b : Bool) → (b || (false || false)) ≡ b
      or-none true = refl
      or-none false = refl

  pub kept-begins : IsHistoryOf begun_now (record v { book = moved_at made_begun n v.book })
  kept-begins = record {
    below = k.below;
    issued = k.issued;
    settled = k.settled;
    apart = k.apart;
    unlinked = k.unlinked;
    deferreds = All-weaker (IsOpen h) (IsOpen begun_now) (λ d is. record { made = is.made; unsettled = is.unsettled }) v.promises.deferreds k.deferreds;
    known = All-weaker (IsKnown h v.values) (IsKnown begun_now v.values)
        (λ r is. record { there = is.there; made = is.made; state = is.state; value = is.value; reactions = is.reactions }) v.promises.promises k.known;
    rise = k.rise;
    told = All-weaker (IsTold h (is_from_finals_on v.phase) v.promises v.book) (IsTold begun_now (is_from_finals_on v.phase) v.promises (moved_at made_begun n v.book))
        (λ a it. began a it (a.ticket == n) refl) h.added k.told;
    others = λ m is. k.others m (sym (cause_at-changed_where (moved made_begun) (λ r. refl) (λ m. m == n) v.book m) ∙ is);
    begun = All-push (λ t. has (λ (b : AddedReaction). b.ticket) t h.added ≡ true) h.begun n k.begun was-added;
    late = k.late;
  }

-- A REACTION ENDS
-- others stay
other-reactions : (t : ℕ) (ps : Promises) (p m : ℕ) → (m == t) ≡ false → is_reaction_of ps p m ≡ true → is_reaction_of (without_reaction t ps) p m ≡ true
other-reactions t ps p m apart is =
    ap (λ (o : Option Promise). has_number m (unwrap_or (option_map (λ (r : Promise). r.reactions) o) []))
    (found-map (λ (r : Promise). r.value) (λ r. record r { reactions = filter (λ m. not (m == t)) r.reactions }) (λ r. refl) p ps.promises)
    ∙ by (promise_at ps p) is
  where
    by : (o : Option Promise) → has_number m (unwrap_or (option_map (λ (r : Promise). r.reactions) o) []) ≡ true
        → has_number m (unwrap_or (option_map (λ (r : Promise). r.reactions) (option_map (λ (r : Promise). record r { reactions = filter (λ m. not (m == t)) r.reactions }) o)) []) ≡ true
    by None is = is
    by (Some r) is = has_number-filter m (λ m. not (m == t)) r.reactions ∙ ap (λ b. not b && has_number m r.reactions) apart ∙ is

pub kept-ended : (h : History) (v : PromiseView) (t : ℕ) (book : Book) → is_at is_owed v.book t ≡ false → SameReactions v.book book → IsHistoryOf h v
    → IsHistoryOf h (record v { promises = without_reaction t v.promises; book = book })
kept-ended h v t book spent same k = record {
  below = k.below;
  issued = k.issued;
  settled = k.settled;
  apart = k.apart;
  unlinked = k.unlinked;
  deferreds = k.deferreds;
  known = All-map (IsKnown h v.values) (λ (r : Promise). record r { reactions = filter (λ m. not (m == t)) r.reactions }) v.promises.promises
      (All-weaker (IsKnown h v.values) (λ r. IsKnown h v.values (record r { reactions = filter (λ m. not (m == t)) r.reactions }))
      (λ r it. record {
        there = it.there;
        made = it.made;
        state = it.state;
        value = it.value;
        reactions = All-filter (λ m. not (m == t)) (λ m. added_under h.added m ≡ Some r.value) r.reactions it.reactions;
      }) v.promises.promises k.known);
  rise = k.rise;
  told = All-weaker (IsTold h (is_from_finals_on v.phase) v.promises v.book) (IsTold h (is_from_finals_on v.phase) (without_reaction t v.promises) book)
      (λ a it. told-book h (is_from_finals_on v.phase) (without_reaction t v.promises) v.book book a same (left a it)) h.added k.told;
  others = λ n is. k.others n (same.back n is);
  begun = k.begun;
  late = k.late;
}
  where
    apart : (a : AddedReaction) (r : Registration) → registration_at v.book a.ticket ≡ Some r → is_owed r.state ≡ true → (b : Bool) → (a.ticket == t) ≡ b → b ≡ false
    apart a r there owed false is = refl
    apart a r there owed true is =
        absurd (true-or-false _ (ap (is_at is_owed v.book) (sym (eqb-true a.ticket t is)) ∙ at-state is_owed v.book a.ticket r there ∙ owed) spent)

    left : (a : AddedReaction) → IsTold h (is_from_finals_on v.phase) v.promises v.book a → IsTold h (is_from_finals_on v.phase) (without_reaction t v.promises) v.book a
    left a it = record {
      under = it.under;
      made = it.made;
      registration = it.registration;
      there = it.there;
      cause = it.cause;
      owed = it.owed;
      waits = λ is. let w : Waits (is_from_finals_on v.phase) (state_by h.made h.settled a.promise) v.promises a it.registration = it.waits is in
          record { hint = w.hint; state = w.state; among = other-reactions t v.promises a.promise a.ticket (apart a it.registration it.there is (a.ticket == t) refl) w.among };
    }

-- A COLLECTION
-- each promise that has a reaction stays
pub kept-collected : (h : History) (v : PromiseView) (alive : List ℕ) (book : Book)
    → ((p t : ℕ) → is_reaction_of v.promises p t ≡ true → has_number p alive ≡ true) → SameReactions v.book book → IsHistoryOf h v
    → IsHistoryOf h (record v { values = those_of alive v.values; promises = promises_left (is_freed alive) v.promises; book = book })
kept-collected h v alive book rooted same k = record {
  below = k.below;
  issued = k.issued;
  settled = k.settled;
  apart = k.apart;
  unlinked = λ n above. those-none alive v.values n (k.unlinked n above);
  deferreds = All-filter (λ (d : Deferred). not (is_freed alive d.promise)) (IsOpen h) v.promises.deferreds k.deferreds;
  known = λ i d inside. stays _ (filter_passes (λ (r : Promise). not (is_freed alive r.value)) v.promises.promises i d inside)
      (All-filter (λ (r : Promise). not (is_freed alive r.value)) (IsKnown h v.values) v.promises.promises k.known i d inside);
  rise = k.rise;
  told = All-weaker (IsTold h (is_from_finals_on v.phase) v.promises v.book) (IsTold h (is_from_finals_on v.phase) (promises_left (is_freed alive) v.promises) book)
      (λ a it. told-book h (is_from_finals_on v.phase) (promises_left (is_freed alive) v.promises) v.book book a same (left a it)) h.added k.told;
  others = λ n is. k.others n (same.back n is);
  begun = k.begun;
  late = k.late;
}
  where
    unfreed : (b : Bool) → not (not b) ≡ true → b ≡ true
    unfreed true is = refl
    unfreed false is = is

    stays : (r : Promise) → not (is_freed alive r.value) ≡ true → IsKnown h v.values r → IsKnown h (those_of alive v.values) r
    stays r passes it =
        let at : value_at (those_of alive v.values) r.value ≡ value_at v.values r.value = those-same alive v.values r.value (unfreed (has_number r.value alive) passes) in
        record {
          there = ap is_some at ∙ it.there;
          made = it.made;
          state = it.state;
          value = ap (option_and_then (λ (w : Value). w.link)) at ∙ it.value;
          reactions = it.reactions;
        }

    among : (p t : ℕ) → is_reaction_of v.promises p t ≡ true → is_reaction_of (promises_left (is_freed alive) v.promises) p t ≡ true
    among p t is =
        ap (λ (o : Option Promise). has_number t (unwrap_or (option_map (λ (r : Promise). r.reactions) o) []))
        (found-filter (λ (r : Promise). r.value) (λ n. not (is_freed alive n)) p v.promises.promises
        ∙ ap (λ b. cond (not (not b)) (promise_at v.promises p) None) (rooted p t is)) ∙ is

    left : (a : AddedReaction) → IsTold h (is_from_finals_on v.phase) v.promises v.book a
        → IsTold h (is_from_finals_on v.phase) (promises_left (is_freed alive) v.promises) v.book a
    left a it = record {
      under = it.under;
      made = it.made;
      registration = it.registration;
      there = it.there;
      cause = it.cause;
      owed = it.owed;
      waits = λ is. let w : Waits (is_from_finals_on v.phase) (state_by h.made h.settled a.promise) v.promises a it.registration = it.waits is in
          record { hint = w.hint; state = w.state; among = among a.promise a.ticket w.among };
    }
