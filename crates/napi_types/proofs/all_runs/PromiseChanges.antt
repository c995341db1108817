-- What is told of promises where one is settled.
use Rattle.std.proofs.Common.{◌≡◌, ◌∙◌, ℕ, suc, ◌==◌, Bool, true, false, not, cond, List, [], ◌∷◌, ◌++◌, Option, Some, None, is_some, option_map, refl, ap, sym, subst, arith}
use Rattle.std.specs.Option.{option_and_then, unwrap_or}
use Rattle.std.proofs.lemmas.Bool.{eqb-true, or_left, or_right, or_from}
use Rattle.std.proofs.lemmas.List.Elements.{All-push, All-map, All-weaker, All-filter, filter_passes}
use Rattle.std.proofs.lemmas.List.Folds.{list_any-append}
use Rattle.std.proofs.lemmas.Option.{same_Some}
use Rattle.napi_types.specs.plain.Lists.{found, has, has_number}
use Rattle.napi_types.specs.parts.Book.{Registration, TicketState, Registered, Due, Begun, Ended, Withdrawn, is_registered, is_owed, made_due, moved, with_hint}
use Rattle.napi_types.specs.parts.Promises.{Promise, Deferred, Promises, promise_at, reactions_of, is_reaction_of, deferred_promise, promise_changed, with_settled, with_reaction, made_settled, reactions_settled}
use Rattle.napi_types.specs.parts.Values.{value_at, link_of, value_changed, with_link}
use Rattle.napi_types.specs.environment.Hooked.{is_from_finals_on}
use Rattle.napi_types.specs.all_runs.SettledPromises.{MadeDeferred, SettledDeferred, AddedReaction}
use Rattle.napi_types.proofs.plain.Conditions.{true-or-false}
use Rattle.napi_types.proofs.plain.Found.{found-map, found-number, found-All, apart-above, same-self, turned}
use Rattle.napi_types.proofs.plain.Maps.{among-holds, has-left}
use Rattle.napi_types.proofs.parts.Books.{settled-keeps}
use Rattle.napi_types.proofs.parts.Moved.{registration_at-changed_where, cause_at-changed_where}
use Rattle.napi_types.proofs.all_runs.PromiseBooks.{changed-stays, linked-own, linked-other}
use Rattle.napi_types.proofs.all_runs.PromiseHistory.{History, settlement_by, state_by, IsFoundIn, unfound, has-of, settlement-own, settlement-other}
use Rattle.napi_types.proofs.all_runs.PromiseStates.{PromiseView, waiting, Waits, IsTold, added_under, IsKnown, made_of, IsOpen, IsIssued, IsHistoryOf, made-below}

-- the reactions of a promise were added to it
pub reaction-under : (h : History) (v : PromiseView) → IsHistoryOf h v → (p t : ℕ) → is_reaction_of v.promises p t ≡ true → added_under h.added t ≡ Some p
reaction-under h v k p t is = by (promise_at v.promises p) refl is
  where
    by : (o : Option Promise) → promise_at v.promises p ≡ o → has_number t (unwrap_or (option_map (λ (r : Promise). r.reactions) o) []) ≡ true
        → added_under h.added t ≡ Some p
    by None there is = cc
    by (Some r) there is =
        let its : IsKnown h v.values r = found-All (λ (q : Promise). q.value) (IsKnown h v.values) p v.promises.promises r k.known there in
        among-holds (λ m. added_under h.added m ≡ Some r.value) r.reactions t its.reactions is
        ∙ ap Some (found-number (λ (q : Promise). q.value) p v.promises.promises r there)

-- PROMISES THAT ARE CHANGED
-- the promise that was changed so is found
promise_at-changed : (change : Promise → Promise) → ((r : Promise) → (change r).value ≡ r.value) → (x : ℕ) (ps : List Promise) (p : ℕ)
    → found (λ (r : Promise). r.value) p (promise_changed change x ps) ≡ option_map (λ r. cond (r.value == x) (change r) r) (found (λ (r : Promise). r.value) p ps)
promise_at-changed change value x ps p = found-map (λ (r : Promise). r.value) (λ r. cond (r.value == x) (change r) r) (λ r. by r (r.value == x)) p ps
  where
    by : (r : Promise) (b : Bool) → (cond b (change r) r).value ≡ r.value
    by r true = value r
    by r false = refl

-- it has the reactions that it had, ..
pub settled-reactions : (n x state : ℕ) (ps : Promises) (p : ℕ) → reactions_of (with_settled n x state ps) p ≡ reactions_of ps p
settled-reactions n x state ps p =
    ap (λ (o : Option Promise). unwrap_or (option_map (λ (r : Promise). r.reactions) o) [])
    (promise_at-changed (λ r. record r { state = state }) (λ r. refl) x ps.promises p)
    ∙ by (promise_at ps p)
  where
    each : (r : Promise) (b : Bool) → (cond b (record r { state = state }) r).reactions ≡ r.reactions
    each r true = refl
    each r false = refl

    by : (o : Option Promise) → unwrap_or (option_map (λ (r : Promise). r.reactions) (option_map (λ r. cond (r.value == x) (record r { state = state }) r) o)) []
        ≡ unwrap_or (option_map (λ (r : Promise). r.reactions) o) []
    by None = refl
    by (Some r) = each r (r.value == x)

-- .. or one more
pub more-reactions : (x t : ℕ) (ps : Promises) (p m : ℕ) → is_reaction_of ps p m ≡ true → is_reaction_of (with_reaction x t ps) p m ≡ true
more-reactions x t ps p m is =
    ap (λ (o : Option Promise). has_number m (unwrap_or (option_map (λ (r : Promise). r.reactions) o) []))
    (promise_at-changed (λ r. record r { reactions = r.reactions ++ t ∷ [] }) (λ r. refl) x ps.promises p)
    ∙ by (promise_at ps p) is
  where
    each : (r : Promise) (b : Bool) → has_number m r.reactions ≡ true → has_number m (cond b (record r { reactions = r.reactions ++ t ∷ [] }) r).reactions ≡ true
    each r true is = has-left m r.reactions (t ∷ []) is
    each r false is = is

    by : (o : Option Promise) → has_number m (unwrap_or (option_map (λ (r : Promise). r.reactions) o) []) ≡ true
        → has_number m (unwrap_or (option_map (λ (r : Promise). r.reactions) (option_map (λ r. cond (r.value == x) (record r { reactions = r.reactions ++ t ∷ [] }) r) o)) []) ≡ true
    by None is = is
    by (Some r) is = each r (r.value == x) is

-- .. the new one too
pub new-reaction : (x t : ℕ) (ps : Promises) (q : Promise) → promise_at ps x ≡ Some q → is_reaction_of (with_reaction x t ps) x t ≡ true
new-reaction x t ps q at =
    ap (λ (o : Option Promise). has_number t (unwrap_or (option_map (λ (r : Promise). r.reactions) o) []))
    (promise_at-changed (λ r. record r { reactions = r.reactions ++ t ∷ [] }) (λ r. refl) x ps.promises x
    ∙ ap (option_map (λ r. cond (r.value == x) (record r { reactions = r.reactions ++ t ∷ [] }) r)) at)
    ∙ ap (λ b. has_number t (cond b (record q { reactions = q.reactions ++ t ∷ [] }) q).reactions)
    (ap (λ m. m == x) (found-number (λ (r : Promise). r.value) x ps.promises q at) ∙ same-self x)
    ∙ list_any-append (λ m. m == t) q.reactions (t ∷ []) ∙ or_right (has_number t q.reactions) _ (or_left (t == t) false (same-self t))

-- A DEFERRED IS SETTLED
settled-cause : (state : ℕ) (r : Registration) → (made_settled state r).cause ≡ r.cause
settled-cause state r = by (is_registered r.state)
  where
    by : (b : Bool) → (cond b (moved made_due (with_hint state r)) r).cause ≡ r.cause
    by true = refl
    by false = refl

module _ (h : History) (v : PromiseView) (n p x j : ℕ) (k : IsHistoryOf h v) (given : deferred_promise v.promises n ≡ Some p) (early : is_from_finals_on v.phase ≡ false) where
  abbrev s : SettledDeferred
  s = record { deferred = n; state = suc j; value = x }

  abbrev settled_now : History
  settled_now = record h { settled = h.settled ++ s ∷ [] }

  abbrev settled_then : PromiseView
  settled_then = record v {
    values = value_changed p (with_link x) v.values;
    promises = with_settled n p (suc j) v.promises;
    book = reactions_settled (suc j) (reactions_of v.promises p) v.book;
  }

  open-at : IsOpen h (record { number = n; promise = p })
  open-at = by (found (λ (d : Deferred). d.number) n v.promises.deferreds) refl given
    where
      same : (d : Deferred) → d.number ≡ n → d.promise ≡ p → d ≡ record { number = n; promise = p }
      same d numbers promises = rw (sym numbers, sym promises) refl

      by : (o : Option Deferred) → found (λ (d : Deferred). d.number) n v.promises.deferreds ≡ o → option_map (λ (d : Deferred). d.promise) o ≡ Some p
          → IsOpen h (record { number = n; promise = p })
      by None there is = let no : ⊥ = cc in absurd no
      by (Some d) there is =
          subst (IsOpen h) (same d (found-number (λ (d : Deferred). d.number) n v.promises.deferreds d there) (same_Some d.promise p is))
          (found-All (λ (d : Deferred). d.number) (IsOpen h) n v.promises.deferreds d k.deferreds there)

  pub was-made : has (λ (m : MadeDeferred). m.deferred) n h.made ≡ true
  was-made = has-of (λ (m : MadeDeferred). m.deferred) n h.made (made_of n p) open-at.made

  pub was-unsettled : has (λ (s : SettledDeferred). s.deferred) n h.settled ≡ false
  was-unsettled = open-at.unsettled

  its : IsFoundIn h.made (made_of n p)
  its = found-All (λ (m : MadeDeferred). m.deferred) (IsFoundIn h.made) n h.made (made_of n p) k.apart open-at.made

  before : settlement_by h.made h.settled p ≡ None
  before = ap (option_and_then (λ (m : MadeDeferred). found (λ (s : SettledDeferred). s.deferred) m.deferred h.settled)) its.promise
      ∙ unfound (λ (s : SettledDeferred). s.deferred) n h.settled open-at.unsettled

  own : (q : ℕ) → (q == p) ≡ true → settlement_by h.made settled_now.settled q ≡ Some s
  own q is = ap (settlement_by h.made settled_now.settled) (eqb-true q p is) ∙ settlement-own h.made h.settled (made_of n p) s its refl open-at.unsettled

  other : (q : ℕ) → has (λ (m : MadeDeferred). m.promise) q h.made ≡ true → (q == p) ≡ false
      → settlement_by h.made settled_now.settled q ≡ settlement_by h.made h.settled q
  other q made apart = settlement-other h.made h.settled (made_of n p) s q k.apart its refl made apart

  abbrev of_state : Option SettledDeferred → ℕ
  of_state o = unwrap_or (option_map (λ (s : SettledDeferred). s.state) o) 0

  settled-known : (r : Promise) → IsKnown h v.values r → (b : Bool) → (r.value == p) ≡ b
      → IsKnown settled_now settled_then.values (cond b (record r { state = suc j }) r)
  settled-known r it true is =
      let same : r.value ≡ p = eqb-true r.value p is in
      record {
        there = changed-stays p (with_link x) (λ v. refl) v.values r.value it.there;
        made = it.made;
        state = sym (ap of_state (own r.value is));
        value = ap (link_of settled_then.values) same ∙ linked-own p x v.values (ap (λ m. is_some (value_at v.values m)) (sym same) ∙ it.there)
            ∙ sym (ap (option_map (λ (s : SettledDeferred). s.value)) (own r.value is));
        reactions = it.reactions;
      }
  settled-known r it false is = record {
    there = changed-stays p (with_link x) (λ v. refl) v.values r.value it.there;
    made = it.made;
    state = it.state ∙ sym (ap of_state (other r.value it.made is));
    value = linked-other p x v.values r.value is ∙ it.value ∙ sym (ap (option_map (λ (s : SettledDeferred). s.value)) (other r.value it.made is));
    reactions = it.reactions;
  }

  -- what is under the ticket of a reaction then
  abbrev after_settling : AddedReaction → Registration → Registration
  after_settling a r = cond (has_number a.ticket (reactions_of v.promises p)) (made_settled (suc j) r) r

  same-cause : (b : Bool) (r : Registration) → (cond b (made_settled (suc j) r) r).cause ≡ r.cause
  same-cause true r = settled-cause (suc j) r
  same-cause false r = refl

  same-owed : (b : Bool) (r : Registration) → is_owed (cond b (made_settled (suc j) r) r).state ≡ is_owed r.state
  same-owed true r = settled-keeps (suc j) r
  same-owed false r = refl

  -- one of this promise falls due
  falls-due : (a : AddedReaction) (r : Registration) (b : Bool) → b ≡ true → r.state ≡ Registered
      → (cond b (made_settled (suc j) r) r).hint ≡ suc j × (cond b (made_settled (suc j) r) r).state ≡ Due
  falls-due a r true is registered = by r.state registered
    where
      by : (t : TicketState) → t ≡ Registered → ((cond (is_registered t) (moved made_due (with_hint (suc j) (record r { state = t }))) (record r { state = t })).hint ≡ suc j)
          × ((cond (is_registered t) (moved made_due (with_hint (suc j) (record r { state = t }))) (record r { state = t })).state ≡ Due)
      by Registered is = (refl, refl)
      by Due is = cc
      by Begun is = cc
      by Ended is = cc
      by Withdrawn is = cc
  falls-due a r false is registered = let no : ⊥ = cc in absurd no

  settled-waits : (a : AddedReaction) (it : IsTold h (is_from_finals_on v.phase) v.promises v.book a) → is_owed it.registration.state ≡ true → (b : Bool) → (a.promise == p) ≡ b
      → Waits (is_from_finals_on v.phase) (state_by h.made settled_now.settled a.promise) settled_then.promises a (after_settling a it.registration)
  settled-waits a it is true same =
      let w : Waits (is_from_finals_on v.phase) (state_by h.made h.settled a.promise) v.promises a it.registration = it.waits is in
      let one : a.promise ≡ p = eqb-true a.promise p same in
      let none : state_by h.made h.settled a.promise ≡ 0 = ap (state_by h.made h.settled) one ∙ ap of_state before in
      let registered : it.registration.state ≡ Registered = w.state ∙ ap (λ b. waiting b (state_by h.made h.settled a.promise)) early ∙ ap (waiting false) none in
      let falls = falls-due a it.registration (has_number a.ticket (reactions_of v.promises p)) (ap (λ q. is_reaction_of v.promises q a.ticket) (sym one) ∙ w.among) registered in
      let told : state_by h.made settled_now.settled a.promise ≡ suc j = ap of_state (own a.promise same) in
      record {
        hint = falls.0 ∙ sym told;
        state = falls.1 ∙ sym (ap (λ b. waiting b (state_by h.made settled_now.settled a.promise)) early ∙ ap (waiting false) told);
        among = ap (has_number a.ticket) (settled-reactions n p (suc j) v.promises a.promise) ∙ w.among;
      }
  settled-waits a it is false apart =
      let w : Waits (is_from_finals_on v.phase) (state_by h.made h.settled a.promise) v.promises a it.registration = it.waits is in
      let told : state_by h.made settled_now.settled a.promise ≡ state_by h.made h.settled a.promise = ap of_state (other a.promise it.made apart) in
      let stays : after_settling a it.registration ≡ it.registration = by (has_number a.ticket (reactions_of v.promises p)) refl in
      record {
        hint = ap (λ (r : Registration). r.hint) stays ∙ w.hint ∙ sym told;
        state = ap (λ (r : Registration). r.state) stays ∙ w.state ∙ sym (ap (waiting (is_from_finals_on v.phase)) told);
        among = ap (has_number a.ticket) (settled-reactions n p (suc j) v.promises a.promise) ∙ w.among;
      }
    where
      by : (b : Bool) → has_number a.ticket (reactions_of v.promises p) ≡ b → cond b (made_settled (suc j) it.registration) it.registration ≡ it.registration
      by false is = refl
      by true is =
          let one : a.promise ≡ p = same_Some a.promise p (sym (ap (option_map (λ (b : AddedReaction). b.promise)) it.under) ∙ reaction-under h v k p a.ticket is) in
          absurd (true-or-false (a.promise == p) (ap (λ q. q == p) one ∙ same-self p) apart)

  settled-told : (a : AddedReaction) → IsTold h (is_from_finals_on v.phase) v.promises v.book a → IsTold settled_now (is_from_finals_on v.phase) settled_then.promises settled_then.book a
  settled-told a it =
      let b : Bool = has_number a.ticket (reactions_of v.promises p) in
      record {
        under = it.under;
        made = it.made;
        registration = after_settling a it.registration;
        there = registration_at-changed_where (made_settled (suc j)) (λ m. has_number m (reactions_of v.promises p)) v.book a.ticket
            ∙ ap (option_map (λ (r : Registration). cond b (made_settled (suc j) r) r)) it.there;
        cause = same-cause b it.registration ∙ it.cause;
        owed = same-owed b it.registration ∙ it.owed;
        waits = λ is. settled-waits a it (sym (same-owed b it.registration) ∙ is) (a.promise == p) refl;
      }

  settled-open : (d : Deferred) → not (d.number == n) ≡ true → IsOpen h d → IsOpen settled_now d
  settled-open d passes it = record {
    made = it.made;
    unsettled = list_any-append (λ (s : SettledDeferred). s.deferred == d.number) h.settled (s ∷ [])
        ∙ or_from (has (λ (s : SettledDeferred). s.deferred) d.number h.settled) _ it.unsettled (or_from (n == d.number) false (turned n d.number ∙ by (d.number == n) passes) refl);
  }
    where
      by : (b : Bool) → not b ≡ true → b ≡ false
      by true is = cc
      by false is = refl

  pub kept-settles : IsHistoryOf settled_now settled_then
  kept-settles = record {
    below = k.below;
    issued = k.issued;
    settled = All-push (λ (s : SettledDeferred). IsIssued v.promises s.deferred) h.settled s k.settled
        (found-All (λ (m : MadeDeferred). m.deferred) (λ m. IsIssued v.promises m.deferred) n h.made (made_of n p) k.issued open-at.made);
    apart = k.apart;
    unlinked = λ m above. linked-other p x v.values m
        (apart-above p m (omega (arith, above, made-below h v k p (has-of (λ (m : MadeDeferred). m.promise) p h.made (made_of n p) its.promise)))) ∙ k.unlinked m above;
    deferreds = λ i d inside. settled-open _ (filter_passes (λ (d : Deferred). not (d.number == n)) v.promises.deferreds i d inside)
        (All-filter (λ (d : Deferred). not (d.number == n)) (IsOpen h) v.promises.deferreds k.deferreds i d inside);
    known = All-map (IsKnown settled_now settled_then.values) (λ (r : Promise). cond (r.value == p) (record r { state = suc j }) r) v.promises.promises
        (All-weaker (IsKnown h v.values) (λ r. IsKnown settled_now settled_then.values (cond (r.value == p) (record r { state = suc j }) r))
        (λ r it. settled-known r it (r.value == p) refl) v.promises.promises k.known);
    rise = k.rise;
    told = All-weaker (IsTold h (is_from_finals_on v.phase) v.promises v.book)
        (IsTold settled_now (is_from_finals_on v.phase) settled_then.promises settled_then.book) settled-told h.added k.told;
    others = λ m is. k.others m
        (sym (cause_at-changed_where (made_settled (suc j)) (settled-cause (suc j)) (λ m. has_number m (reactions_of v.promises p)) v.book m) ∙ is);
    begun = k.begun;
    late = k.late;
  }
