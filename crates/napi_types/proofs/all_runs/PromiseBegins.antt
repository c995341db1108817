-- Where the frame of a reaction begins: what it tells may be told.
use Rattle.std.proofs.Common.{◌≡◌, ◌≢◌, ◌∙◌, ◌<◌, ℕ, ◌==◌, Bool, true, false, not, cond, List, [], ◌∷◌, ◌++◌, map, filter, Option, Some, option_map, ◌⊎◌, inl, inr, refl, ap, sym, subst}
use Rattle.std.specs.List.{All}
use Rattle.std.proofs.lemmas.Bool.{eqb-true}
use Rattle.std.proofs.lemmas.List.Elements.{All-nil, All-head, All-cons, All-map, All-weaker, All-filter, filter_passes}
use Rattle.std.proofs.lemmas.Option.{same_Some}
use Rattle.napi_types.specs.declared.entry.Cause.{Cause}
use Rattle.napi_types.specs.declared.entry.Cause.TheVariants as cause
use Rattle.napi_types.specs.declared.entry.Duty.{Duty}
use Rattle.napi_types.specs.declared.entry.Out.TheVariants as out
use Rattle.napi_types.specs.declared.entry.Phase.{Phase}
use Rattle.napi_types.specs.declared.entry.Phase.TheVariants as phase
use Rattle.napi_types.specs.plain.Lists.{found, has_number}
use Rattle.napi_types.specs.parts.Book.{Registration, TicketState, Registered, Due, is_due, is_owed, made_begun, moved, moved_at, begun_in, may_begin_in, registration_at, lowest_due, cause_at, TicketsRise, ticket_duty}
use Rattle.napi_types.specs.parts.Hooks.{Hook}
use Rattle.napi_types.specs.environment.Environment.{Environment}
use Rattle.napi_types.specs.environment.Hooked.{is_from_finals_on, StandsIn, IsHooked}
use Rattle.napi_types.specs.environment.PromiseCalls.{reaction_state}
use Rattle.napi_types.specs.environment.Tickets.{ticket_in, next_ticket}
use Rattle.napi_types.specs.all_runs.SettledPromises as told
use Rattle.napi_types.specs.all_runs.SettledPromises.{PromiseFact, AddedReaction, told_begun, told_reactions, EarlierHaveBegun}
use Rattle.napi_types.proofs.plain.Conditions.{true-or-false}
use Rattle.napi_types.proofs.plain.Lists.{All-left, All-right, of-map}
use Rattle.napi_types.proofs.parts.Books.{lowest-below}
use Rattle.napi_types.proofs.parts.Moved.{at-state, at-cause}
use Rattle.napi_types.proofs.environment.HookedSteps.{standing-holds}
use Rattle.napi_types.proofs.all_runs.Orders.{last-among}
use Rattle.napi_types.proofs.all_runs.PromiseBooks.{others-same}
use Rattle.napi_types.proofs.all_runs.PromiseHistory.{History, history, state_by, history-begins}
use Rattle.napi_types.proofs.all_runs.PromiseReactions.{was-added, kept-begins}
use Rattle.napi_types.proofs.all_runs.PromiseStates.{view, waiting, Waits, IsTold, IsHistoryOf, told-at}
use Rattle.napi_types.proofs.all_runs.PromiseTells.{Keeps, tells_one, none-told}
use Rattle.napi_types.proofs.all_runs.QuietCalls.{quiet-same, quiet-book, quiet-kept}

-- RISING TICKETS
rise-sub : (test : AddedReaction → Bool) (xs : List AddedReaction) → TicketsRise (map (λ (a : AddedReaction). a.ticket) xs) → TicketsRise (map (λ (a : AddedReaction). a.ticket) (filter test xs))
rise-sub test [] rise = rise
rise-sub test (x ∷ xs) rise = by (test x) (rise-sub test xs rise.1)
  where
    above : All (λ m. x.ticket < m) (map (λ (a : AddedReaction). a.ticket) (filter test xs))
    above = All-map (λ m. x.ticket < m) (λ (a : AddedReaction). a.ticket) (filter test xs)
        (All-filter test (λ (a : AddedReaction). x.ticket < a.ticket) xs (of-map (λ m. x.ticket < m) (λ (a : AddedReaction). a.ticket) xs rise.0))

    by : (b : Bool) → TicketsRise (map (λ (a : AddedReaction). a.ticket) (filter test xs))
        → TicketsRise (map (λ (a : AddedReaction). a.ticket) (cond b (x ∷ filter test xs) (filter test xs)))
    by true rest = (above, rest)
    by false rest = rest

-- those that stand before one are below it
rise-before : (earlier later : List ℕ) (n : ℕ) → TicketsRise (earlier ++ n ∷ later) → All (λ m. m < n) earlier
rise-before [] later n rise = All-nil (λ m. m < n)
rise-before (m ∷ earlier) later n rise =
    All-cons (λ m. m < n) m earlier (All-head (λ k. m < k) n later (All-right (λ k. m < k) earlier (n ∷ later) rise.0)) (rise-before earlier later n rise.1)

-- WHICH TICKETS BEGIN
-- where that of a reaction begins, it is the lowest one that is due
pub record BeginsLowestDue (e : Environment) (n : ℕ) (r : Registration) (p : Phase) : Type 0 where
  pub lowest : lowest_due e.book ≡ Some n
  pub due : r.state ≡ Due
  pub move : begun_in p ≡ made_begun

pub due-only : (s : TicketState) → is_due s ≡ true → s ≡ Due
due-only Due is = refl
due-only _ is = cc

-- in Hooks those of hooks do
pub hooks-begin : (e : Environment) (n : ℕ) → IsHooked e → ticket_in e phase.Hooks ≡ Some n → cause_at e.book n ≡ Some cause.Hook
hooks-begin e n h next =
    standing-holds (λ t. cause_at e.book t ≡ Some cause.Hook) n e.hooks
    (All-weaker (StandsIn e.phase e.book) (λ (x : Hook). cause_at e.book x.ticket ≡ Some cause.Hook) (λ x stands. stands.cause) e.hooks h.hooks)
    (last-among e.hooks n next)

pub begins-lowest : (e : Environment) (n : ℕ) (r : Registration) (p : Phase) → IsHooked e → registration_at e.book n ≡ Some r → r.cause ≡ cause.Reaction
    → ticket_in e p ≡ Some n → may_begin_in p r.state ≡ true → BeginsLowestDue e n r p
begins-lowest e n r phase.Live h there why next may = record { lowest = next; due = due-only r.state may; move = refl }
begins-lowest e n r phase.Finals h there why next may = record { lowest = next; due = due-only r.state may; move = refl }
begins-lowest e n r phase.Hooks h there why next may =
    let no : cause.Reaction ≡ cause.Hook = same_Some cause.Reaction cause.Hook (sym (at-cause e.book n r there ∙ ap Some why) ∙ hooks-begin e n h next) in
    absurd (let z : ⊥ = cc in z)
begins-lowest e n r _ h there why next may = let no : ⊥ = cc in absurd no

-- A REACTION BEGINS
module _ (ts : List PromiseFact) (e : Environment) (n : ℕ) (r : Registration) (k : IsHistoryOf (history ts) (view e)) (there : registration_at e.book n ≡ Some r)
    (why : r.cause ≡ cause.Reaction) (due : r.state ≡ Due) (lowest : lowest_due e.book ≡ Some n) where
  abbrev h : History
  h = history ts

  abbrev late : Bool
  late = is_from_finals_on e.phase

  its : (a : AddedReaction) × (a.ticket ≡ n) × (IsTold h late e.promises e.book a)
  its = told-at h (view e) k n (was-added h (view e) n r k there why due)

  abbrev a : AddedReaction
  a = its.0

  abbrev it : IsTold h late e.promises e.book a
  it = its.2

  same : it.registration ≡ r
  same = same_Some it.registration r (sym it.there ∙ ap (registration_at e.book) its.1 ∙ there)

  owed : is_owed it.registration.state ≡ true
  owed = ap (λ (q : Registration). is_owed q.state) same ∙ ap is_owed due

  waits : Waits late (state_by h.made h.settled a.promise) e.promises a it.registration
  waits = it.waits owed

  not-true : (b : Bool) → true ≡ not b → b ≡ false
  not-true true is = let no : ⊥ = cc in absurd no
  not-true false is = refl

  unbegun : has_number n h.begun ≡ false
  unbegun = ap (λ m. has_number m h.begun) (sym its.1) ∙ not-true (has_number a.ticket h.begun) (sym owed ∙ it.owed)

  -- where its promise was not settled `finals` came
  pending-late : (b : Bool) (state : ℕ) → Due ≡ waiting b state → state ≡ 0 → b ≡ true
  pending-late true state is none = refl
  pending-late false state is none = let no : Due ≡ Registered = is ∙ ap reaction_state none in cc

  -- the earlier ones
  is-due : it.registration.state ≡ Due
  is-due = ap (λ (q : Registration). q.state) same ∙ due

  begun-below : (b : AddedReaction) → (b.promise == a.promise) ≡ true → IsTold h late e.promises e.book b → b.ticket < n → has_number b.ticket h.begun ≡ true
  begun-below b one t below = by (has_number b.ticket h.begun) refl
    where
      by : (c : Bool) → has_number b.ticket h.begun ≡ c → c ≡ true
      by true is = refl
      by false is =
          let w : Waits late (state_by h.made h.settled b.promise) e.promises b t.registration = t.waits (t.owed ∙ ap not is) in
          let state : t.registration.state ≡ Due =
          w.state ∙ ap (λ p. waiting late (state_by h.made h.settled p)) (eqb-true b.promise a.promise one) ∙ sym waits.state ∙ is-due in
          absurd (true-or-false _ (at-state is_due e.book b.ticket t.registration t.there ∙ ap is_due state) (lowest-below e.book n b.ticket lowest below))

  earlier-begun : EarlierHaveBegun ts a.promise n
  earlier-begun earlier later parts =
      let test : AddedReaction → Bool = λ b. b.promise == a.promise in
      let all : All (λ m. m < n → has_number m h.begun ≡ true) (told_reactions ts a.promise) =
      All-map (λ m. m < n → has_number m h.begun ≡ true) (λ (b : AddedReaction). b.ticket) (filter test h.added)
      (λ i d inside. begun-below _ (filter_passes test h.added i d inside) (All-filter test (IsTold h late e.promises e.book) h.added k.told i d inside)) in
      let first : All (λ m. m < n → has_number m h.begun ≡ true) earlier =
      All-left (λ m. m < n → has_number m h.begun ≡ true) earlier (n ∷ later) (subst (All (λ m. m < n → has_number m h.begun ≡ true)) parts all) in
      let below : All (λ m. m < n) earlier = rise-before earlier later n (subst TicketsRise parts (rise-sub test h.added k.rise)) in
      λ i d inside. first i d inside (below i d inside)

  pub reaction-begins : Keeps ts (told.Begins n r.hint ∷ []) (record (view e) { book = moved_at made_begun n e.book })
  reaction-begins =
      tells_one (told.Begins n r.hint) (record (view e) { book = moved_at made_begun n e.book })
      (told.begins n r.hint a.promise (ap (λ m. option_map (λ (b : AddedReaction). b.promise) (found (λ (b : AddedReaction). b.ticket) m h.added)) (sym its.1)
      ∙ ap (option_map (λ (b : AddedReaction). b.promise)) it.under)
      unbegun (sym (ap (λ (q : Registration). q.hint) same) ∙ waits.hint)
      (λ none. sym k.late ∙ pending-late late (state_by h.made h.settled a.promise) (sym is-due ∙ waits.state)
      (sym waits.hint ∙ ap (λ (q : Registration). q.hint) same ∙ none))
      earlier-begun)
      (subst (λ (g : History). IsHistoryOf g (record (view e) { book = moved_at made_begun n e.book })) (sym (history-begins ts n r.hint))
      (kept-begins h (view e) n r k there why due))

-- ANY TICKET BEGINS
reaction-or : (c : Cause) → (c ≡ cause.Reaction) ⊎ (c ≢ cause.Reaction)
reaction-or cause.Reaction = inl refl
reaction-or _ = inr (λ is. cc)

told-other : (c : Cause) → c ≢ cause.Reaction → (state addon entry : ℕ) (d : Option Duty) → told_begun state (out.Begin c addon entry d) ≡ []
told-other cause.Reaction other state addon entry d = absurd (other refl)
told-other _ other state addon entry d = refl

-- whatever state is told, it is the hint
pub ticket-begins : (ts : List PromiseFact) (e : Environment) (n : ℕ) (r : Registration) (state : ℕ) → IsHistoryOf (history ts) (view e) → IsHooked e
    → registration_at e.book n ≡ Some r → next_ticket e ≡ Some n → may_begin_in e.phase r.state ≡ true → state ≡ r.hint
    → Keeps ts (told_begun state (out.Begin r.cause r.addon r.entry (Some (ticket_duty n)))) (record (view e) { book = moved_at (begun_in e.phase) n e.book })
ticket-begins ts e n r state k hooked there next may hint = by (reaction-or r.cause)
  where
    by : (r.cause ≡ cause.Reaction) ⊎ (r.cause ≢ cause.Reaction)
        → Keeps ts (told_begun state (out.Begin r.cause r.addon r.entry (Some (ticket_duty n)))) (record (view e) { book = moved_at (begun_in e.phase) n e.book })
    by (inl why) =
        let b : BeginsLowestDue e n r e.phase = begins-lowest e n r e.phase hooked there why next may in
        subst (λ c. Keeps ts (told_begun state (out.Begin c r.addon r.entry (Some (ticket_duty n)))) (record (view e) { book = moved_at (begun_in e.phase) n e.book }))
        (sym why)
        (subst (λ move. Keeps ts (told.Begins n state ∷ []) (record (view e) { book = moved_at move n e.book })) (sym b.move)
        (subst (λ s. Keeps ts (told.Begins n s ∷ []) (record (view e) { book = moved_at made_begun n e.book })) (sym hint)
        (reaction-begins ts e n r k there why b.due b.lowest)))
    by (inr other) =
        none-told ts _ _ _ (told-other r.cause other state r.addon r.entry (Some (ticket_duty n))) refl
        (quiet-kept (history ts) (view e) (record (view e) { book = moved_at (begun_in e.phase) n e.book })
        (quiet-book (view e) (view e) (moved_at (begun_in e.phase) n e.book)
        (others-same (moved (begun_in e.phase)) (λ r. refl) (λ m. m == n) e.book
        (λ m is its. other (same_Some r.cause cause.Reaction (sym (at-cause e.book n r there) ∙ ap (cause_at e.book) (sym (eqb-true m n is)) ∙ its))))
        (quiet-same (view e))) k)
