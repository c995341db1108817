-- How the book changes, as the hooks and what is attached see it.
use Rattle.std.proofs.Common.{◌≡◌, ◌≢◌, ◌∙◌, ℕ, ◌<◌, ◌==◌, Bool, true, false, not, cond, List, [], ◌∷◌, ◌++◌, map, filter, Option, Some, ⊎_elim, refl, ap, sym, subst}
use Rattle.std.specs.List.{All}
use Rattle.std.proofs.lemmas.Bool.{eqb-true, eq-eqb, or_left, or_right}
use Rattle.std.proofs.lemmas.List.{map-append}
use Rattle.std.proofs.lemmas.Option.{same_Some}
use Rattle.std.proofs.lemmas.List.Elements.{All-nil, All-head, All-tail, All-push, All-map, All-weaker, All-filter, filter_passes}
use Rattle.std.proofs.lemmas.List.Folds.{list_any-append}
use Rattle.std.proofs.lemmas.Map.Views.{any-filter_same}
use Rattle.napi_types.specs.declared.entry.Cause.{Cause}
use Rattle.napi_types.specs.declared.entry.Cause.TheVariants as cause
use Rattle.napi_types.specs.declared.entry.Duty.{Duty}
use Rattle.napi_types.specs.declared.entry.Phase.{Phase}
use Rattle.napi_types.specs.plain.Lists.{has}
use Rattle.napi_types.specs.parts.Book.{Book, Registration, TicketState, Registered, Due, Begun, is_registered, is_owed, is_at, made_begun, made_ended, changed_where, moved, moved_at, new_ticket, registration_at, with_registration, TicketsRise, cause_at}
use Rattle.napi_types.specs.parts.Hooks.{Hook}
use Rattle.napi_types.specs.environment.Hooked.{is_from_finals_on, StandsIn}
use Rattle.napi_types.proofs.plain.Maps.{map-filter}
use Rattle.napi_types.proofs.parts.Moved.{IsUnder, BeginsFor, under, at-state, at-cause, registration-within, registration_at-before, registration_at-new, registration_at-either, KeepsCause, cause_at-changed_where, is_at-changed_where, is_at-before}
use Rattle.napi_types.proofs.environment.FrameChanges.{book_left}
use Rattle.napi_types.proofs.environment.Registrations.{left-kept}

-- RISING TICKETS
pub rise-filter : (test : ℕ → Bool) (ns : List ℕ) → TicketsRise ns → TicketsRise (filter test ns)
rise-filter test [] rise = rise
rise-filter test (n ∷ ns) rise = by (test n) (All-filter test (λ m. n < m) ns rise.0) (rise-filter test ns rise.1)
  where
    by : (b : Bool) → All (λ m. n < m) (filter test ns) → TicketsRise (filter test ns) → TicketsRise (cond b (n ∷ filter test ns) (filter test ns))
    by true above later = (above, later)
    by false above later = later

pub rise-push : (ns : List ℕ) (m : ℕ) → All (λ n. n < m) ns → TicketsRise ns → TicketsRise (ns ++ m ∷ [])
rise-push [] m below rise = (All-nil (λ k. m < k), rise)
rise-push (n ∷ ns) m below rise =
    (All-push (λ k. n < k) ns m rise.0 (All-head (λ k. k < m) n ns below), rise-push ns m (All-tail (λ k. k < m) n ns below) rise.1)

-- A STEP OF THE BOOK
-- each ticket that was given keeps why its frame begins
abbrev pub KeepsCauses : Book → Book → Type 0
KeepsCauses old new = (n : ℕ) (why : Cause) → cause_at old n ≡ Some why → cause_at new n ≡ Some why

-- the tickets of hooks that pass the test stay registered, and no other ticket of a hook is registered or due
pub record SparesHooks (stays : ℕ → Bool) (old new : Book) : Type 0 where
  pub registered : (n : ℕ) → stays n ≡ true → cause_at old n ≡ Some cause.Hook → is_at is_registered old n ≡ true → is_at is_registered new n ≡ true
  pub owed : (n : ℕ) → cause_at new n ≡ Some cause.Hook → is_at is_owed new n ≡ true → (stays n ≡ true) × (cause_at old n ≡ Some cause.Hook) × (is_at is_owed old n ≡ true)

-- all of this up to `finals`, and the first from then on
pub record BookGoes (p : Phase) (stays : ℕ → Bool) (old new : Book) : Type 0 where
  pub causes : KeepsCauses old new
  pub spares : is_from_finals_on p ≡ false → SparesHooks stays old new

pub late-goes : (p : Phase) (stays : ℕ → Bool) (old new : Book) → (is_from_finals_on p ≡ false → ⊥) → KeepsCauses old new → BookGoes p stays old new
late-goes p stays old new late causes = record { causes = causes; spares = λ early. absurd (late early) }

-- every ticket passes, or every other one
abbrev pub every_ticket : ℕ → Bool
every_ticket n = true

abbrev pub all_but_ticket : ℕ → ℕ → Bool
all_but_ticket t n = not (n == t)

pub goes-nowhere : (p : Phase) (book : Book) → BookGoes p every_ticket book book
goes-nowhere p book = record { causes = λ n why is. is; spares = λ early. record { registered = λ n stays hook is. is; owed = λ n hook is. (refl, hook, is) } }

-- ONE REGISTRATION MORE
pub push-causes : (r : Registration) (book : Book) → KeepsCauses book (with_registration r book)
push-causes r book n why is =
    let u : IsUnder (BeginsFor why) book n = under book n why is in
    at-cause (with_registration r book) n u.registration (registration_at-before book r n u.registration u.there) ∙ ap Some u.holds

-- what is registered is no hook
pub push-goes : (p : Phase) (r : Registration) (book : Book) → r.cause ≢ cause.Hook → BookGoes p every_ticket book (with_registration r book)
push-goes p r book other = record { causes = push-causes r book; spares = λ early. record { registered = registered; owed = owed } }
  where
    registered : (n : ℕ) → every_ticket n ≡ true → cause_at book n ≡ Some cause.Hook → is_at is_registered book n ≡ true → is_at is_registered (with_registration r book) n ≡ true
    registered n stays hook is =
        let u : IsUnder (BeginsFor cause.Hook) book n = under book n cause.Hook hook in is_at-before is_registered book r n u.registration u.there ∙ is

    owed : (n : ℕ) → cause_at (with_registration r book) n ≡ Some cause.Hook → is_at is_owed (with_registration r book) n ≡ true
        → (every_ticket n ≡ true) × (cause_at book n ≡ Some cause.Hook) × (is_at is_owed book n ≡ true)
    owed n hook is =
        let u : IsUnder (BeginsFor cause.Hook) (with_registration r book) n = under (with_registration r book) n cause.Hook hook in
        ⊎_elim
        (λ old. (refl, at-cause book n u.registration old ∙ ap Some u.holds, sym (is_at-before is_owed book r n u.registration old) ∙ is))
        (λ new. absurd (other (ap (λ (q : Registration). q.cause) new.1 ∙ u.holds)))
        (registration_at-either book r n u.registration u.there)

-- REGISTRATIONS ARE CHANGED
pub changed-causes : (change : Registration → Registration) → KeepsCause change → (test : ℕ → Bool) (book : Book)
    → KeepsCauses book (changed_where change test book)
changed-causes change keeps test book n why is = cause_at-changed_where change keeps test book n ∙ is

-- what the state of a hook's ticket may become
record SparesState (stays : Bool) (old new : TicketState) : Type 0 where
  pub registered : stays ≡ true → is_registered old ≡ true → is_registered new ≡ true
  pub owed : is_owed new ≡ true → (stays ≡ true) × (is_owed old ≡ true)

same-spares : (s : TicketState) → SparesState true s s
same-spares s = record { registered = λ stays is. is; owed = λ is. (refl, is) }

changed-spares : (stays : ℕ → Bool) (change : Registration → Registration) → KeepsCause change → (test : ℕ → Bool) (book : Book)
    → ((n : ℕ) (r : Registration) → registration_at book n ≡ Some r → r.cause ≡ cause.Hook → SparesState (stays n) r.state (cond (test n) (change r) r).state)
    → SparesHooks stays book (changed_where change test book)
changed-spares stays change keeps test book each = record { registered = registered; owed = owed }
  where
    registered : (n : ℕ) → stays n ≡ true → cause_at book n ≡ Some cause.Hook → is_at is_registered book n ≡ true
        → is_at is_registered (changed_where change test book) n ≡ true
    registered n passes hook is =
        let u : IsUnder (BeginsFor cause.Hook) book n = under book n cause.Hook hook in
        is_at-changed_where is_registered change test book n u.registration u.there
        ∙ (each n u.registration u.there u.holds).registered passes (sym (at-state is_registered book n u.registration u.there) ∙ is)

    owed : (n : ℕ) → cause_at (changed_where change test book) n ≡ Some cause.Hook → is_at is_owed (changed_where change test book) n ≡ true
        → (stays n ≡ true) × (cause_at book n ≡ Some cause.Hook) × (is_at is_owed book n ≡ true)
    owed n hook is =
        let was : cause_at book n ≡ Some cause.Hook = sym (cause_at-changed_where change keeps test book n) ∙ hook in
        let u : IsUnder (BeginsFor cause.Hook) book n = under book n cause.Hook was in
        let kept = (each n u.registration u.there u.holds).owed (sym (is_at-changed_where is_owed change test book n u.registration u.there) ∙ is) in
        (kept.0, was, at-state is_owed book n u.registration u.there ∙ kept.1)

-- a change of tickets alone that are of this cause, which is not that of hooks
pub others-go : (p : Phase) (why : Cause) → why ≢ cause.Hook → (change : Registration → Registration) → KeepsCause change → (test : ℕ → Bool) (book : Book)
    → ((n : ℕ) → test n ≡ true → cause_at book n ≡ Some why) → BookGoes p every_ticket book (changed_where change test book)
others-go p why other change keeps test book theirs =
    record { causes = changed-causes change keeps test book; spares = λ early. changed-spares every_ticket change keeps test book each }
  where
    each : (n : ℕ) (r : Registration) → registration_at book n ≡ Some r → r.cause ≡ cause.Hook → SparesState true r.state (cond (test n) (change r) r).state
    each n r there hook = by (test n) (theirs n)
      where
        by : (b : Bool) → (b ≡ true → cause_at book n ≡ Some why) → SparesState true r.state (cond b (change r) r).state
        by true its =
            let both : Some cause.Hook ≡ Some why = sym (at-cause book n r there ∙ ap Some hook) ∙ its refl in
            absurd (other (sym (same_Some cause.Hook why both)))
        by false its = same-spares r.state

-- of finalizers alone
pub finalizers-go : (p : Phase) (change : Registration → Registration) → KeepsCause change → (test : ℕ → Bool) (book : Book)
    → ((n : ℕ) → test n ≡ true → cause_at book n ≡ Some cause.Finalize) → BookGoes p every_ticket book (changed_where change test book)
finalizers-go p change keeps test book finalizers = others-go p cause.Finalize (λ is. cc) change keeps test book finalizers

-- a change that leaves what is registered, and brings nothing to be due
calm-goes : (p : Phase) (change : Registration → Registration) → KeepsCause change → (test : ℕ → Bool) (book : Book)
    → ((r : Registration) → SparesState true r.state (change r).state) → BookGoes p every_ticket book (changed_where change test book)
calm-goes p change keeps test book calm =
    record {
      causes = changed-causes change keeps test book;
      spares = λ early. changed-spares every_ticket change keeps test book (λ n r there hook. by (test n) r);
    }
  where
    by : (b : Bool) (r : Registration) → SparesState true r.state (cond b (change r) r).state
    by true r = calm r
    by false r = same-spares r.state

ended-calm : (s : TicketState) → SparesState true s (made_ended s)
ended-calm Begun = record { registered = λ stays is. cc; owed = λ is. cc }
ended-calm s = same-spares s

begun-calm : (s : TicketState) → SparesState true s (made_begun s)
begun-calm Due = record { registered = λ stays is. cc; owed = λ is. cc }
begun-calm s = same-spares s

pub begun-goes : (p : Phase) (n : ℕ) (book : Book) → BookGoes p every_ticket book (moved_at made_begun n book)
begun-goes p n book = calm-goes p (moved made_begun) (λ r. refl) (λ m. m == n) book (λ r. begun-calm r.state)

-- the end of a frame
pub left-goes : (p : Phase) (c : Cause) (d : Option Duty) (book : Book) → BookGoes p every_ticket book (book_left c d book)
left-goes p c d book =
    left-kept (BookGoes p every_ticket book) book (λ t. calm-goes p (moved made_ended) (λ r. refl) (λ m. m == t) book (λ r. ended-calm r.state)) c d
    (goes-nowhere p book)

-- one ticket is moved, and is no longer registered or due
pub ticket-goes : (p : Phase) (move : TicketState → TicketState) (t : ℕ) (book : Book) → ((r : Registration) → registration_at book t ≡ Some r → is_owed (move r.state) ≡ false)
    → BookGoes p (all_but_ticket t) book (moved_at move t book)
ticket-goes p move t book gone =
    record {
      causes = changed-causes (moved move) (λ r. refl) (λ m. m == t) book;
      spares = λ early. changed-spares (all_but_ticket t) (moved move) (λ r. refl) (λ m. m == t) book each;
    }
  where
    each : (n : ℕ) (r : Registration) → registration_at book n ≡ Some r → r.cause ≡ cause.Hook
        → SparesState (not (n == t)) r.state (cond (n == t) (moved move r) r).state
    each n r there hook = by (n == t) (λ same. gone r (ap (registration_at book) (sym (eqb-true n t same)) ∙ there))
      where
        by : (b : Bool) → (b ≡ true → is_owed (move r.state) ≡ false) → SparesState (not b) r.state (cond b (moved move r) r).state
        by true not_owed = record { registered = λ stays is. cc; owed = λ is. let no : true ≡ false = sym is ∙ not_owed refl in cc }
        by false not_owed = same-spares r.state

-- THE LIST
-- what the list of hooks and the book say of each other
pub record HooksAgree (p : Phase) (book : Book) (hooks : List Hook) : Type 0 where
  pub rise : TicketsRise (map (λ h. h.ticket) hooks)
  pub stand : All (StandsIn p book) hooks
  pub others : is_from_finals_on p ≡ false → (n : ℕ) → cause_at book n ≡ Some cause.Hook → is_at is_owed book n ≡ true → has (λ h. h.ticket) n hooks ≡ true

-- the book goes a step, and the hooks stay whose tickets pass
pub listed-goes : (p q : Phase) (stays : ℕ → Bool) (old new : Book) (hooks : List Hook) → (is_from_finals_on q ≡ false → is_from_finals_on p ≡ false)
    → BookGoes q stays old new → HooksAgree p old hooks
    → HooksAgree q new (filter (λ h. stays h.ticket) hooks)
listed-goes p q stays old new hooks sooner goes l = record {
  rise = subst TicketsRise (sym (map-filter (λ (h : Hook). h.ticket) (λ h. stays h.ticket) stays (λ h. refl) hooks)) (rise-filter stays (map (λ h. h.ticket) hooks) l.rise);
  stand = λ k d inside. stands _ (filter_passes (λ (h : Hook). stays h.ticket) hooks k d inside) (All-filter (λ h. stays h.ticket) (StandsIn p old) hooks l.stand k d inside);
  others = λ early n hook is.
      let was = (goes.spares early).owed n hook is in
      any-filter_same (λ (h : Hook). h.ticket == n) (λ h. stays h.ticket) true (λ h same. ap stays (eqb-true h.ticket n same) ∙ was.0) hooks ∙ l.others (sooner early) n was.1 was.2;
}
  where
    stands : (h : Hook) → stays h.ticket ≡ true → StandsIn p old h → StandsIn q new h
    stands h passes s = record {
      cause = goes.causes h.ticket cause.Hook s.cause;
      registered = λ early. (goes.spares early).registered h.ticket passes s.cause (s.registered (sooner early));
    }

-- the tickets of hooks were given
pub listed-within : (p : Phase) (book : Book) (hooks : List Hook) → All (StandsIn p book) hooks → All (λ h. h.ticket < new_ticket book) hooks
listed-within p book hooks all = All-weaker (StandsIn p book) (λ h. h.ticket < new_ticket book) within hooks all
  where
    within : (h : Hook) → StandsIn p book h → h.ticket < new_ticket book
    within h s =
        let u : IsUnder (BeginsFor cause.Hook) book h.ticket = under book h.ticket cause.Hook s.cause in
        registration-within book h.ticket u.registration u.there

-- a hook more, the last one
pub listed-push : (p : Phase) (book : Book) (hooks : List Hook) (h : Hook) (r : Registration) → h.ticket ≡ new_ticket book → r.cause ≡ cause.Hook → r.state ≡ Registered → HooksAgree p book hooks
    → HooksAgree p (with_registration r book) (hooks ++ h ∷ [])
listed-push p book hooks h r ticket hook state l = record {
  rise = subst TicketsRise (sym (map-append (λ (x : Hook). x.ticket) hooks (h ∷ []))) (rise-push (map (λ x. x.ticket) hooks) h.ticket below l.rise);
  stand = All-push (StandsIn p now) hooks h (All-weaker (StandsIn p book) (StandsIn p now) stands hooks l.stand) here;
  others = others;
}
  where
    now : Book
    now = with_registration r book

    below : All (λ n. n < h.ticket) (map (λ (x : Hook). x.ticket) hooks)
    below = All-map (λ n. n < h.ticket) (λ (x : Hook). x.ticket) hooks (subst (λ n. All (λ (x : Hook). x.ticket < n) hooks) (sym ticket) (listed-within p book hooks l.stand))

    stands : (x : Hook) → StandsIn p book x → StandsIn p now x
    stands x s =
        let u : IsUnder (BeginsFor cause.Hook) book x.ticket = under book x.ticket cause.Hook s.cause in
        record {
          cause = push-causes r book x.ticket cause.Hook s.cause;
          registered = λ early. is_at-before is_registered book r x.ticket u.registration u.there ∙ s.registered early;
        }

    there : registration_at now h.ticket ≡ Some r
    there = ap (registration_at now) ticket ∙ registration_at-new book r

    here : StandsIn p now h
    here = record { cause = at-cause now h.ticket r there ∙ ap Some hook; registered = λ early. at-state is_registered now h.ticket r there ∙ ap is_registered state }

    others : is_from_finals_on p ≡ false → (n : ℕ) → cause_at now n ≡ Some cause.Hook → is_at is_owed now n ≡ true → has (λ x. x.ticket) n
        (hooks ++ h ∷ []) ≡ true
    others early n why is =
        let u : IsUnder (BeginsFor cause.Hook) now n = under now n cause.Hook why in
        list_any-append (λ (x : Hook). x.ticket == n) hooks (h ∷ [])
        ∙ ⊎_elim
        (λ old. or_left _ _ (l.others early n (at-cause book n u.registration old ∙ ap Some u.holds) (sym (is_at-before is_owed book r n u.registration old) ∙ is)))
        (λ new. or_right (has (λ x. x.ticket) n hooks) _ (or_left (h.ticket == n) false (eq-eqb h.ticket n (ticket ∙ sym new.0))))
        (registration_at-either book r n u.registration u.there)
