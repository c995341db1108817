-- What is under a ticket, and what after the book has changed.
use Rattle.std.proofs.Common.{◌≡◌, ◌∙◌, ℕ, zero, suc, ◌+◌, ◌<◌, ◌==◌, ◌⊎◌, ◌∷◌, Bool, true, false, cond, List, [], slice_get, Option, Some, None, option_map, inl, inr, refl, sym, ap, arith}
use Rattle.std.specs.Option.{unwrap_or}
use Rattle.std.proofs.lemmas.Bool.{eqb-true}
use Rattle.std.proofs.lemmas.Option.{same_Some, slice_get_within}
use Rattle.napi_types.specs.declared.entry.Cause.{Cause}
use Rattle.napi_types.specs.parts.Book.{Book, Registration, TicketState, is_at, changed_from, changed_where, registration_at, new_ticket, with_registration, cause_at}
use Rattle.napi_types.proofs.plain.Counted.{element-push}
use Rattle.napi_types.proofs.plain.Found.{apart-below, same-self, turned}

-- A TICKET THAT WAS GIVEN
pub at-state : (test : TicketState → Bool) (book : Book) (n : ℕ) (r : Registration) → registration_at book n ≡ Some r → is_at test book n ≡ test r.state
at-state test book n r there = ap (λ o. unwrap_or (option_map (λ (q : Registration). test q.state) o) false) there

pub at-cause : (book : Book) (n : ℕ) (r : Registration) → registration_at book n ≡ Some r → cause_at book n ≡ Some r.cause
at-cause book n r there = ap (λ o. option_map (λ (q : Registration). q.cause) o) there

-- what was registered under a ticket, of which this holds
pub record IsUnder (P : Registration → Type 0) (book : Book) (n : ℕ) : Type 0 where
  pub registration : Registration
  pub there : registration_at book n ≡ Some registration
  pub holds : P registration

-- this is why its frame begins
abbrev pub BeginsFor : Cause → Registration → Type 0
BeginsFor why r = r.cause ≡ why

pub under : (book : Book) (n : ℕ) (why : Cause) → cause_at book n ≡ Some why → IsUnder (BeginsFor why) book n
under book n why is = by (registration_at book n) refl is
  where
    by : (o : Option Registration) → registration_at book n ≡ o → option_map (λ (r : Registration). r.cause) o ≡ Some why → IsUnder (BeginsFor why) book n
    by None there told = let no : ⊥ = cc in absurd no
    by (Some r) there told = record { registration = r; there = there; holds = same_Some r.cause why told }

-- its ticket passes a test
abbrev pub PassesTest : (TicketState → Bool) → Registration → Type 0
PassesTest test r = test r.state ≡ true

pub under-ticket : (test : TicketState → Bool) (book : Book) (n : ℕ) → is_at test book n ≡ true → IsUnder (PassesTest test) book n
under-ticket test book n is = by (registration_at book n) refl is
  where
    by : (o : Option Registration) → registration_at book n ≡ o → unwrap_or (option_map (λ (r : Registration). test r.state) o) false ≡ true
        → IsUnder (PassesTest test) book n
    by None there is = let no : ⊥ = cc in absurd no
    by (Some r) there is = record { registration = r; there = there; holds = is }

-- its ticket is below the one that the next registration gets
pub registration-within : (book : Book) (n : ℕ) (r : Registration) → registration_at book n ≡ Some r → n < new_ticket book
registration-within book zero r there = let no : ⊥ = cc in absurd no
registration-within book (suc p) r there = omega (arith, slice_get_within book p r there)

-- REGISTRATIONS ARE CHANGED
-- whatever the change is
slice_get-changed_from : (change : Registration → Registration) (test : ℕ → Bool) (k : ℕ) (rs : List Registration) (p : ℕ)
    → slice_get (changed_from k change test rs) p ≡ option_map (λ r. cond (test (k + p)) (change r) r) (slice_get rs p)
slice_get-changed_from change test k [] p = refl
slice_get-changed_from change test k (r ∷ rs) zero = ap (λ n. Some (cond (test n) (change r) r)) (last k)
  where
    last : (k : ℕ) → k ≡ k + 0
    last k = omega arith
slice_get-changed_from change test k (r ∷ rs) (suc p) =
    slice_get-changed_from change test (suc k) rs p ∙ ap (λ n. option_map (λ (q : Registration). cond (test n) (change q) q) (slice_get rs p)) (next k p)
  where
    next : (k p : ℕ) → suc k + p ≡ k + suc p
    next k p = omega arith

pub registration_at-changed_where : (change : Registration → Registration) (test : ℕ → Bool) (book : Book) (n : ℕ)
    → registration_at (changed_where change test book) n ≡ option_map (λ r. cond (test n) (change r) r) (registration_at book n)
registration_at-changed_where change test book zero = refl
registration_at-changed_where change test book (suc p) =
    slice_get-changed_from change test 1 book p ∙ ap (λ n. option_map (λ (q : Registration). cond (test n) (change q) q) (slice_get book p)) (next p)
  where
    next : (p : ℕ) → 1 + p ≡ suc p
    next p = omega arith

-- it is in the state that it was changed to
pub is_at-changed_where : (passes : TicketState → Bool) (change : Registration → Registration) (test : ℕ → Bool) (book : Book) (n : ℕ) (r : Registration)
    → registration_at book n ≡ Some r → is_at passes (changed_where change test book) n ≡ passes (cond (test n) (change r) r).state
is_at-changed_where passes change test book n r there =
    let now : registration_at (changed_where change test book) n ≡ Some (cond (test n) (change r) r) =
    registration_at-changed_where change test book n ∙ ap (λ o. option_map (λ (q : Registration). cond (test n) (change q) q) o) there in
    at-state passes (changed_where change test book) n (cond (test n) (change r) r) now

-- a change that keeps why the frame begins, as each move does
abbrev pub KeepsCause : (Registration → Registration) → Type 0
KeepsCause change = (r : Registration) → (change r).cause ≡ r.cause

-- then it begins for what it was to begin for
pub cause_at-changed_where : (change : Registration → Registration) → KeepsCause change → (test : ℕ → Bool) (book : Book) (n : ℕ)
    → cause_at (changed_where change test book) n ≡ cause_at book n
cause_at-changed_where change keeps test book n =
    ap (λ o. option_map (λ (r : Registration). r.cause) o) (registration_at-changed_where change test book n) ∙ by (test n) (registration_at book n)
  where
    by : (b : Bool) (o : Option Registration)
        → option_map (λ (r : Registration). r.cause) (option_map (λ (r : Registration). cond b (change r) r) o) ≡ option_map (λ (r : Registration). r.cause) o
    by b None = refl
    by true (Some r) = ap Some (keeps r)
    by false (Some r) = refl

-- A REGISTRATION MORE
registration_at-pushed : (book : Book) (r : Registration) (n : ℕ)
    → registration_at (with_registration r book) n ≡ cond (new_ticket book == n) (Some r) (registration_at book n)
registration_at-pushed book r zero = element-push book r zero
registration_at-pushed book r (suc p) = element-push book r (suc p)

-- the new ticket has it
pub registration_at-new : (book : Book) (r : Registration) → registration_at (with_registration r book) (new_ticket book) ≡ Some r
registration_at-new book r =
    registration_at-pushed book r (new_ticket book) ∙ ap (λ b. cond b (Some r) (registration_at book (new_ticket book))) (same-self (new_ticket book))

-- and every other ticket what it had
pub registration_at-old : (book : Book) (r : Registration) (n : ℕ) → (n == new_ticket book) ≡ false → registration_at (with_registration r book) n ≡ registration_at book n
registration_at-old book r n apart = registration_at-pushed book r n ∙ ap (λ b. cond b (Some r) (registration_at book n)) (turned (new_ticket book) n ∙ apart)

pub registration_at-before : (book : Book) (r : Registration) (n : ℕ) (q : Registration) → registration_at book n ≡ Some q → registration_at (with_registration r book) n ≡ Some q
registration_at-before book r n q there = registration_at-old book r n (apart-below n (new_ticket book) (registration-within book n q there)) ∙ there

-- so it is in the state that it was in
pub is_at-before : (test : TicketState → Bool) (book : Book) (r : Registration) (n : ℕ) (q : Registration) → registration_at book n ≡ Some q
    → is_at test (with_registration r book) n ≡ is_at test book n
is_at-before test book r n q there = at-state test (with_registration r book) n q (registration_at-before book r n q there) ∙ sym (at-state test book n q there)

-- and what is under a ticket was there before, or is new
pub registration_at-either : (book : Book) (r : Registration) (n : ℕ) (q : Registration) → registration_at (with_registration r book) n ≡ Some q
    → (registration_at book n ≡ Some q) ⊎ ((n ≡ new_ticket book) × (r ≡ q))
registration_at-either book r n q there = by (n == new_ticket book) refl
  where
    by : (b : Bool) → (n == new_ticket book) ≡ b → (registration_at book n ≡ Some q) ⊎ ((n ≡ new_ticket book) × (r ≡ q))
    by false apart = inl (sym (registration_at-old book r n apart) ∙ there)
    by true same =
        let here : n ≡ new_ticket book = eqb-true n (new_ticket book) same in
        inr (here, same_Some r q (sym (registration_at-new book r) ∙ ap (registration_at (with_registration r book)) (sym here) ∙ there))
