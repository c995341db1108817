-- What the events of the teardown make of the book: no ticket is given any more, and from `finals` on none falls due.
use Rattle.std.proofs.Common.{◌≡◌, ◌∙◌, ◌<◌, ◌≤◌, ℕ, ◌+◌, ◌==◌, Bool, true, false, cond, refl, ap, sym, Option, Some, None, option_map, ◌⊎◌, inl, inr, arith}
use Rattle.std.specs.Option.{unwrap_or}
use Rattle.std.proofs.lemmas.Bool.{cases_lt, cases_eq}
use Rattle.napi_types.specs.declared.call.Call.{Call}
use Rattle.napi_types.specs.declared.entry.Cause.{Cause}
use Rattle.napi_types.specs.declared.entry.Duty.{Duty}
use Rattle.napi_types.specs.parts.Book.{Book, Registration, TicketState, Due, is_registered, is_due, is_at, made_begun, changed_where, moved, moved_at, registration_at, lowest_due, cause_at}
use Rattle.napi_types.specs.environment.Entering.{asked_change}
use Rattle.napi_types.specs.environment.Environment.{Environment}
use Rattle.napi_types.specs.environment.Moments.{is_tearing}
use Rattle.napi_types.proofs.plain.Found.{same-self, next-above}
use Rattle.napi_types.proofs.parts.Books.{NoneRegistered, lowest-below}
use Rattle.napi_types.proofs.parts.Moved.{registration_at-changed_where, cause_at-changed_where}
use Rattle.napi_types.proofs.parts.Moves.{registration_after, Begins, Ends, registered-before, due-moved, MovesKeep}
use Rattle.napi_types.proofs.environment.FrameChanges.{book_left}
use Rattle.napi_types.proofs.environment.Registrations.{registered-holds, none-kept, torn-new, asked-kept, left-kept}

-- A CHANGE
-- whether what is under a ticket passes a test
abbrev pub tells : (TicketState → Bool) → Option Registration → Bool
tells test o = unwrap_or (option_map (λ r. test r.state) o) false

-- a ticket that passes a test was so before, if the change brings what is under it to no such state
was-at : (is : TicketState → Bool) (change : Registration → Registration) (test : ℕ → Bool) (book : Book) (n : ℕ)
    → ((r : Registration) → registration_at book n ≡ Some r → is (change r).state ≡ true → is r.state ≡ true)
    → is_at is (changed_where change test book) n ≡ true → is_at is book n ≡ true
was-at is change test book n back now = by (test n) (registration_at book n) back (sym (ap (tells is) (registration_at-changed_where change test book n)) ∙ now)
  where
    by : (b : Bool) (o : Option Registration) → ((r : Registration) → o ≡ Some r → is (change r).state ≡ true → is r.state ≡ true)
        → tells is (option_map (λ r. cond b (change r) r) o) ≡ true → tells is o ≡ true
    by b None back now = now
    by true (Some r) back now = back r refl now
    by false (Some r) back now = now

-- a book in which no ticket is registered, and where none was registered none is due, that was not so before; each has its cause
pub record NoneMore (old new : Book) : Type 0 where
  pub causes : (n : ℕ) → cause_at new n ≡ cause_at old n
  pub registered : (n : ℕ) → is_at is_registered new n ≡ true → is_at is_registered old n ≡ true
  pub none : NoneRegistered old → NoneRegistered new
  pub due : NoneRegistered old → (n : ℕ) → is_at is_due new n ≡ true → is_at is_due old n ≡ true

none-more : (book : Book) → NoneMore book book
none-more book = record { causes = λ n. refl; registered = λ n h. h; none = λ none. none; due = λ none n h. h }

-- every move leads to such a book
more-kept : (old : Book) → MovesKeep (NoneMore old)
more-kept old move test book more = record {
  causes = λ n. cause_at-changed_where (registration_after move) (λ r. refl) test book n ∙ more.causes n;
  registered = λ n is. more.registered n (was-at is_registered (registration_after move) test book n (λ r there. registered-before move r.state) is);
  none = λ none. none-kept move test book (more.none none);
  due = λ none n is.
      more.due none n
      (was-at is_due (registration_after move) test book n
      (λ r there. due-moved move r.state (registered-holds (λ q. is_registered q.state ≡ false) n book r there (more.none none))) is);
}

pub begun-more : (n : ℕ) (book : Book) → NoneMore book (moved_at made_begun n book)
begun-more n book = more-kept book Begins (λ m. m == n) book (none-more book)

-- and so does every call of the teardown, and every end of a frame
pub asked-more : (e : Environment) (c : Call) (n : ℕ) → is_tearing e.phase ≡ true → NoneMore e.book (asked_change e c n).after.book
asked-more e c n tearing = asked-kept (NoneMore e.book) (more-kept e.book) e c n (torn-new (NoneMore e.book) e c n tearing) (none-more e.book)

pub left-more : (c : Cause) (d : Option Duty) (book : Book) → NoneMore book (book_left c d book)
left-more c d book = left-kept (NoneMore book) book (λ t. more-kept book Ends (λ m. m == t) book (none-more book)) c d (none-more book)

-- THE LOWEST TICKET BEGINS
-- it is not due any more
not-due : (n : ℕ) (book : Book) → is_at is_due (moved_at made_begun n book) n ≡ false
not-due n book = ap (tells is_due) (registration_at-changed_where (moved made_begun) (λ m. m == n) book n) ∙ by (n == n) (same-self n) (registration_at book n)
  where
    begins : (s : TicketState) → is_due (made_begun s) ≡ false
    begins Due = refl
    begins _ = refl

    by : (b : Bool) → b ≡ true → (o : Option Registration) → tells is_due (option_map (λ r. cond b (moved made_begun r) r) o) ≡ false
    by true is None = refl
    by true is (Some r) = begins r.state
    by false is o = cc

-- so those that are due then are above it
pub left-above : (book : Book) (n k : ℕ) → lowest_due book ≡ Some n → NoneRegistered book → is_at is_due (moved_at made_begun n book) k ≡ true → n < k
left-above book n k lowest none due =
    let before : is_at is_due book k ≡ true = (begun-more n book).due none k due in
    elim (cases_lt k n) [
      | inl less ↦ let no : true ≡ false = sym before ∙ lowest-below book n k lowest less in cc
      | inr from ↦ apart from (cases_eq n k)
    ]
  where
    apart : n ≤ k → (n ≡ k) ⊎ (n ≡ k → ⊥) → n < k
    apart from (inl same) = let z : true ≡ false = sym due ∙ ap (is_at is_due (moved_at made_begun n book)) (sym same) ∙ not-due n book in cc
    apart from (inr other) = let more : n + 1 ≤ k = next-above n k from other in omega (arith, more)
